use Rattle.std.proofs.Common.{subst}
use Rattle.std.proofs.lemmas.List.{take_all}
use Rattle.pc_accept.specs.Sets.{block_of}
use Rattle.pc_checker.specs.Drafts.{AreWritten}
use Rattle.pc_checker.proofs.ClaimLemmas.{first_entry}
use Rattle.pc_checker.proofs.DraftLemmas.{nothing_written}
use Rattle.pc_checker.proofs.BlockLemmas.{block_more}
use Rattle.pc_checker.proofs.sets.write_unmarked.Goals as goal

pub loop-entry-init : goal.loop-entry-init
loop-entry-init c = λ used marked. nothing_written c.args.draft.now

pub loop-entry-preserved : goal.loop-entry-preserved
loop-entry-preserved c = λ used marked.
    block_more used c.args.draft.now c.loop-entry.draft c.write_if_unmarked.new.draft c.args.entries.now c.loop-entry.entry-index first_entry c.loop-entry-test.true (c.loop-entry.invariant used marked) (c.in_ok-write_if_unmarked.ensures used marked)

pub returns : goal.returns
returns c = λ used marked.
    subst (λ xs. AreWritten c.args.draft.now c.loop-entry.draft (block_of xs used)) (take_all c.loop-entry.entry-index c.args.entries.now c.loop-entry-test.false) (c.loop-entry.invariant used marked)
