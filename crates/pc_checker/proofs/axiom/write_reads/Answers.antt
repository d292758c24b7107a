use Rattle.std.proofs.Common.{map, subst}
use Rattle.std.proofs.lemmas.List.{take_all}
use Rattle.pc_accept.specs.Axioms.{negated_entry}
use Rattle.pc_checker.specs.Drafts.{AreWritten}
use Rattle.pc_checker.proofs.ClaimLemmas.{first_entry}
use Rattle.pc_checker.proofs.DraftLemmas.{nothing_written, front_more_written}
use Rattle.pc_checker.proofs.axiom.write_reads.Goals as goal

pub loop-read-init : goal.loop-read-init
loop-read-init c = nothing_written c.args.draft.now

pub loop-read-preserved : goal.loop-read-preserved
loop-read-preserved c =
    front_more_written c.args.draft.now c.loop-read.draft c.push_pair.new.self negated_entry c.args.reads.now c.loop-read.read-index first_entry c.loop-read-test.true c.loop-read.invariant c.in_ok-push_pair.ensures

pub returns : goal.returns
returns c = subst (λ xs. AreWritten c.args.draft.now c.loop-read.draft (map negated_entry xs)) (take_all c.loop-read.read-index c.args.reads.now c.loop-read-test.false) c.loop-read.invariant
