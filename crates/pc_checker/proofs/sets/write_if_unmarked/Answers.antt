use Rattle.std.proofs.lemmas.Bool.{iff_false}
use Rattle.pc_checker.proofs.BlockLemmas.{none_written, one_written}
use Rattle.pc_checker.proofs.sets.write_if_unmarked.Goals as goal

pub returns-then-is_used : goal.returns-then-is_used
returns-then-is_used c = λ used marked. none_written used c.args.draft.now c.args.entry ((c.is_used.ensures used marked).0 c.if-is_used.true)

pub returns : goal.returns
returns c = λ used marked. one_written used c.args.draft.now c.push_pair.new.self c.args.entry (iff_false (c.is_used.ensures used marked) c.if-is_used.false) c.in_ok-push_pair.ensures
