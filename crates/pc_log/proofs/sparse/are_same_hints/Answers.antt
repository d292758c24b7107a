use Rattle.std.proofs.lemmas.Slice.Eq.{slice_eq-Decides}
use Rattle.pc_log.proofs.SameLemmas.{step_decides}
use Rattle.pc_log.proofs.sparse.are_same_hints.Goals as goal

pub returns : goal.returns
returns c = slice_eq-Decides step_decides c.args.one.now c.args.other.now c.eq.result c.eq.ensures
