use Rattle.std.proofs.lemmas.Slice.Eq.{slice_eq-Decides}
use Rattle.pc_log.proofs.SameLemmas.{lit_decides}
use Rattle.pc_log.proofs.sparse.is_same_clause.Goals as goal

pub returns : goal.returns
returns c = slice_eq-Decides lit_decides c.args.one.now c.args.other.now c.eq.result c.eq.ensures
