use Rattle.std.proofs.Common.{arith}
use Rattle.pc_propagate.proofs.PlaceLemmas.{contains_false_at}
use Rattle.pc_propagate.proofs.TrailLemmas.{value_from_false}
use Rattle.pc_propagate.proofs.FitLemmas.{last_by_level}
use Rattle.pc_propagate.proofs.trail.Trail.is_of_last_level.Goals as goal

pub level_of-requires : goal.level_of-requires
level_of-requires c = value_from_false _ c.args.lit (contains_false_at _ _ c.args.lit c.requires)

pub returns : goal.returns
returns c = last_by_level _ c.args.lit _ _ _ c.requires c.level_of.ensures c.level.ensures (omega (arith, c.if-level_of-level.false))
