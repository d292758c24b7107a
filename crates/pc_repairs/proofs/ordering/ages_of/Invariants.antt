use Rattle.std.proofs.Common.{◌≡◌, ◌++◌, drop}
use Rattle.pc_repairs.specs.inside.Ages.{ages_from}
use Rattle.pc_repairs.proofs.ordering.ages_of.Given as goal

abbrev pub invariant-loop-age : goal.invariant-loop-age
invariant-loop-age l = l.ages.items ++ ages_from l.age (drop l.age l.entries) l.rest ≡ ages_from 0 l.entries l.set
