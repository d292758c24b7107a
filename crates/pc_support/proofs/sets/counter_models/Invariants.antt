use Rattle.std.proofs.Common.{ℕ, List}
use Rattle.pc_sheet.specs.declared.ids.Entry.{Entry}
use Rattle.pc_support.specs.Placed.{ArePlaced}
use Rattle.pc_support.specs.inside.Sets.{AreModelsOf}
use Rattle.pc_support.proofs.sets.counter_models.Given as goal

abbrev pub invariant-loop-world : goal.invariant-loop-world
invariant-loop-world l = (sizes : List ℕ) (entries : List Entry) → ArePlaced sizes entries l.worlds l.placed → AreModelsOf entries l.worlds l.target l.models
