-- What is asked of the formulas that the walk goes over: they are well sorted, and there is room for the variables of their nodes.
use Rattle.std.specs.Prelude.{◌+◌, ◌*◌, ◌^◌, ◌<◌, List, length, map}
use Rattle.pc_sheet.specs.Limits.{most_depth}
use Rattle.pc_sheet.specs.Sheet.{Statement}
use Rattle.pc_sheet.specs.Sizes.{size_of}
use Rattle.pc_sheet.specs.Views.{statement_of, statements_of}
use Rattle.pc_sheet.specs.declared.formula.Formula.{Formula}
use Rattle.pc_ground.specs.ByNumber.{IsSortedIn, AreSortedIn}
use Rattle.pc_ground.specs.Variables.{count_nodes, count_all}
use Rattle.pc_ground.specs.declared.grounding.Grounding.{Grounding}
use Rattle.pc_ground.specs.declared.grounding.Place.{Place}
use Rattle.pc_ground.specs.declared.grounding.Binder.{Binder}

-- the parts of the node that stands there
pub record ArePartsFit (g : Grounding) (at : Place) (parts : List Formula) : Type 0 where
  pub sorted : AreSortedIn g.book.now.universe (length at.scope.now) (statements_of (map statement_of parts))
  pub few : length parts < 4194304
  pub room : at.first + 1 + count_all g.book.now.universe (statements_of (map statement_of parts)) < 2 ^ 32

-- the body of the quantifier that stands there
pub record IsBodyFit (g : Grounding) (b : Binder) (body : Statement) : Type 0 where
  pub sort : b.sort.0 < length g.book.now.universe.sorts
  pub depth : length b.place.scope.now < most_depth
  pub sorted : IsSortedIn g.book.now.universe (length b.place.scope.now + 1) body
  pub room : b.place.first + 1 + size_of g.book.now.universe b.sort * count_nodes g.book.now.universe body < 2 ^ 32
