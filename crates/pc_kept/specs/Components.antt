-- Which axioms of each part a search takes.
use Rattle.std.specs.Prelude.{◌≡◌, map}
use Rattle.std.specs.List.{AllZip}
use Rattle.pc_sheet.specs.Sheet.{Sheet}
use Rattle.pc_ground.specs.Ground.{clauses}
use Rattle.pc_components.specs.PartAxioms.{AreVariablesOf}
use Rattle.pc_components.specs.View.{Kept, variable_number}
use Rattle.pc_kept.specs.ByPolarity.{AreKeptByPolarity}

-- the same parts, each with the kept ones of its axioms, by what is banned, and with the variables that these name
pub record AreKeptOf (sheet : Sheet) (whole kept : Kept) : Type 0 where
  pub cells : kept.cells ≡ whole.cells
  pub numbers : kept.numbers ≡ whole.numbers
  pub axioms : AllZip (AreKeptByPolarity sheet kept.banned) whole.axioms kept.axioms
  pub variables : AllZip (λ used own. AreVariablesOf (clauses sheet) used (map variable_number own)) kept.axioms kept.variables
