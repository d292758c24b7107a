-- A sheet as what a solver searches whole.
use Rattle.std.specs.Prelude.{◌≡◌, ◌<◌, ◌^◌, map, length}
use Rattle.pc_sheet.specs.Sheet.{Sheet}
use Rattle.pc_sheet.specs.WellFormed.{IsWellFormed}
use Rattle.pc_ground.specs.Ground.{clauses}
use Rattle.pc_ground.specs.GroundView.{Grounded}
use Rattle.pc_ground.specs.Grounded.{grounded}
use Rattle.pc_parts.specs.Components.{all_cells}
use Rattle.pc_components.specs.View.{number_of}
use Rattle.pc_theory.specs.WholeSpendings.{all_axioms, all_variables}
use Rattle.pc_repairs.specs.declared.task.Numbers.{Numbers}

-- these are all of its axioms, variables and cells
pub record AreAllOf (sheet : Sheet) (numbers : Numbers) : Type 0 where
  pub axioms_are : numbers.axioms.items ≡ all_axioms sheet
  pub variables_are : numbers.variables.items ≡ all_variables sheet
  pub cells_are : map number_of numbers.cells.items ≡ all_cells sheet.universe

-- ... and these are its clauses
pub record IsTask (sheet : Sheet) (ground : Grounded) (numbers : Numbers) : Type 0 where
  pub formed : IsWellFormed sheet
  pub ground_is : ground ≡ grounded sheet
  pub few : length (clauses sheet) < 2 ^ 32
  pub all : AreAllOf sheet numbers
