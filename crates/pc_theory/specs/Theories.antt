-- What is known of a sheet's rules alone: their clauses, their parts, and an assignment that fits.
use Rattle.std.specs.Prelude.{◌≡◌, ℕ, ◌<◌, ◌^◌, List, [], length, Some, slice_get}
use Rattle.pc_sheet.specs.Sheet.{Sheet}
use Rattle.pc_sheet.specs.declared.ids.ValueId.{ValueId}
use Rattle.pc_ground.specs.Ground.{clauses}
use Rattle.pc_ground.specs.GroundView.{Grounded}
use Rattle.pc_ground.specs.Grounded.{grounded}
use Rattle.pc_ground.specs.Naming.{names_of}
use Rattle.pc_parts.specs.Parts.{Part, IsDivision}
use Rattle.pc_parts.specs.Components.{parts_of}
use Rattle.pc_components.specs.View.{Kept, AreComponentsOf}
use Rattle.pc_kept.specs.Components.{AreKeptOf}
use Rattle.pc_reason.specs.Written.{AreOfSheet}
use Rattle.pc_reason.specs.Fitting.{IsFitting}

-- the sheet without its entries
abbrev pub rules_alone : Sheet → Sheet
rules_alone sheet = record sheet { entries = [] }

pub record TheoryView : Type 0 where
  pub ground : Grounded
  pub components : Kept
  -- the same with the axioms that searches take
  pub searched : Kept
  -- a value for each cell
  pub base : List ValueId

-- the same with other clauses
abbrev pub with_ground : Grounded → TheoryView → TheoryView
with_ground g t = record t { ground = g }

-- Of a sheet without entries: the clauses of its rules with their names, its parts, which divide it, the axioms of each that searches
-- take, and an assignment that fits. All of it is of the rules alone, so that it stays when entries change.
pub record IsTheory (rules : Sheet) (theory : TheoryView) : Type 0 where
  pub ground : theory.ground ≡ grounded rules
  pub few : length (clauses rules) < 2 ^ 32
  pub named : AreOfSheet rules (names_of rules)
  pub components : AreComponentsOf rules theory.components
  pub searched : AreKeptOf rules theory.components theory.searched
  pub division : IsDivision rules (parts_of rules)
  pub base : IsFitting rules theory.base

-- the sheet's part of that number
abbrev pub IsPartNumbered : Sheet → ℕ → Part → Type 0
IsPartNumbered sheet i part = slice_get (parts_of sheet) i ≡ Some part
