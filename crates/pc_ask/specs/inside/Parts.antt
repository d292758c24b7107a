-- The part of an asked sheet that has what is asked, as what a solver searches.
use Rattle.std.specs.Prelude.{◌≡◌, ◌↔◌, ℕ, ◌<◌, ◌^◌, true, List, [], Option, Bool, None, Some, All, Contains, length, map, slice_index_or}
use Rattle.pc_lits.specs.declared.literal.Var.{Var}
use Rattle.pc_lits.specs.declared.literal.Lit.{Lit}
use Rattle.pc_log.specs.Lines.{LogLine}
use Rattle.pc_sheet.specs.Sheet.{Sheet, Statement}
use Rattle.pc_sheet.specs.Entailment.{cell_sizes}
use Rattle.pc_sheet.specs.WellFormed.{IsWellFormed}
use Rattle.pc_sheet.specs.declared.ids.CellId.{CellId}
use Rattle.pc_sheet.specs.declared.ids.Entry.{Entry}
use Rattle.pc_sheet.specs.declared.ids.ValueId.{ValueId}
use Rattle.pc_ground.specs.Ground.{clauses}
use Rattle.pc_ground.specs.GroundView.{Grounded}
use Rattle.pc_ground.specs.Grounded.{grounded}
use Rattle.pc_parts.specs.Parts.{Part}
use Rattle.pc_components.specs.Pairs.{IsValueOfCell}
use Rattle.pc_components.specs.PartAxioms.{AreAxiomsOf, AreVariablesOf}
use Rattle.pc_components.specs.View.{number_of, variable_number}
use Rattle.pc_reason.specs.Fitting.{IsFitting}
use Rattle.pc_accept.specs.Asked.{asked}
use Rattle.pc_problem.specs.Laws.{problem_of}
use Rattle.pc_solver.specs.Clauses.{IsOverOwn}
use Rattle.pc_solver.specs.Solver.{SolverView, HasLog}
use Rattle.pc_ask.specs.Asking.{IsAskedPart}

-- ---- marks

-- of the variables that there is room for, exactly these are marked
abbrev pub AreMarked : List Var → List (Option Bool) → Type 0
AreMarked own marks = (v : Var) → v.0 < length marks → (slice_index_or marks v.0 None ≡ Some true) ↔ Contains own v

-- each of the clause's variables is marked
abbrev pub IsMarkedClause : List (Option Bool) → List Lit → Type 0
IsMarkedClause marks clause = All (λ l. slice_index_or marks l.variable.0 None ≡ Some true) clause

-- the numbers of such clauses, below a number
abbrev pub AreMarkedBelow : List (List Lit) → List (Option Bool) → ℕ → List ℕ → Type 0
AreMarkedBelow store marks n used = (k : ℕ) → Contains used k ↔ ((k < n) × IsMarkedClause marks (slice_index_or store k []))

-- the numbers of the clauses over these variables
abbrev pub AreAxiomsOver : List (List Lit) → List Var → List ℕ → Type 0
AreAxiomsOver store own used = (k : ℕ) → Contains used k ↔ ((k < length store) × IsOverOwn own (slice_index_or store k []))

-- ---- the part

-- the cells of the part that has what is asked, and the variables that its axioms name
pub record IsAskedOver (book : Sheet) (cells : List CellId) (own : List Var) : Type 0 where
  pub part : Part
  pub is : IsAskedPart book part
  pub cells_are : map number_of cells ≡ part.cells
  pub axioms : List ℕ
  pub axioms_are : AreAxiomsOf book part axioms
  pub own_are : AreVariablesOf (clauses book) axioms (map variable_number own)

-- a value of a cell that each part with what is asked has
pub record IsAskable (book : Sheet) (e : Entry) : Type 0 where
  pub value : IsValueOfCell (cell_sizes book.universe) e.cell e.value
  pub on : (part : Part) → IsAskedPart book part → Contains part.cells e.cell.0

-- an asked sheet with its clauses, and an assignment that fits the sheet in which it is asked
pub record IsTask (book : Sheet) (ground : Grounded) : Type 0 where
  pub formed : IsWellFormed book
  pub ground_is : ground ≡ grounded book
  pub few : length (clauses book) < 2 ^ 32
  pub sheet : Sheet
  pub f : Statement
  pub is : book ≡ asked sheet f
  pub fitting : List ValueId
  pub fit : IsFitting sheet fitting

-- A solver over the variables of the part that has what is asked: all axioms over them are used. This is its log.
pub record IsAsked (book : Sheet) (own : List Var) (s : SolverView) (log : List LogLine) : Type 0 where
  pub cells : List CellId
  pub over : IsAskedOver book cells own
  pub used : List ℕ
  pub used_are : AreAxiomsOver (clauses book) own used
  pub problem : s.problem ≡ problem_of book used own []
  pub blocks_are : s.blocks ≡ []
  pub has : HasLog s log
