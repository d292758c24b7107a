-- The axioms that say what a node means leave it one truth.
use Rattle.std.specs.Prelude.{◌≡◌, ◌≢◌, ℕ, suc, ◌<◌, ◌↔◌, Bool, true, not, List, Some, Contains}
use Rattle.pc_sheet.specs.Sheet.{Sheet, Statement, Counting, counts}
use Rattle.pc_sheet.specs.Sizes.{size_of}
use Rattle.pc_sheet.specs.Truth.{Scope}
use Rattle.pc_sheet.specs.Entailment.{IsAssignment}
use Rattle.pc_sheet.specs.Meanings.{GivesValues}
use Rattle.pc_sheet.specs.Nodes.{node_at, bodies_of, threshold_of, counter_number}
use Rattle.pc_sheet.specs.WellSorted.{Variables, IsWellSorted}
use Rattle.pc_sheet.specs.declared.ids.SortId.{SortId}
use Rattle.pc_sheet.specs.declared.ids.ValueId.{ValueId}
use Rattle.pc_accept.specs.Literals.{Symbol, node, Literal, SymbolHolds}
use Rattle.pc_accept.specs.Axioms.{child_of}
use Rattle.pc_ground.specs.Ground.{GroundAxiom, axioms}
use Rattle.pc_kept.specs.ByPolarity.{meant_by}

-- some literal of the clause is true by these truth values
abbrev pub IsMadeBy : (Symbol → Bool) → List Literal → Type 0
IsMadeBy value clause = (l : Literal) × Contains clause l × (value l.what ≡ l.sign)

-- Where each symbol has its truth under an assignment, but one node of a statement has the other one, not all axioms that say what
-- it means are true.
abbrev pub NodesAreSettled : Type 0
NodesAreSettled =
    (sheet : Sheet) (a : List ValueId) → IsAssignment sheet.universe a → (value : Symbol → Bool) → ((x : Symbol) → (value x ≡ true) ↔ SymbolHolds sheet a x)
    → (r : ℕ) (path : List ℕ) (scope : Scope) (vs : Variables) (s : Statement) → node_at sheet r path ≡ Some (scope, s) → IsWellSorted sheet.universe vs s → GivesValues sheet.universe scope vs
    → (turned : Symbol → Bool) → turned (node r path) ≡ not (value (node r path)) → ((x : Symbol) → x ≢ node r path → turned x ≡ value x)
    → ¬ ((g : GroundAxiom) → Contains (axioms sheet) g → meant_by g.name ≡ Some (node r path) → IsMadeBy turned g.clause)

-- The same of each counter of a counting quantifier.
abbrev pub CountersAreSettled : Type 0
CountersAreSettled =
    (sheet : Sheet) (a : List ValueId) → IsAssignment sheet.universe a → (value : Symbol → Bool) → ((x : Symbol) → (value x ≡ true) ↔ SymbolHolds sheet a x)
    → (r : ℕ) (path : List ℕ) (scope : Scope) (c : Counting) (name : List ℕ) (s : SortId) (body : Statement) → node_at sheet r path ≡ Some (scope, counts c name s body)
    → (n m : ℕ) → n ≡ bodies_of c (size_of sheet.universe s) → m ≡ threshold_of c → (i j : ℕ) → i < n → j < m
    → (turned : Symbol → Bool) → turned (child_of r path (counter_number n m (suc i) (suc j))) ≡ not (value (child_of r path (counter_number n m (suc i) (suc j))))
    → ((x : Symbol) → x ≢ child_of r path (counter_number n m (suc i) (suc j)) → turned x ≡ value x)
    → ¬ ((g : GroundAxiom) → Contains (axioms sheet) g → meant_by g.name ≡ Some (child_of r path (counter_number n m (suc i) (suc j))) → IsMadeBy turned g.clause)
