-- Which axioms of a part a search takes: the kept ones.
use Rattle.std.specs.Prelude.{◌≡◌, ℕ, ◌<◌, ◌⊎◌, List, Some, slice_get, AllPairs, Contains}
use Rattle.pc_lits.specs.declared.literal.Lit.{Lit}
use Rattle.pc_sheet.specs.Sheet.{Sheet}
use Rattle.pc_accept.specs.Literals.{Symbol, pair, node, Literal}
use Rattle.pc_accept.specs.Axioms.{Axiom, axiom_some, axiom_one, axiom_rule, axiom_node, axiom_atom}
use Rattle.pc_ground.specs.Variables.{number}
use Rattle.pc_ground.specs.Ground.{GroundAxiom, axioms, lit_of, clauses}
use Rattle.pc_components.specs.PartAxioms.{IsUsed}
use Rattle.pc_solver.specs.Forced.{IsForced}

-- the clause of one of these numbers
abbrev pub IsAmong : List (List Lit) → List ℕ → List Lit → Type 0
IsAmong store numbers clause = (k : ℕ) × Contains numbers k × (slice_get store k ≡ Some clause)

abbrev pub IsNode : Symbol → Type 0
IsNode (pair c v) = ⊥
IsNode (node r path) = Unit {0}

-- what a node or an atom means; not that a cell has one value, nor that a rule is true
abbrev pub IsOfNode : Axiom → Type 0
IsOfNode (axiom_some c) = ⊥
IsOfNode (axiom_one c v w) = ⊥
IsOfNode (axiom_rule r) = ⊥
IsOfNode (axiom_node r path i) = Unit {0}
IsOfNode (axiom_atom r path reads) = Unit {0}

-- unit propagation over the kept axioms makes one of its literals true
abbrev pub IsTrueFromStart : Sheet → List ℕ → GroundAxiom → Type 0
IsTrueFromStart sheet kept g = (l : Literal) × Contains g.clause l × IsForced (IsAmong (clauses sheet) kept) (lit_of sheet l)

-- no kept axiom names a node that this one names
abbrev pub IsUnneeded : Sheet → List ℕ → GroundAxiom → Type 0
IsUnneeded sheet kept g = (l : Literal) → Contains g.clause l → IsNode l.what → ¬ IsUsed (clauses sheet) kept (number sheet l.what)

-- these numbers are of axioms that say what nodes and atoms mean
abbrev pub AreMeanings : Sheet → List ℕ → Type 0
AreMeanings sheet numbers = (k : ℕ) (g : GroundAxiom) → Contains numbers k → slice_get (axioms sheet) k ≡ Some g → IsOfNode g.name

-- One of its literals is of a node that no kept axiom names, and is true whatever values the cells have: unit propagation over what nodes
-- mean makes it true.
abbrev pub IsConstant : Sheet → List ℕ → GroundAxiom → Type 0
IsConstant sheet kept g =
    (l : Literal) × Contains g.clause l × IsNode l.what × (¬ IsUsed (clauses sheet) kept (number sheet l.what))
    × ((meanings : List ℕ) × AreMeanings sheet meanings × IsForced (IsAmong (clauses sheet) meanings) (lit_of sheet l))

abbrev pub IsLeftOut : Sheet → List ℕ → GroundAxiom → Type 0
IsLeftOut sheet kept g = IsOfNode g.name × (IsTrueFromStart sheet kept g ⊎ (IsUnneeded sheet kept g ⊎ IsConstant sheet kept g))

-- The kept numbers are some of the used ones, in order; each other used one is of an axiom that is left out.
pub record AreKept (sheet : Sheet) (used kept : List ℕ) : Type 0 where
  pub among : (k : ℕ) → Contains kept k → Contains used k
  pub each : (k : ℕ) (g : GroundAxiom) → Contains used k → slice_get (axioms sheet) k ≡ Some g → Contains kept k ⊎ IsLeftOut sheet kept g
  pub order : AllPairs (λ j k. j < k) kept
