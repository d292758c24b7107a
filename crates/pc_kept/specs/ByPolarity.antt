-- Which axioms of a part a search takes where it goes by polarity, and which literals no learned clause is to have then.
use Rattle.std.specs.Prelude.{◌≡◌, ◌≢◌, ℕ, ◌<◌, ◌⊎◌, Bool, List, Option, None, Some, slice_get, AllPairs, Contains}
use Rattle.pc_lits.specs.declared.literal.Lit.{Lit}
use Rattle.pc_lits.specs.Values.{MakesTrue}
use Rattle.pc_sheet.specs.Sheet.{Sheet}
use Rattle.pc_sheet.specs.WellFormed.{IsWellFormed}
use Rattle.pc_accept.specs.Literals.{Symbol, node, Literal, opposite}
use Rattle.pc_accept.specs.Axioms.{Axiom, axiom_some, axiom_one, axiom_rule, axiom_node, axiom_atom}
use Rattle.pc_ground.specs.Variables.{variables}
use Rattle.pc_ground.specs.Ground.{GroundAxiom, axioms, lit_of, clauses}
use Rattle.pc_parts.specs.Parts.{Part, IsDivision}
use Rattle.pc_parts.specs.PartSheets.{sheet_of}
use Rattle.pc_components.specs.PartAxioms.{AreAxiomsOf, AreVariablesOf}
use Rattle.pc_components.specs.Used.{AreFor}
use Rattle.pc_lits.specs.Clauses.{IsSubclause}
use Rattle.pc_solver.specs.Forced.{IsForced}
use Rattle.pc_kept.specs.Kept.{IsAmong, IsNode, IsLeftOut, AreKept}

-- the node or atom whose meaning the axiom says
abbrev pub meant_by : Axiom → Option Symbol
meant_by (axiom_some c) = None
meant_by (axiom_one c v w) = None
meant_by (axiom_rule r) = None
meant_by (axiom_node r path i) = Some (node r path)
meant_by (axiom_atom r path reads) = Some (node r path)

-- the axiom's own literal: that of the node whose meaning it says
abbrev pub IsOwnLiteral : GroundAxiom → Literal → Type 0
IsOwnLiteral g l = Contains g.clause l × (meant_by g.name ≡ Some l.what)

-- a kept axiom has the literal, and not as its own
abbrev pub IsNamedBy : Sheet → List ℕ → Literal → Type 0
IsNamedBy sheet kept l = (k : ℕ) × (g : GroundAxiom) × Contains kept k × (slice_get (axioms sheet) k ≡ Some g) × Contains g.clause l × (meant_by g.name ≢ Some l.what)

-- its own literal is banned, and no kept axiom names the opposite of that
abbrev pub IsBannedOut : Sheet → List ℕ → List (Option Bool) → GroundAxiom → Type 0
IsBannedOut sheet kept banned g = (l : Literal) × IsOwnLiteral g l × MakesTrue banned (lit_of sheet l) × (¬ IsNamedBy sheet kept (opposite l))

-- The kept numbers are some of the used ones, in order; each other used one is of an axiom that is left out anyway, or whose own
-- literal is banned. Banned is no literal of a pair, and none whose opposite a kept axiom names.
pub record AreKeptByPolarity (sheet : Sheet) (banned : List (Option Bool)) (used kept : List ℕ) : Type 0 where
  pub among : (k : ℕ) → Contains kept k → Contains used k
  pub each : (k : ℕ) (g : GroundAxiom) → Contains used k → slice_get (axioms sheet) k ≡ Some g → Contains kept k ⊎ (IsLeftOut sheet kept g ⊎ IsBannedOut sheet kept banned g)
  pub order : AllPairs (λ j k. j < k) kept
  pub only : (l : Literal) → Contains (variables sheet) l.what → MakesTrue banned (lit_of sheet l) → IsNode l.what × (¬ IsNamedBy sheet kept (opposite l))

-- where nothing is banned, these are the kept ones
abbrev pub KeptByPolarityAreKept : Type 0
KeptByPolarityAreKept = (sheet : Sheet) (used kept : List ℕ) (banned : List (Option Bool)) → ((l : Lit) → ¬ MakesTrue banned l) → AreKeptByPolarity sheet banned used kept → AreKept sheet used kept

-- and the kept ones are these
abbrev pub KeptAreByPolarity : Type 0
KeptAreByPolarity = (sheet : Sheet) (used kept : List ℕ) (banned : List (Option Bool)) → ((l : Lit) → ¬ MakesTrue banned l) → AreKept sheet used kept → AreKeptByPolarity sheet banned used kept

-- A clause over the variables of the kept axioms that contains none of them, no literal that they force, and none that is banned,
-- contains none of the used axioms.
abbrev pub NoneIsContainedByPolarity : Type 0
NoneIsContainedByPolarity =
    (sheet : Sheet) → IsWellFormed sheet → (used kept own : List ℕ) (banned : List (Option Bool)) → AreKeptByPolarity sheet banned used kept → AreVariablesOf (clauses sheet) kept own
    → (clause : List Lit) → ((l : Lit) → Contains clause l → Contains own l.variable.0)
    → ((l : Lit) → Contains clause l → ¬ IsForced (IsAmong (clauses sheet) kept) l)
    → ((l : Lit) → Contains clause l → ¬ MakesTrue banned l)
    → ((k : ℕ) (axiom_clause : List Lit) → Contains kept k → slice_get (clauses sheet) k ≡ Some axiom_clause → ¬ IsSubclause axiom_clause clause)
    → (k : ℕ) (axiom_clause : List Lit) → Contains used k → slice_get (clauses sheet) k ≡ Some axiom_clause → ¬ IsSubclause axiom_clause clause

-- A part's axioms that are kept by polarity stand for the part's sheet on its cells, as all of its axioms do.
abbrev pub KeptByPolarityAreForTheirParts : Type 0
KeptByPolarityAreForTheirParts =
    (sheet : Sheet) → IsWellFormed sheet → (all : List Part) → IsDivision sheet all → (part : Part) → Contains all part
    → (used kept : List ℕ) (banned : List (Option Bool)) → AreAxiomsOf sheet part used → AreKeptByPolarity sheet banned used kept
    → AreFor (sheet_of sheet part) part.cells (clauses sheet) kept
