-- Clauses and truth values by the numbers of variables, and by their symbols.
use Rattle.std.proofs.Common.{◌≡◌, ℕ, zero, suc, ◌↔◌, inl, inr, if◌then◌else◌, Bool, true, false, not, List, [], ◌∷◌, map, Contains, Option, None, Some, slice_get, MatchBool, ap, refl, sym, subst}
use Rattle.std.proofs.lemmas.Bool.{false≢true, or_cases, or_left, or_right}
use Rattle.pc_lits.specs.declared.literal.Lit.{Lit}
use Rattle.pc_lits.specs.declared.literal.Var.{Var}
use Rattle.pc_lits.specs.Truth.{lit_true, clause_true}
use Rattle.pc_sheet.specs.Sheet.{Sheet}
use Rattle.pc_laws.specs.Laws.{IsDecided}
use Rattle.pc_accept.specs.Literals.{Symbol, Literal}
use Rattle.pc_lemmas.proofs.Elements.{contains_first, contains_later, contains_cases, contains_none}
use Rattle.pc_ground.specs.Variables.{variables}
use Rattle.pc_ground.specs.Ground.{GroundAxiom, axioms, lit_of, clause_of_axiom, clauses}
use Rattle.pc_ground.specs.Laws.{var_of}
use Rattle.pc_ground.proofs.Made.{Makes}
use Rattle.pc_components.proofs.PartFor.{same_clause, its_place}

-- ---- clauses by number, and by symbol

pub has_sign : (s b : Bool) → (if s then b else not b) ≡ true → b ≡ s
has_sign true b e = e
has_sign false true e = absurd (false≢true e)
has_sign false false e = refl

pub of_sign : (s b : Bool) → b ≡ s → (if s then b else not b) ≡ true
of_sign true b e = e
of_sign false b e = ap not e

module _ (sheet : Sheet) (v : Var → Bool) where
  abbrev pub value : Symbol → Bool
  value x = v (var_of sheet x)

  pub makes_of : (c : List Literal) → clause_true v (map (lit_of sheet) c) ≡ true → Makes value c
  makes_of [] e = absurd (false≢true e)
  makes_of (l ∷ ls) e = elim (or_cases (lit_true v (lit_of sheet l)) (clause_true v (map (lit_of sheet) ls)) e) [
    | inl here ↦ (l, contains_first l ls, has_sign l.sign (value l.what) here)
    | inr later ↦ let rest = makes_of ls later in (rest.0, contains_later l ls rest.0 rest.1, rest.2)
  ]

  pub of_makes : (c : List Literal) → Makes value c → clause_true v (map (lit_of sheet) c) ≡ true
  of_makes [] h = absurd (contains_none h.0 h.1)
  of_makes (l ∷ ls) (m, there, is) = elim (contains_cases l ls m there) [
    | inl same ↦ or_left (lit_true v (lit_of sheet l)) (clause_true v (map (lit_of sheet) ls)) (of_sign l.sign (value l.what) (subst (λ k. value k.what ≡ k.sign) (sym same) is))
    | inr later ↦ or_right (lit_true v (lit_of sheet l)) (clause_true v (map (lit_of sheet) ls)) (of_makes ls (m, later, is))
  ]

-- ---- truth values of symbols as those of variables

module _ (sheet : Sheet) (truth : Symbol → Bool) where
  at_place : Option Symbol → Bool
  at_place None = false
  at_place (Some x) = truth x

  pub numbered_truth : Var → Bool
  numbered_truth x = at_place (slice_get (variables sheet) x.0)

  pub numbered_is : (x : Symbol) → Contains (variables sheet) x → numbered_truth (var_of sheet x) ≡ truth x
  unfolding at_place numbered_truth
  numbered_is x there = ap at_place (its_place sheet truth x there)

-- the axiom whose clause has that number
pub axiom_at : (sheet : Sheet) (k : ℕ) (clause : List Lit) → slice_get (clauses sheet) k ≡ Some clause → (g : GroundAxiom) × (slice_get (axioms sheet) k ≡ Some g) × (clause_of_axiom sheet g ≡ clause)
axiom_at sheet k clause at = by (axioms sheet) k at
  where
    by : (gs : List GroundAxiom) (j : ℕ) → slice_get (map (clause_of_axiom sheet) gs) j ≡ Some clause → (g : GroundAxiom) × (slice_get gs j ≡ Some g) × (clause_of_axiom sheet g ≡ clause)
    by [] j h = absurd (cc)
    by (g ∷ gs) zero h = (g, refl, same_clause h)
    by (g ∷ gs) (suc j) h = by gs j h

abbrev pub yes_of : {P : Type 0} → IsDecided P → Bool
yes_of (inl p) = true
yes_of (inr n) = false

pub yes_is : {P : Type 0} (d : IsDecided P) → (yes_of d ≡ true) ↔ P
yes_is (inl p) = (λ e. p, λ q. refl)
yes_is (inr n) = (λ e. absurd (false≢true e), λ q. absurd (n q))

pub signed : (s b : Bool) {P : Type 0} → (b ≡ true) ↔ P → MatchBool s P (¬ P) → b ≡ s
signed true b right h = right.1 h
signed false true right h = absurd (h (right.0 refl))
signed false false right h = refl
