-- Steps of the tests of the derivation.
use Rattle.std.proofs.Common.{◌≡◌, ℕ, ◌-◌, ◌<◌, ◌↔◌, Bool, IsTrue, List, [], length, get_or, All, Contains, Some, slice_get, sym, subst}
use Rattle.std.proofs.lemmas.Option.{get_or_from_slice_get}
use Rattle.pc_lits.specs.declared.literal.Lit.{Lit}
use Rattle.pc_lits.specs.Literals.{negated}
use Rattle.pc_lits.specs.Steps.{IsGoodStep}
use Rattle.pc_lits.specs.Hints.{clauses_at}
use Rattle.pc_checker.specs.inside.Numbers.{IsNumberUpTo, places_of}
use Rattle.pc_checker.specs.inside.Parts.{places_meant, IsStepBy, EndsAmong}
use Rattle.pc_checker.proofs.HintLemmas.{earlier, same_places}

pub ends : (clauses : List (List Lit)) (allowed last : List Lit) (r : Bool) → 0 < length clauses → slice_get clauses (length clauses - 1) ≡ Some last
    → (IsTrue r ↔ All (Contains allowed) last) → IsTrue r ↔ EndsAmong clauses allowed
ends clauses allowed last r some at is =
    let same : get_or clauses (length clauses - 1) [] ≡ last = get_or_from_slice_get clauses (length clauses - 1) last [] at in (
      λ yes. (some, subst (All (Contains allowed)) (sym same) (is.0 yes)),
      λ h. is.1 (subst (All (Contains allowed)) same h.1),
    )

pub step_is : (clauses : List (List Lit)) (place : ℕ) (numbers : List ℕ) (clause : List Lit) (r : Bool) → slice_get clauses place ≡ Some clause
    → All (IsNumberUpTo place) numbers → (IsTrue r ↔ IsGoodStep negated clause (clauses_at clauses (places_of numbers))) → IsTrue r ↔ IsStepBy clauses place numbers
step_is clauses place numbers clause r at earlier' is =
    let same : get_or clauses place [] ≡ clause = get_or_from_slice_get clauses place clause [] at in
    let places = same_places place numbers earlier' in
    let Good : List Lit → List ℕ → Type 0 = λ c ps. IsGoodStep negated c (clauses_at clauses ps) in (
      λ yes. ((earlier place numbers).0 earlier', subst (λ c. Good c (places_meant place numbers)) (sym same) (subst (Good clause) (sym places) (is.0 yes))),
      λ h. is.1 (subst (Good clause) places (subst (λ c. Good c (places_meant place numbers)) same h.1)),
    )
