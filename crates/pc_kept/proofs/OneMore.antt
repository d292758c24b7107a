-- One number more, and room for values by what is stored.
use Rattle.std.proofs.Common.{◌≡◌, ℕ, ◌+◌, ◌<◌, inl, inr, Bool, List, Option, Some, slice_get, length, All, arith, ap, sym, ◌∙◌, subst}
use Rattle.std.proofs.lemmas.Bool.{cases_lt}
use Rattle.pc_lits.specs.declared.literal.Lit.{Lit}
use Rattle.pc_lemmas.proofs.Options.{same_some}
use Rattle.pc_axiom_names.specs.Listed.{NameLists}
use Rattle.pc_kept.specs.inside.Checks.{IsRoom}
use Rattle.pc_kept.specs.inside.Signs.{IsStored}

pub one_below : (P : ℕ → Type 0) (i : ℕ) → ((j : ℕ) → j < i → P j) → P i → (j : ℕ) → j < i + 1 → P j
one_below P i before here j below = elim (cases_lt j i) [
  | inl early ↦ before j early
  | inr late ↦ let same : i ≡ j = omega (arith, below, late) in subst P same here
]

pub one_item : {X : Type 0} (P : X → Type 0) (xs : List X) (i : ℕ) (x : X) → slice_get xs i ≡ Some x → P x → ((j : ℕ) (y : X) → j < i → slice_get xs j ≡ Some y → P y) → (j : ℕ) (y : X) → j < i + 1 → slice_get xs j ≡ Some y → P y
one_item P xs i x at here before j y below is = elim (cases_lt j i) [
  | inl early ↦ before j y early is
  | inr late ↦ let same : i ≡ j = omega (arith, below, late) in subst P (same_some (sym at ∙ ap (slice_get xs) same ∙ is)) here
]

pub room_of : (store : List (List Lit)) (names : NameLists) (values : List (Option Bool)) → IsStored store names → length names.variables ≡ length values → IsRoom values store
room_of store names values are same = subst (λ n. All (All (λ l. l.variable.0 < n)) store) same are.within
