-- Forced literals are true wherever the clauses are, and stand in one of them.
use Rattle.std.proofs.Common.{◌≡◌, inl, inr, Bool, true, not, List, [], ◌∷◌, Contains, ap, sym, ◌∙◌, subst}
use Rattle.std.proofs.lemmas.Bool.{false≢true}
use Rattle.pc_lits.specs.declared.literal.Lit.{Lit}
use Rattle.pc_lits.specs.declared.literal.Var.{Var}
use Rattle.pc_lits.specs.Literals.{negated}
use Rattle.pc_lits.specs.Truth.{lit_true, IsTrueUnder}
use Rattle.pc_lits.proofs.Sound.{true_literal, lit_true-negated}
use Rattle.pc_lemmas.proofs.Elements.{contains_cases, contains_none}
use Rattle.pc_solver.specs.Forced.{IsForcedNext, AreForced, IsForced}
use Rattle.pc_solver.proofs.AvoidLemmas.{same_or_not}

module _ (IsGiven : List Lit → Type 0) where
  pub stands : (trues : List Lit) → AreForced IsGiven trues → (l : Lit) → Contains trues l → (clause : List Lit) × IsGiven clause × Contains clause l
  stands [] h l c = absurd (contains_none l c)
  stands (x ∷ xs) h l c = elim (contains_cases x xs l c) [
    | inl same ↦ (h.0.0, h.0.1, subst (Contains h.0.0) same h.0.2)
    | inr later ↦ stands xs h.1 l later
  ]

  module _ (v : Var → Bool) (met : (clause : List Lit) → IsGiven clause → IsTrueUnder v clause) where
    pub forced_true : (trues : List Lit) → AreForced IsGiven trues → (l : Lit) → Contains trues l → lit_true v l ≡ true
    forced_true [] h l c = absurd (contains_none l c)
    forced_true (x ∷ xs) h l c = elim (contains_cases x xs l c) [
      | inl same ↦ subst (λ m. lit_true v m ≡ true) same (next x xs h.0 (forced_true xs h.1))
      | inr later ↦ forced_true xs h.1 l later
    ]
      where
        next : (y : Lit) (ys : List Lit) → IsForcedNext IsGiven ys y → ((m : Lit) → Contains ys m → lit_true v m ≡ true) → lit_true v y ≡ true
        next y ys k earlier =
            let some = true_literal (lit_true v) k.0 (met k.0 k.1) in
            elim (same_or_not some.0 y) [
              | inl is ↦ subst (λ m. lit_true v m ≡ true) is some.2
              | inr other ↦ absurd (false≢true (sym (ap not some.2) ∙ sym (lit_true-negated v some.0) ∙ earlier (negated some.0) (k.3 some.0 some.1 other)))
            ]

    pub always_true : (l : Lit) → IsForced IsGiven l → lit_true v l ≡ true
    always_true l h = forced_true h.0 h.1 l h.2

-- what clauses force, more clauses force
pub forced_by : (P Q : List Lit → Type 0) → ((c : List Lit) → P c → Q c) → (l : Lit) → IsForced P l → IsForced Q l
forced_by P Q f l h = (h.0, all h.0 h.1, h.2)
  where
    all : (trues : List Lit) → AreForced P trues → AreForced Q trues
    all [] a = tt
    all (x ∷ xs) a = ((a.0.0, f a.0.0 a.0.1, a.0.2, a.0.3), all xs a.1)
