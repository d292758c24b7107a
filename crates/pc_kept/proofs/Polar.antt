-- What is named or forced is right where it is true: an induction over the nodes.
use Rattle.std.proofs.Common.{◌≡◌, ◌≢◌, ℕ, zero, suc, ◌+◌, ◌<◌, ◌⊎◌, inl, inr, if◌then◌else◌, Bool, true, false, not, List, [], ◌∷◌, Contains, arith, ap, refl, sym, ◌∙◌, subst}
use Rattle.std.proofs.lemmas.Bool.{cases_Bool, false≢true}
use Rattle.pc_lits.specs.declared.literal.Lit.{Lit}
use Rattle.pc_lits.specs.declared.literal.Var.{Var}
use Rattle.pc_lits.specs.Literals.{negated}
use Rattle.pc_lits.specs.Truth.{lit_true, IsTrueUnder}
use Rattle.pc_lits.proofs.LitLemmas.{same_parts}
use Rattle.pc_lits.proofs.Sound.{true_literal, lit_true-negated}
use Rattle.std.proofs.Math.Bool.{not-not}
use Rattle.pc_lemmas.proofs.Elements.{contains_cases, contains_none}
use Rattle.pc_solver.specs.Forced.{AreForced, IsForced}
use Rattle.pc_kept.specs.Polar.{IsNamed, IsMentioned, IsKeptClause, IsSpared, AreValues, NamedLiteralsAreRight}
use Rattle.pc_solver.proofs.AvoidLemmas.{same_or_not}
use Rattle.pc_kept.proofs.ForcedTrue.{always_true}

twice : (l : Lit) → negated (negated l) ≡ l
twice l = same_parts (negated (negated l)) l refl (not-not l.sign)

-- not both
never_both : (v : Var → Bool) (l : Lit) → lit_true v l ≡ true → lit_true v (negated l) ≡ true → ⊥
never_both v l yes' other = false≢true (sym (lit_true-negated v l ∙ ap not yes') ∙ other)

module _ (clause : ℕ → List Lit) (IsOwn : ℕ → ℕ → Type 0) (IsNode IsKept IsIn : ℕ → Type 0) (rank : ℕ → ℕ) (v right : Var → Bool) (are : AreValues clause IsOwn IsNode IsKept IsIn rank v right) where
  abbrev Named : Lit → Type 0
  Named l = IsNamed clause IsOwn IsNode IsKept l

  abbrev KeptClause : List Lit → Type 0
  KeptClause c = IsKeptClause clause IsOwn IsNode IsKept c

  abbrev Asked : Lit → Type 0
  Asked l = Named l ⊎ IsForced KeptClause l

  kept_met : (c : List Lit) → KeptClause c → IsTrueUnder v c
  kept_met c h = subst (IsTrueUnder v) h.2 (are.met h.0 h.1)

  forced_true : (l : Lit) → IsForced KeptClause l → lit_true v l ≡ true
  forced_true l h = always_true KeptClause v kept_met l h

  abbrev Claim : ℕ → Type 0
  Claim n = (l : Lit) → rank l.variable.0 < n → IsIn l.variable.0 → IsNode l.variable.0 → Asked l → lit_true v l ≡ true → lit_true right l ≡ true

  -- of the variable of another literal of an axiom
  child : (n : ℕ) → Claim n → (k x : ℕ) → IsOwn k x → IsIn x → rank x < n + 1 → (m : Lit) → Contains (clause k) m → m.variable.0 ≢ x
      → (q : Lit) → q.variable ≡ m.variable → (IsNode q.variable.0 → Asked q) → lit_true v q ≡ true → lit_true right q ≡ true
  child n claim k x own inside low m has other q same asked is = elim (are.is_node q.variable.0) [
    | inl a_node ↦
        let here = are.lower k x own inside m has (subst (λ (y : Var). IsNode y.0) same a_node) other in
        claim q (omega (arith, ap (λ (y : Var). rank y.0) same, here.1, low)) (subst (λ (y : Var). IsIn y.0) (sym same) here.0) a_node (asked a_node) is
    | inr no_node ↦ ap (λ (b : Bool). if q.sign then b else not b) (sym (are.same q.variable no_node)) ∙ is
  ]

  module _ (n : ℕ) (claim : Claim n) where
    -- what is named
    named : (l : Lit) → rank l.variable.0 < n + 1 → IsIn l.variable.0 → IsNode l.variable.0 → Named l → lit_true v l ≡ true → lit_true right l ≡ true
    named l low inside a_node h is = elim (cases_Bool (lit_true right l)) [
      | inl done ↦ done
      | inr wrong ↦ absurd (by (are.settled l inside a_node wrong))
    ]
      where
        mentioned : IsMentioned clause IsOwn IsNode IsKept l.variable.0
        mentioned = (h.0, h.1, l, h.2, refl)

        by : (k : ℕ) × IsOwn k l.variable.0 × Contains (clause k) (negated l) × ((m : Lit) → Contains (clause k) m → m ≢ negated l → lit_true right m ≡ false) × (IsKept k ⊎ IsSpared clause IsOwn IsNode IsKept right k) → ⊥
        by (k, own, has, wrong, how) = elim how [
          | inl kept ↦
              let some = true_literal (lit_true v) (clause k) (are.met k kept) in
              met some.0 some.1 some.2 (λ a. inl (k, kept, some.1, λ also. apart some.0 some.1 some.2 (sym (are.one_own k l.variable.0 some.0.variable.0 own also))))
          | inr (inl (e, e_in, forced)) ↦ met e e_in (forced_true e forced) (λ a. inr forced)
          | inr (inr (inl none)) ↦ none (negated l) has a_node mentioned
          | inr (inr (inr (inl (e, e_in, unused, e_right)))) ↦ elim (same_or_not e (negated l)) [
            | inl same ↦ unused (subst (λ (y : Var). IsMentioned clause IsOwn IsNode IsKept y.0) (sym (ap (λ (y : Lit). y.variable) same)) mentioned)
            | inr other ↦ false≢true (sym (wrong e e_in other) ∙ e_right)
          ]
          | inr (inr (inr (inr (m, m_in, m_own, unnamed)))) ↦
              let is_it = are.one_literal k l.variable.0 own m (negated l) m_in has (sym (are.one_own k l.variable.0 m.variable.0 own m_own)) refl in
              unnamed (subst Named (sym (ap negated is_it ∙ twice l)) h)
        ]
          where
            apart : (m : Lit) → Contains (clause k) m → lit_true v m ≡ true → m.variable.0 ≢ l.variable.0
            apart m m_in m_is same = never_both v l is (subst (λ (y : Lit). lit_true v y ≡ true) (are.one_literal k l.variable.0 own m (negated l) m_in has same refl) m_is)

            met : (m : Lit) → Contains (clause k) m → lit_true v m ≡ true → (IsNode m.variable.0 → Asked m) → ⊥
            met m m_in m_is asked =
                let other = apart m m_in m_is in
                let m_right = child n claim k l.variable.0 own inside low m m_in other m refl asked m_is in
                false≢true (sym (wrong m m_in (λ same. other (ap (λ (y : Lit). y.variable.0) same))) ∙ m_right)

    -- what is forced, by the literals that were forced before it
    forced : (trues : List Lit) → AreForced KeptClause trues → (l : Lit) → Contains trues l → rank l.variable.0 < n + 1 → IsIn l.variable.0 → IsNode l.variable.0 → lit_true right l ≡ true
    forced [] h l has low inside a_node = absurd (contains_none l has)
    forced (x ∷ xs) h l has low inside a_node = elim (contains_cases x xs l has) [
      | inl same ↦ by (subst (λ (y : Lit). (c : List Lit) × KeptClause c × Contains c y × ((m : Lit) → Contains c m → m ≢ y → Contains xs (negated m))) same h.0)
      | inr later ↦ forced xs h.1 l later low inside a_node
    ]
      where
        is : lit_true v l ≡ true
        is = forced_true l (x ∷ xs, h, has)

        by : (c : List Lit) × KeptClause c × Contains c l × ((m : Lit) → Contains c m → m ≢ l → Contains xs (negated m)) → lit_true right l ≡ true
        by (c, (k, kept, c_is), l_in, others) = elim (are.is_own k l.variable.0) [
          | inl own ↦
              let some = true_literal (lit_true right) (clause k) (are.meant k l.variable.0 own inside) in
              let m = some.0 in
              elim (same_or_not m l) [
                | inl same ↦ subst (λ (y : Lit). lit_true right y ≡ true) same some.2
                | inr other ↦
                    let before = others m (subst (λ (d : List Lit). Contains d m) c_is some.1) other in
                    let l_there : Contains (clause k) l = subst (λ (d : List Lit). Contains d l) (sym c_is) l_in in
                    let apart : m.variable.0 ≢ l.variable.0 = λ equal. other (are.one_literal k l.variable.0 own m l some.1 l_there equal refl) in
                    let early : IsForced KeptClause (negated m) = (xs, h.1, before) in
                    let turned = child n claim k l.variable.0 own inside low m some.1 apart (negated m) refl (λ a. inr early) (forced_true (negated m) early) in
                    absurd (never_both right m some.2 turned)
              ]
          | inr not_own ↦ named l low inside a_node (k, kept, subst (λ (d : List Lit). Contains d l) (sym c_is) l_in, not_own) is
        ]

  claims : (n : ℕ) → Claim n
  claims zero l low inside a_node asked is = absurd (omega (arith, low))
  claims (suc n) l low inside a_node asked is = elim asked [
    | inl h ↦ named n (claims n) l (omega (arith, low)) inside a_node h is
    | inr h ↦ forced n (claims n) h.0 h.1 l h.2 (omega (arith, low)) inside a_node
  ]

-- where the values make the kept clauses true, what is named or forced is right where it is true
pub named_is_right : (clause : ℕ → List Lit) (IsOwn : ℕ → ℕ → Type 0) (IsNode IsKept IsIn : ℕ → Type 0) (rank : ℕ → ℕ) (v right : Var → Bool) → AreValues clause IsOwn IsNode IsKept IsIn rank v right
    → (l : Lit) → IsIn l.variable.0 → IsNode l.variable.0 → IsNamed clause IsOwn IsNode IsKept l ⊎ IsForced (IsKeptClause clause IsOwn IsNode IsKept) l → lit_true v l ≡ true → lit_true right l ≡ true
named_is_right clause IsOwn IsNode IsKept IsIn rank v right are l inside a_node asked is =
    claims clause IsOwn IsNode IsKept IsIn rank v right are (rank l.variable.0 + 1) l (omega arith) inside a_node asked is

pub named_literals_are_right : NamedLiteralsAreRight
named_literals_are_right clause own node kept inside rank v right are l =
    named_is_right clause (λ k x. own k x ≡ true) (λ x. node x ≡ true) (λ k. kept k ≡ true) (λ x. inside x ≡ true) rank v right are l
