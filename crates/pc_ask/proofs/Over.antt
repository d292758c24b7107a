-- The clauses over some variables, by marks.
use Rattle.std.proofs.Common.{◌≡◌, ◌↔◌, ℕ, ◌+◌, ◌<◌, inl, inr, Bool, true, false, cond, List, [], ◌∷◌, ◌++◌, Option, None, Some, length, replicate, take, get_or, slice_index_or, slice_get, slice_set, All, Contains, arith, ap, refl, sym, ◌∙◌, subst}
use Rattle.std.proofs.lemmas.Bool.{cases_eq, cases_lt, false≢true}
use Rattle.std.proofs.lemmas.List.{append-nil, get_or-replicate, get_or-set_same, get_or-set_other, length-replicate, length-set, take_more}
use Rattle.std.proofs.lemmas.List.Elements.{All-contains, Contains-append_cases, Contains-append_left, Contains-append_right}
use Rattle.std.proofs.lemmas.Option.{get_or_from_slice_get}
use Rattle.pc_lemmas.proofs.Elements.{all_from, contains_cases, contains_first, contains_none}
use Rattle.pc_lits.specs.declared.literal.Var.{Var}
use Rattle.pc_lits.specs.declared.literal.Lit.{Lit}
use Rattle.pc_ask.specs.inside.Parts.{AreAxiomsOver, AreMarked, AreMarkedBelow, IsMarkedClause}

none_some : (b : Bool) → None ≡ Some b → ⊥
none_some b e = absurd (cc)

same_variable : (v w : Var) → v.0 ≡ w.0 → v ≡ w
same_variable v w same = let make = λ (n : ℕ). let x : Var = record { 0 = n } in x in ap make same

-- ---- marks

pub marked_none : (n : ℕ) (marks : List (Option Bool)) → marks ≡ replicate n None → AreMarked [] marks
marked_none n marks is = subst (AreMarked []) (sym is) (λ v low. (
  λ at. let e : slice_index_or (replicate n None) v.0 None ≡ None = get_or-replicate n v.0 None None (omega (arith, low, length-replicate {A = Option Bool} n None)) in absurd (none_some true (sym e ∙ at)),
  λ c. absurd (contains_none v c),
))

pub marked_more : (own more : List Var) (w : Var) (marks new : List (Option Bool)) → more ≡ own ++ w ∷ [] → new ≡ slice_set marks w.0 (Some true) → w.0 < length marks → AreMarked own marks → AreMarked more new
marked_more own more w marks new more_is new_is within h = subst (λ vs. AreMarked vs new) (sym more_is) (subst (AreMarked (own ++ w ∷ [])) (sym new_is) by)
  where
    by : AreMarked (own ++ w ∷ []) (slice_set marks w.0 (Some true))
    by v low =
        let before : v.0 < length marks = omega (arith, low, length-set marks w.0 (Some true)) in (
          λ is. elim (cases_eq w.0 v.0) [
            | inl same ↦ Contains-append_right own (w ∷ []) v (subst (Contains (w ∷ [])) (same_variable w v same) (contains_first w []))
            | inr other ↦ Contains-append_left own (w ∷ []) v ((h v before).0 (sym (get_or-set_other marks w.0 v.0 (Some true) None (λ e. other (sym e))) ∙ is))
          ],
          λ c. elim (cases_eq w.0 v.0) [
            | inl same ↦ subst (λ n. slice_index_or (slice_set marks w.0 (Some true)) n None ≡ Some true) same (get_or-set_same marks w.0 (Some true) None within)
            | inr other ↦ elim (Contains-append_cases own (w ∷ []) v c) [
              | inl old ↦ get_or-set_other marks w.0 v.0 (Some true) None (λ e. other (sym e)) ∙ (h v before).1 old
              | inr last ↦ elim (contains_cases w [] v last) [
                | inl is ↦ absurd (other (ap (λ (x : Var). x.0) is))
                | inr none ↦ absurd (contains_none v none)
              ]
            ]
          ],
        )

-- one variable more is marked
pub marks_step : (count : ℕ) (own : List Var) (i : ℕ) (marks new : List (Option Bool)) (l : Lit) (blank : Var) → All (λ v. v.0 < count) own → i < length own
    → l ≡ record { variable = get_or own i blank; sign = true } → new ≡ slice_set marks l.variable.0 (Some l.sign) → length marks ≡ count → AreMarked (take i own) marks → (length new ≡ count) × AreMarked (take (i + 1) own) new
marks_step count own i marks new l blank within below is assigned long h =
    let low : (get_or own i blank).0 < count = within i blank below in
    let variable_is : l.variable ≡ get_or own i blank = ap (λ (m : Lit). m.variable) is in
    let place : l.variable.0 ≡ (get_or own i blank).0 = ap (λ (v : Var). v.0) variable_is in
    let new_is : new ≡ slice_set marks l.variable.0 (Some true) = assigned ∙ ap (λ (b : Bool). slice_set marks l.variable.0 (Some b)) (ap (λ (m : Lit). m.sign) is) in
    let more : take (i + 1) own ≡ take i own ++ l.variable ∷ [] = take_more own i blank below ∙ ap (λ (v : Var). take i own ++ v ∷ []) (sym variable_is) in (
      ap length assigned ∙ (length-set marks l.variable.0 (Some l.sign) ∙ long),
      marked_more (take i own) (take (i + 1) own) l.variable marks new more new_is (omega (arith, low, place, long)) h,
    )

-- ---- clauses

module _ (store : List (List Lit)) (marks : List (Option Bool)) where
  pub below_none : AreMarkedBelow store marks 0 []
  below_none k = (λ c. absurd (contains_none k c), λ h. absurd (omega (arith, h.0)))

  -- one clause more
  pub below_more : (n : ℕ) (used new : List ℕ) → new ≡ used ++ n ∷ [] → IsMarkedClause marks (slice_index_or store n []) → AreMarkedBelow store marks n used → AreMarkedBelow store marks (n + 1) new
  below_more n used new is has h = subst (AreMarkedBelow store marks (n + 1)) (sym is) by
    where
      by : AreMarkedBelow store marks (n + 1) (used ++ n ∷ [])
      by k = (
        λ c. elim (Contains-append_cases used (n ∷ []) k c) [
          | inl old ↦ let b = (h k).0 old in (omega (arith, b.0), b.1)
          | inr last ↦ elim (contains_cases n [] k last) [
            | inl same ↦ (omega (arith, same), subst (λ m. IsMarkedClause marks (slice_index_or store m [])) same has)
            | inr none ↦ absurd (contains_none k none)
          ]
        ],
        λ b. elim (cases_lt k n) [
          | inl low ↦ Contains-append_left used (n ∷ []) k ((h k).1 (low, b.1))
          | inr high ↦ let same : n ≡ k = omega (arith, b.0, high) in Contains-append_right used (n ∷ []) k (subst (Contains (n ∷ [])) same (contains_first n []))
        ],
      )

  -- one that isn't
  pub below_same : (n : ℕ) (used : List ℕ) → (¬ IsMarkedClause marks (slice_index_or store n [])) → AreMarkedBelow store marks n used → AreMarkedBelow store marks (n + 1) used
  below_same n used lacks h k = (
    λ c. let b = (h k).0 c in (omega (arith, b.0), b.1),
    λ b. elim (cases_lt k n) [
      | inl low ↦ (h k).1 (low, b.1)
      | inr high ↦ let same : k ≡ n = omega (arith, b.0, high) in absurd (lacks (subst (λ m. IsMarkedClause marks (slice_index_or store m [])) same b.1))
    ],
  )

  pub below_step : (n : ℕ) (clause : List Lit) (b : Bool) (used new : List ℕ) → slice_get store n ≡ Some clause → (b ≡ true) ↔ IsMarkedClause marks clause → new ≡ used ++ cond b (n ∷ []) [] → AreMarkedBelow store marks n used → AreMarkedBelow store marks (n + 1) new
  below_step n clause true used new at says is h = below_more n used new is (subst (IsMarkedClause marks) (sym (get_or_from_slice_get store n clause [] at)) (says.0 refl)) h
  below_step n clause false used new at says is h =
      below_same n new (λ has. false≢true (says.1 (subst (IsMarkedClause marks) (get_or_from_slice_get store n clause [] at) has))) (subst (AreMarkedBelow store marks n) (sym (is ∙ append-nil used)) h)

  -- those of which each variable is marked are those over the marked ones
  pub all_over : (own : List Var) (used : List ℕ) → All (All (λ l. l.variable.0 < length marks)) store → AreMarked own marks → AreMarkedBelow store marks (length store) used → AreAxiomsOver store own used
  all_over own used room marked h k = (
    λ c. let b = (h k).0 c in (
      b.0,
      all_from (λ (l : Lit). Contains own l.variable) (slice_index_or store k [])
          (λ l has. (marked l.variable (within l b.0 has)).0 (All-contains (λ (m : Lit). slice_index_or marks m.variable.0 None ≡ Some true) (slice_index_or store k []) l b.1 has)),
    ),
    λ b. (h k).1 (
      b.0,
      all_from (λ (l : Lit). slice_index_or marks l.variable.0 None ≡ Some true) (slice_index_or store k [])
          (λ l has. (marked l.variable (within l b.0 has)).1 (All-contains (λ (m : Lit). Contains own m.variable) (slice_index_or store k []) l b.1 has)),
    ),
  )
    where
      within : (l : Lit) → k < length store → Contains (slice_index_or store k []) l → l.variable.0 < length marks
      within l low has = All-contains (λ (m : Lit). m.variable.0 < length marks) (slice_index_or store k []) l (room k [] low) has

-- there is room for the variables of the clauses
pub room_of : (store clauses : List (List Lit)) → store ≡ clauses → (marks : List (Option Bool)) (n : ℕ) → length marks ≡ n → All (All (λ l. l.variable.0 < n)) clauses → All (All (λ l. l.variable.0 < length marks)) store
room_of store clauses is marks n long h =
    subst (λ (cs : List (List Lit)). All (All (λ (l : Lit). l.variable.0 < length marks)) cs) (sym is) (subst (λ (m : ℕ). All (All (λ (l : Lit). l.variable.0 < m)) clauses) (sym long) h)
