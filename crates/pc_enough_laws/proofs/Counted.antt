-- A clause as a choice for each variable: absent, positive or negative.
use Rattle.std.proofs.Common.{◌≡◌, ◌≢◌, ◌^◌, ◌<◌, ◌⊎◌, inl, inr, Bool, true, false, List, [], ◌∷◌, ◌++◌, length, get_or, map, All, Contains, arith, refl, sym, ◌∙◌, subst, length-append}
use Rattle.std.specs.Prelude.{AllPairs}
use Rattle.std.proofs.Math.Nat.{pow-suc}
use Rattle.std.proofs.lemmas.List.{length-map, get_or-map}
use Rattle.std.proofs.lemmas.List.Elements.{All-contains, Contains-get_or, Contains-append_left, Contains-append_right}
use Rattle.std.proofs.lemmas.List.Kept.{AllPairs-cons}
use Rattle.pc_lits.specs.declared.literal.Var.{Var}
use Rattle.pc_lits.specs.declared.literal.Lit.{Lit}
use Rattle.pc_lits.specs.Literals.{negated}
use Rattle.pc_lits.specs.Steps.{IsTautology}
use Rattle.pc_lits.proofs.LitLemmas.{same_lit, lit_from_same, other_lit}
use Rattle.pc_lemmas.proofs.Elements.{contains_first, contains_later, contains_cases, contains_none, contains_map, contains_mapped, all_from}
use Rattle.pc_laws.proofs.Different.{fewer}
use Rattle.pc_enough_laws.specs.Clauses.{IsWithin, IsPlain, NewClausesAreFew}

-- ---- whether a clause has a literal

same_or_not : (a b : Lit) → (a ≡ b) ⊎ (a ≢ b)
same_or_not a b = by_test (same_lit a b) refl
  where
    by_test : (t : Bool) → same_lit a b ≡ t → (a ≡ b) ⊎ (a ≢ b)
    by_test true e = inl (lit_from_same a b e)
    by_test false e = inr (other_lit a b e)

abbrev Has : List Lit → Lit → Type 0
Has c m = Contains c m ⊎ (¬ Contains c m)

has : (c : List Lit) (m : Lit) → Has c m
has [] m = inr (contains_none m)
has (x ∷ xs) m = elim (same_or_not x m) [
  | inl is ↦ inl (subst (λ z. Contains (x ∷ xs) z) is (contains_first x xs))
  | inr other ↦ elim (has xs m) [
    | inl later ↦ inl (contains_later x xs m later)
    | inr none ↦ inr (λ h. elim (contains_cases x xs m h) [ inl is ↦ other is | inr later ↦ none later ])
  ]
]

-- ---- the choices

abbrev positive : Var → Lit
positive v = record { variable = v; sign = true }

abbrev negative : Var → Lit
negative v = record { variable = v; sign = false }

abbrev choice : {P Q : Type 0} → Var → List Lit → P ⊎ (¬ P) → Q ⊎ (¬ Q) → List Lit
choice v rest (inl p) q = positive v ∷ rest
choice v rest (inr lacks) (inl q) = negative v ∷ rest
choice v rest (inr lacks) (inr none) = rest

-- the clause, variable by variable
abbrev choices : List Var → List Lit → List Lit
choices [] c = []
choices (v ∷ vs) c = choice v (choices vs c) (has c (positive v)) (has c (negative v))

abbrev all_choices : List Var → List (List Lit)
all_choices [] = [] ∷ []
all_choices (v ∷ vs) = all_choices vs ++ (map (λ c. positive v ∷ c) (all_choices vs) ++ map (λ c. negative v ∷ c) (all_choices vs))

length-all_choices : (own : List Var) → length (all_choices own) ≡ 3 ^ length own
length-all_choices [] = refl
length-all_choices (v ∷ vs) =
    let ih = length-all_choices vs in
    let with_positive : List (List Lit) = map (λ c. positive v ∷ c) (all_choices vs) in
    let with_negative : List (List Lit) = map (λ c. negative v ∷ c) (all_choices vs) in
    rw pow-suc
    (omega (arith, ih, length-append (all_choices vs) (with_positive ++ with_negative), length-append with_positive with_negative, length-map (all_choices vs) (λ c. positive v ∷ c), length-map (all_choices vs) (λ c. negative v ∷ c)))

chosen : {P Q : Type 0} (v : Var) (vs : List Var) (rest : List Lit) → Contains (all_choices vs) rest → (p : P ⊎ (¬ P)) (q : Q ⊎ (¬ Q)) → Contains (all_choices (v ∷ vs)) (choice v rest p q)
chosen v vs rest h (inl p) q =
    Contains-append_right (all_choices vs) (map (λ c. positive v ∷ c) (all_choices vs) ++ map (λ c. negative v ∷ c) (all_choices vs)) (positive v ∷ rest)
    (Contains-append_left (map (λ c. positive v ∷ c) (all_choices vs)) (map (λ c. negative v ∷ c) (all_choices vs)) (positive v ∷ rest) (contains_map (λ c. positive v ∷ c) (all_choices vs) rest h))
chosen v vs rest h (inr lacks) (inl q) =
    Contains-append_right (all_choices vs) (map (λ c. positive v ∷ c) (all_choices vs) ++ map (λ c. negative v ∷ c) (all_choices vs)) (negative v ∷ rest)
    (Contains-append_right (map (λ c. positive v ∷ c) (all_choices vs)) (map (λ c. negative v ∷ c) (all_choices vs)) (negative v ∷ rest) (contains_map (λ c. negative v ∷ c) (all_choices vs) rest h))
chosen v vs rest h (inr lacks) (inr none) = Contains-append_left (all_choices vs) (map (λ c. positive v ∷ c) (all_choices vs) ++ map (λ c. negative v ∷ c) (all_choices vs)) rest h

are_choices : (own : List Var) (c : List Lit) → Contains (all_choices own) (choices own c)
are_choices [] c = contains_first [] []
are_choices (v ∷ vs) c = chosen v vs (choices vs c) (are_choices vs c) (has c (positive v)) (has c (negative v))

-- ---- the choices have the clause's literals

keeps_rest : {P Q : Type 0} (v : Var) (rest : List Lit) (m : Lit) → Contains rest m → (p : P ⊎ (¬ P)) (q : Q ⊎ (¬ Q)) → Contains (choice v rest p q) m
keeps_rest v rest m h (inl p) q = contains_later (positive v) rest m h
keeps_rest v rest m h (inr lacks) (inl q) = contains_later (negative v) rest m h
keeps_rest v rest m h (inr lacks) (inr none) = h

module _ (c : List Lit) (plain : ¬ IsTautology negated c) where
  has_positive : (v : Var) (rest : List Lit) → Contains c (positive v) → (p : Has c (positive v)) (q : Has c (negative v)) → Contains (choice v rest p q) (positive v)
  has_positive v rest h (inl p) q = contains_first (positive v) rest
  has_positive v rest h (inr lacks) q = absurd (lacks h)

  has_negative : (v : Var) (rest : List Lit) → Contains c (negative v) → (p : Has c (positive v)) (q : Has c (negative v)) → Contains (choice v rest p q) (negative v)
  has_negative v rest h (inl p) q = absurd (plain (positive v, p, h))
  has_negative v rest h (inr lacks) (inl q) = contains_first (negative v) rest
  has_negative v rest h (inr lacks) (inr none) = absurd (none h)

  has_either : (v : Var) (rest : List Lit) (sign : Bool) → Contains c (record { variable = v; sign = sign }) → (p : Has c (positive v)) (q : Has c (negative v)) → Contains (choice v rest p q) (record { variable = v; sign = sign })
  has_either v rest true h p q = has_positive v rest h p q
  has_either v rest false h p q = has_negative v rest h p q

  stay : (own : List Var) (v : Var) (sign : Bool) → Contains own v → Contains c (record { variable = v; sign = sign }) → Contains (choices own c) (record { variable = v; sign = sign })
  stay [] v sign o h = absurd (contains_none v o)
  stay (w ∷ ws) v sign o h = elim (contains_cases w ws v o) [
    | inl is ↦
        subst (λ x. Contains (choices (w ∷ ws) c) (record { variable = x; sign = sign })) is
        (has_either w (choices ws c) sign (subst (λ x. Contains c (record { variable = x; sign = sign })) (sym is) h) (has c (positive w)) (has c (negative w)))
    | inr later ↦ keeps_rest w (choices ws c) (record { variable = v; sign = sign }) (stay ws v sign later h) (has c (positive w)) (has c (negative w))
  ]

  of_choice : (v : Var) (rest : List Lit) → ((m : Lit) → Contains rest m → Contains c m) → (p : Has c (positive v)) (q : Has c (negative v)) (m : Lit) → Contains (choice v rest p q) m → Contains c m
  of_choice v rest f (inl p) q m h = elim (contains_cases (positive v) rest m h) [ inl is ↦ subst (Contains c) is p | inr later ↦ f m later ]
  of_choice v rest f (inr lacks) (inl q) m h = elim (contains_cases (negative v) rest m h) [ inl is ↦ subst (Contains c) is q | inr later ↦ f m later ]
  of_choice v rest f (inr lacks) (inr none) m h = f m h

  stood : (own : List Var) (m : Lit) → Contains (choices own c) m → Contains c m
  stood [] m h = absurd (contains_none m h)
  stood (v ∷ vs) m h = of_choice v (choices vs c) (stood vs) (has c (positive v)) (has c (negative v)) m h

same_within : (own : List Var) (c d : List Lit) → IsPlain own c → IsPlain own d → choices own c ≡ choices own d → IsWithin c d
same_within own c d h k same m there = stood d k.plain own m (subst (λ cs. Contains cs m) same (stay c h.plain own m.variable m.sign (h.over m there) there))

-- ---- the count

module _ (own : List Var) where
  apart : (clauses : List (List Lit)) → All (IsPlain own) clauses → AllPairs (λ c d. ¬ IsWithin c d) clauses → AllPairs (λ x y. x ≢ y) (map (choices own) clauses)
  apart [] h k = λ i j d below within. absurd (omega (arith, within))
  apart (c ∷ cs) h k = λ i j d below within is.
      let all = c ∷ cs in
      let there : j < length all = omega (arith, within, length-map all (choices own)) in
      let before : i < length all = omega (arith, there, below) in
      let first = get_or all i c in
      let second = get_or all j c in
      k i j c below there
      (same_within own first second (All-contains (IsPlain own) all first h (Contains-get_or all i c before)) (All-contains (IsPlain own) all second h (Contains-get_or all j c there))
      (sym (get_or-map (choices own) all i c d before) ∙ is ∙ get_or-map (choices own) all j c d there))

pub new_clauses_few : NewClausesAreFew
new_clauses_few own given clauses plain all none new =
    let chosen_all = map (choices own) clauses in
    let differs : All (λ y. choices own given ≢ y) chosen_all = all_from (λ y. choices own given ≢ y) chosen_all (λ y there is.
    let from = contains_mapped (choices own) clauses y there in
    All-contains (λ c. ¬ IsWithin given c) clauses from.0 none from.1
    (same_within own given from.0 plain (All-contains (IsPlain own) clauses from.0 all from.1) (is ∙ sym from.2))) in
    let different = AllPairs-cons (λ x y. x ≢ y) (choices own given) chosen_all differs (apart own clauses all new) in
    let within = fewer (choices own given ∷ chosen_all) (all_choices own) different (λ x there. elim (contains_cases (choices own given) chosen_all x there) [
      | inl is ↦ subst (Contains (all_choices own)) is (are_choices own given)
      | inr later ↦ let from = contains_mapped (choices own) clauses x later in subst (Contains (all_choices own)) from.2 (are_choices own from.0)
    ]) in
    omega (arith, within, length-map clauses (choices own), length-all_choices own)
