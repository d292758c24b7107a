-- Sets by the ages of their entries.
use Rattle.std.proofs.Common.{Ordering, Less, Equal, Greater, ◌≡◌, ◌≢◌, ℕ, zero, suc, ◌+◌, ◌<◌, ◌≤◌, ◌⊎◌, ◌↔◌, inl, inr, Bool, true, false, cond, List, [], ◌∷◌, ◌++◌, drop, get_or, length, map, All, AllPairs, Contains, arith, ap, refl, sym, ◌∙◌, subst}
use Rattle.std.proofs.lemmas.Bool.{cases_Bool, false≢true}
use Rattle.std.proofs.lemmas.Cmp.{ranked}
use Rattle.std.proofs.lemmas.List.{get_or-map, length-map}
use Rattle.std.proofs.lemmas.List.Sorted.{All-permutation, IsPermutation-map}
use Rattle.std.specs.Cmp.{IsTotalOrder}
use Rattle.std.specs.Cmp.Lexicographic.{slice_cmp, nat_list_cmp_total}
use Rattle.std.specs.Ordering.{is_gt, is_lt, nat_cmp, ordering_reverse, ordering_then, MatchOrdering}
use Rattle.std.specs.List.Sorted.{IsPermutation}
use Rattle.pc_sheet.specs.Entailment.{IsSublist}
use Rattle.pc_sheet.specs.MaximalSets.{IsContained}
use Rattle.pc_sheet.specs.WellFormed.{AreDifferent}
use Rattle.pc_sheet.specs.declared.ids.Entry.{Entry}
use Rattle.pc_lemmas.proofs.Elements.{contains_first, contains_later, contains_cases, contains_none, element_at, all_unmapped}
use Rattle.pc_laws.proofs.Contained.{sub_contained}
use Rattle.pc_books.specs.Edits.{is_same_entry}
use Rattle.pc_books.proofs.EntryLemmas.{is_same, same_is}
use Rattle.pc_world_list.specs.Worlds.{WorldView}
use Rattle.pc_repairs.specs.Listed.{ComesFirst}
use Rattle.pc_repairs.specs.Listings.{aged_set}
use Rattle.pc_repairs.specs.inside.Ages.{ages_from, AreAged, AreApart, AreByAge, begins_with, IsAged, world_of}
use Rattle.pc_repairs.specs.declared.ordering.Aged.{Aged}
use Rattle.pc_repairs.proofs.Swapping.{pairs_moved}

-- ---- different entries

lacks_first : (e : Entry) (es : List Entry) → AreDifferent (e ∷ es) → ¬ Contains es e
lacks_first e es distinct (k, within, is) = distinct 0 (suc k) e (omega arith) (omega (arith, within)) (sym is)

distinct_later : (e : Entry) (es : List Entry) → AreDifferent (e ∷ es) → AreDifferent es
distinct_later e es distinct i j d less within = distinct (suc i) (suc j) d (omega (arith, less)) (omega (arith, within))

-- ---- ages

-- a set that lacks the entry doesn't begin with it
begins_not : (e : Entry) (es s : List Entry) → ¬ Contains es e → IsSublist es s → begins_with e s ≡ false
begins_not e es [] lacks sub = refl
begins_not e es (f ∷ fs) lacks sub = elim (cases_Bool (is_same_entry e f)) [
  | inl same ↦ absurd (lacks (subst (Contains es) (same_is e f same) (sub_contained es (f ∷ fs) sub f (contains_first f fs))))
  | inr other ↦ other
]

ages_skip : (k : ℕ) (e : Entry) (es s : List Entry) → ¬ Contains es e → IsSublist es s → ages_from k (e ∷ es) s ≡ ages_from (k + 1) es s
ages_skip k e es s lacks sub = ap (λ b. cond b (k ∷ ages_from (k + 1) es (drop 1 s)) (ages_from (k + 1) es s)) (begins_not e es s lacks sub)

ages_take : (k : ℕ) (e : Entry) (es rest : List Entry) → ages_from k (e ∷ es) (e ∷ rest) ≡ k ∷ ages_from (k + 1) es rest
ages_take k e es rest = ap (λ b. cond b (k ∷ ages_from (k + 1) es rest) (ages_from (k + 1) es (e ∷ rest))) (is_same e e refl)

-- no age is below the first
abbrev AreFrom : ℕ → List ℕ → Type 0
AreFrom k ages = (ages ≡ []) ⊎ ((j : ℕ) × (js : List ℕ) × (ages ≡ j ∷ js) × (k ≤ j))

from_more : (k : ℕ) (ages : List ℕ) → AreFrom (k + 1) ages → AreFrom k ages
from_more k ages (inl none) = inl none
from_more k ages (inr (j, js, is, high)) = inr (j, js, is, omega (arith, high))

ages_high : (k : ℕ) (es s : List Entry) → AreFrom k (ages_from k es s)
ages_high k [] s = inl refl
ages_high k (e ∷ es) s = by (begins_with e s) (ages_high (k + 1) es s)
  where
    by : (b : Bool) → AreFrom (k + 1) (ages_from (k + 1) es s) → AreFrom k (cond b (k ∷ ages_from (k + 1) es (drop 1 s)) (ages_from (k + 1) es s))
    by true rest = inr (k, ages_from (k + 1) es (drop 1 s), refl, omega arith)
    by false rest = from_more k (ages_from (k + 1) es s) rest

no_cons : {X : Type 0} {x : X} {xs : List X} → x ∷ xs ≡ [] → ⊥
no_cons is = cc

none_aged : (k : ℕ) (es s : List Entry) → AreDifferent es → IsSublist es s → ages_from k es s ≡ [] → s ≡ []
none_aged k [] s distinct sub none = sub
none_aged k (e ∷ es) s distinct (inl sub) none = none_aged (k + 1) es s (distinct_later e es distinct) sub (sym (ages_skip k e es s (lacks_first e es distinct) sub) ∙ none)
none_aged k (e ∷ es) s distinct (inr (rest, is, sub)) none = absurd (no_cons (sym (ages_take k e es rest) ∙ (ap (ages_from k (e ∷ es)) (sym is) ∙ none)))

-- ---- the order of sets

nothing_within : (s t : List Entry) → s ≡ [] → IsContained s t
nothing_within s t none e h = absurd (contains_none e (subst (λ o. Contains o e) none h))

in_middle : (older newer : List Entry) (e : Entry) → Contains (older ++ e ∷ newer) e
in_middle [] newer e = contains_first e newer
in_middle (f ∷ older) newer e = contains_later f (older ++ e ∷ newer) e (in_middle older newer e)

abbrev ComesOrIsWithin : List Entry → List Entry → List Entry → Type 0
ComesOrIsWithin es s t = ComesFirst es s t ⊎ IsContained s t

module _ (e : Entry) (es : List Entry) (lacks : ¬ Contains es e) where
  neither_has : (s t : List Entry) → ¬ Contains s e → ¬ Contains t e → ComesOrIsWithin es s t → ComesOrIsWithin (e ∷ es) s t
  neither_has s t not_s not_t (inr within) = inr within
  neither_has s t not_s not_t (inl c) = inl (record {
    older = e ∷ c.older;
    oldest = c.oldest;
    newer = c.newer;
    order = ap (λ xs. e ∷ xs) c.order;
    same = λ f there. elim (contains_cases e c.older f there) [
      | inl is ↦ (λ h. absurd (not_s (subst (Contains s) (sym is) h)), λ h. absurd (not_t (subst (Contains t) (sym is) h)))
      | inr later ↦ c.same f later
    ];
    has = c.has;
    lacks = c.lacks;
  })

  both_have : (s t : List Entry) → ComesOrIsWithin es s t → ComesOrIsWithin (e ∷ es) (e ∷ s) (e ∷ t)
  both_have s t (inr within) = inr (λ f h. elim (contains_cases e s f h) [ inl is ↦ subst (Contains (e ∷ t)) is (contains_first e t) | inr later ↦ contains_later e t f (within f later) ])
  both_have s t (inl c) = inl (record {
    older = e ∷ c.older;
    oldest = c.oldest;
    newer = c.newer;
    order = ap (λ xs. e ∷ xs) c.order;
    same = λ f there. elim (contains_cases e c.older f there) [
      | inl is ↦ (λ h. subst (Contains (e ∷ t)) is (contains_first e t), λ h. subst (Contains (e ∷ s)) is (contains_first e s))
      | inr older ↦ (
        λ h. elim (contains_cases e s f h) [ inl is ↦ subst (Contains (e ∷ t)) is (contains_first e t) | inr later ↦ contains_later e t f ((c.same f older).0 later) ],
        λ h. elim (contains_cases e t f h) [ inl is ↦ subst (Contains (e ∷ s)) is (contains_first e s) | inr later ↦ contains_later e s f ((c.same f older).1 later) ],
      )
    ];
    has = contains_later e s c.oldest c.has;
    lacks = λ h. elim (contains_cases e t c.oldest h) [
      | inl is ↦ lacks (subst (λ xs. Contains xs e) (sym c.order) (subst (λ x. Contains (c.older ++ c.oldest ∷ c.newer) x) (sym is) (in_middle c.older c.newer c.oldest)))
      | inr later ↦ c.lacks later
    ];
  })

  first_has : (s t : List Entry) → ¬ Contains t e → ComesOrIsWithin (e ∷ es) (e ∷ s) t
  first_has s t not_t = inl (record {
    older = [];
    oldest = e;
    newer = es;
    order = refl;
    same = λ f there. absurd (contains_none f there);
    has = contains_first e s;
    lacks = not_t;
  })

same_number : (k : ℕ) → nat_cmp k k ≡ Equal
same_number k = by (nat_cmp k k) (ranked k k (nat_cmp k k) refl)
  where
    by : (r : Ordering) → MatchOrdering r (k < k) (k ≡ k) (k < k) → r ≡ Equal
    by Less low = absurd (omega (arith, low))
    by Equal same = refl
    by Greater high = absurd (omega (arith, high))

later_number : (j k : ℕ) → k < j → nat_cmp j k ≡ Greater
later_number j k less = by (nat_cmp j k) (ranked j k (nat_cmp j k) refl)
  where
    by : (r : Ordering) → MatchOrdering r (j < k) (j ≡ k) (k < j) → r ≡ Greater
    by Less low = absurd (omega (arith, low, less))
    by Equal same = absurd (omega (arith, same, less))
    by Greater high = refl

abbrev compared : List ℕ → List ℕ → Ordering
compared ages others = slice_cmp nat_cmp ages others

-- the ages of a set come no later than those of another: the set comes first, or lies within the other
pub first_by_ages : (k : ℕ) (es s t : List Entry) → AreDifferent es → IsSublist es s → IsSublist es t → is_gt (slice_cmp nat_cmp (ages_from k es s) (ages_from k es t)) ≡ false → ComesOrIsWithin es s t
first_by_ages k [] s t distinct s_sub t_sub low = inr (nothing_within s t s_sub)
first_by_ages k (e ∷ es) s t distinct (inl s_sub) (inl t_sub) low =
    let lacks = lacks_first e es distinct in
    neither_has e es lacks s t (λ h. lacks (sub_contained es s s_sub e h)) (λ h. lacks (sub_contained es t t_sub e h))
    (first_by_ages (k + 1) es s t (distinct_later e es distinct) s_sub t_sub
    (ap (λ (ages : List ℕ). is_gt (slice_cmp nat_cmp ages (ages_from (k + 1) es t))) (sym (ages_skip k e es s lacks s_sub)) ∙ (ap (λ (ages : List ℕ). is_gt (slice_cmp nat_cmp (ages_from k (e ∷ es) s) ages)) (sym (ages_skip k e es t lacks t_sub)) ∙ low)))
first_by_ages k (e ∷ es) s t distinct (inl s_sub) (inr (rest, is, t_sub)) low = by (ages_high (k + 1) es s)
  where
    ages_s : ages_from k (e ∷ es) s ≡ ages_from (k + 1) es s
    ages_s = ages_skip k e es s (lacks_first e es distinct) s_sub

    ages_t : ages_from k (e ∷ es) t ≡ k ∷ ages_from (k + 1) es rest
    ages_t = ap (ages_from k (e ∷ es)) is ∙ ages_take k e es rest

    by : AreFrom (k + 1) (ages_from (k + 1) es s) → ComesOrIsWithin (e ∷ es) s t
    by (inl none) = inr (nothing_within s t (none_aged (k + 1) es s (distinct_later e es distinct) s_sub none))
    by (inr (j, js, are, high)) =
        let greater : compared (j ∷ js) (k ∷ ages_from (k + 1) es rest) ≡ Greater = ap (λ (r : Ordering). ordering_then r (compared js (ages_from (k + 1) es rest))) (later_number j k (omega (arith, high))) in
        absurd (false≢true (sym low ∙ (ap (λ (ages : List ℕ). is_gt (compared ages (ages_from k (e ∷ es) t))) (ages_s ∙ are) ∙ (ap (λ (ages : List ℕ). is_gt (compared (j ∷ js) ages)) ages_t ∙ ap is_gt greater))))
first_by_ages k (e ∷ es) s t distinct (inr (rest, is, s_sub)) (inl t_sub) low =
    let lacks = lacks_first e es distinct in
    subst (λ o. ComesOrIsWithin (e ∷ es) o t) (sym is) (first_has e es lacks rest t (λ h. lacks (sub_contained es t t_sub e h)))
first_by_ages k (e ∷ es) s t distinct (inr (s_rest, s_is, s_sub)) (inr (t_rest, t_is, t_sub)) low =
    subst (λ o. ComesOrIsWithin (e ∷ es) o t) (sym s_is)
    (subst (λ o. ComesOrIsWithin (e ∷ es) (e ∷ s_rest) o) (sym t_is)
    (both_have e es (lacks_first e es distinct) s_rest t_rest (first_by_ages (k + 1) es s_rest t_rest (distinct_later e es distinct) s_sub t_sub lower)))
  where
    lower : is_gt (compared (ages_from (k + 1) es s_rest) (ages_from (k + 1) es t_rest)) ≡ false
    lower =
        ap (λ (r : Ordering). is_gt (ordering_then r (compared (ages_from (k + 1) es s_rest) (ages_from (k + 1) es t_rest)))) (sym (same_number k))
        ∙ (ap (λ (ages : List ℕ). is_gt (compared ages (k ∷ ages_from (k + 1) es t_rest))) (sym (ap (ages_from k (e ∷ es)) s_is ∙ ages_take k e es s_rest))
        ∙ (ap (λ (ages : List ℕ). is_gt (compared (ages_from k (e ∷ es) s) ages)) (sym (ap (ages_from k (e ∷ es)) t_is ∙ ages_take k e es t_rest)) ∙ low))

-- ---- sorted sets

reversed : (r : Ordering) → is_lt r ≡ false → is_gt (ordering_reverse r) ≡ false
reversed Less low = low
reversed Equal low = refl
reversed Greater low = refl

abbrev SetsApart : Aged → Aged → Type 0
SetsApart a b = (¬ IsContained (aged_set a) (aged_set b)) × (¬ IsContained (aged_set b) (aged_set a))

module _ (entries : List Entry) (distinct : AreDifferent entries) (worlds : List WorldView) (sublists : All (λ w. IsSublist entries w.entries) worlds) (apart : AreApart worlds) (before after : List Aged) (are : AreAged entries worlds before) (moved : IsPermutation before after) where
  pub worlds_moved : IsPermutation worlds (map world_of after)
  worlds_moved = subst (λ ws. IsPermutation ws (map world_of after)) are.are (IsPermutation-map world_of before after moved)

  apart_before : AllPairs SetsApart before
  apart_before i j d less within =
      let P : WorldView → WorldView → Type 0 = λ v w. (¬ IsContained v.entries w.entries) × (¬ IsContained w.entries v.entries) in
      let high : j < length (map world_of before) = omega (arith, within, length-map before world_of) in
      let p = subst AreApart (sym are.are) apart i j (world_of d) less high in
      subst (λ v. P v (world_of (get_or before j d))) (get_or-map world_of before i d (world_of d) (omega (arith, less, within))) (subst (P (get_or (map world_of before) i (world_of d))) (get_or-map world_of before j d (world_of d) within) p)

  apart_after : AllPairs SetsApart after
  apart_after = pairs_moved SetsApart (λ x y h. (h.1, h.0)) before after apart_before moved

  aged_after : All (IsAged entries) after
  aged_after = All-permutation (IsAged entries) before after moved are.each

  sublists_after : All (λ a. IsSublist entries (aged_set a)) after
  sublists_after = All-permutation (λ a. IsSublist entries (aged_set a)) before after moved (all_unmapped (λ w. IsSublist entries w.entries) world_of before (subst (λ ws. All (λ w. IsSublist entries w.entries) ws) (sym are.are) sublists))

  pub in_their_order : AreByAge after → AllPairs (ComesFirst entries) (map aged_set after)
  in_their_order by_age i j d less within =
      let high : j < length after = omega (arith, within, length-map after aged_set) in
      let e = (element_at after j high).0 in
      let low : i < length after = omega (arith, less, high) in
      subst (λ s. ComesFirst entries s (get_or (map aged_set after) j d)) (sym (get_or-map aged_set after i e d low))
      (subst (ComesFirst entries (aged_set (get_or after i e))) (sym (get_or-map aged_set after j e d high)) (first i j e less low high))
    where
      first : (i j : ℕ) (e : Aged) → i < j → i < length after → j < length after → ComesFirst entries (aged_set (get_or after i e)) (aged_set (get_or after j e))
      first i j e less low high =
          let a = get_or after i e in
          let b = get_or after j e in
          let no_later : is_gt (slice_cmp nat_cmp a.ages.items b.ages.items) ≡ false = ap is_gt (nat_list_cmp_total.antisymm a.ages.items b.ages.items) ∙ reversed (slice_cmp nat_cmp b.ages.items a.ages.items) (by_age i j e (omega (arith, less)) high) in
          let by_sets : is_gt (slice_cmp nat_cmp (ages_from 0 entries (aged_set a)) (ages_from 0 entries (aged_set b))) ≡ false =
          ap (λ (ages : List ℕ). is_gt (slice_cmp nat_cmp ages (ages_from 0 entries (aged_set b)))) (sym (aged_after i e low)) ∙ (ap (λ (ages : List ℕ). is_gt (slice_cmp nat_cmp a.ages.items ages)) (sym (aged_after j e high)) ∙ no_later) in
          elim (first_by_ages 0 entries (aged_set a) (aged_set b) distinct (sublists_after i e low) (sublists_after j e high) by_sets) [
            | inl comes ↦ comes
            | inr lies ↦ absurd ((apart_after i j e less high).0 lies)
          ]
