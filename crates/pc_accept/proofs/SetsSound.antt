-- Where a certificate of sets is accepted, its sets are the maximal sets.
use Rattle.std.proofs.Common.{◌≡◌, ◌≢◌, ℕ, zero, suc, ◌<◌, ◌==◌, ◌⊎◌, inl, inr, true, not, List, [], ◌∷◌, map, length, get_or, AllPairs, Contains, arith, ap, refl, sym, ◌∙◌, subst, eqb-true, eq-eqb}
use Rattle.std.proofs.lemmas.Bool.{cases_Bool, false≢true, or_cases, or_left, or_right, and_from, and_parts, not_from_false}
use Rattle.std.proofs.lemmas.List.{length-map, get_or-map}
use Rattle.std.proofs.lemmas.List.Elements.{All-contains, Contains-get_or}
use Rattle.pc_sheet.specs.Sheet.{Sheet}
use Rattle.pc_sheet.specs.Entailment.{IsAssignment, Fits, HasEntry, IsConsistent, IsSublist, IsImplied}
use Rattle.pc_sheet.specs.MaximalSets.{IsContained, IsMaximalSet}
use Rattle.pc_sheet.specs.WellFormed.{AreDifferent}
use Rattle.pc_sheet.specs.declared.ids.ValueId.{ValueId}
use Rattle.pc_sheet.specs.declared.ids.Entry.{Entry}
use Rattle.pc_sheet.specs.declared.ids.Target.{Target}
use Rattle.pc_lemmas.proofs.Elements.{contains_first, contains_later, contains_cases, contains_none, contains_map, contains_mapped, kept, kept_is}
use Rattle.pc_laws.proofs.Contained.{sub_contained, filter_sub}
use Rattle.pc_laws.proofs.EachEntry.{same_contained}
use Rattle.pc_accept.specs.Literals.{Literal, LiteralHolds, ClauseHolds}
use Rattle.pc_accept.specs.Sets.{is_entry, is_in, those_in, those_outside, positive_entry, block_of, GivenSet, blocks_of, NeitherIsWithin}
use Rattle.pc_accept.specs.Accepts.{Certificate, AreShown, value_of_entry, AcceptsSets, BarsTarget}
use Rattle.pc_accept.specs.Laws.{AreMaximalSets}
use Rattle.pc_accept.proofs.Decided.{decide_literal}
use Rattle.pc_accept.proofs.Soundness.{true_beside, has_same}

-- ---- the test of an entry

entry_is : (e f : Entry) → is_entry e f ≡ true → e ≡ f
entry_is e f h =
    let both = and_parts (e.cell.0 == f.cell.0) (e.value.0 == f.value.0) h in
    let make : ℕ → ℕ → Entry = λ c v. record { cell = record { 0 = c }; value = record { 0 = v } } in
    ap (λ c. make c e.value.0) (eqb-true e.cell.0 f.cell.0 both.0) ∙ ap (make f.cell.0) (eqb-true e.value.0 f.value.0 both.1)

is_itself : (e : Entry) → is_entry e e ≡ true
is_itself e = and_from (e.cell.0 == e.cell.0) (e.value.0 == e.value.0) (eq-eqb e.cell.0 e.cell.0 refl) (eq-eqb e.value.0 e.value.0 refl)

pub in_contains : (set : List Entry) (e : Entry) → is_in set e ≡ true → Contains set e
in_contains [] e h = absurd (false≢true h)
in_contains (f ∷ fs) e h = elim (or_cases (is_entry e f) (is_in fs e) h) [
  | inl here ↦ subst (Contains (f ∷ fs)) (sym (entry_is e f here)) (contains_first f fs)
  | inr later ↦ contains_later f fs e (in_contains fs e later)
]

pub contains_in : (set : List Entry) (e : Entry) → Contains set e → is_in set e ≡ true
contains_in [] e h = absurd (contains_none e h)
contains_in (f ∷ fs) e h = elim (contains_cases f fs e h) [
  | inl is ↦ or_left (is_entry e f) (is_in fs e) (subst (λ g. is_entry e g ≡ true) (sym is) (is_itself e))
  | inr later ↦ or_right (is_entry e f) (is_in fs e) (contains_in fs e later)
]

-- ---- pairs

pairs_rest : {X : Type 0} (P : X → X → Type 0) (x : X) (xs : List X) → AllPairs P (x ∷ xs) → AllPairs P xs
pairs_rest P x xs h i j d below within = h (suc i) (suc j) d (omega arith) (omega arith)

pairs_first : {X : Type 0} (P : X → X → Type 0) (x : X) (xs : List X) → AllPairs P (x ∷ xs) → (y : X) → Contains xs y → P x y
pairs_first P x xs h y c = subst (P x) c.2 (h zero (suc c.0) y (omega arith) (omega (arith, c.1)))

-- of sets that don't lie within one another, one that lies within another is that one
same_set : (sets : List GivenSet) → AllPairs NeitherIsWithin sets → (s t : GivenSet) → Contains sets s → Contains sets t → IsContained s.uses t.uses → s ≡ t
same_set [] apart s t h k within = absurd (contains_none s h)
same_set (x ∷ xs) apart s t h k within = elim (contains_cases x xs s h) [
  | inl s_is ↦ elim (contains_cases x xs t k) [
    | inl t_is ↦ sym s_is ∙ t_is
    | inr t_later ↦ absurd ((pairs_first NeitherIsWithin x xs apart t t_later).0 (subst (λ (y : GivenSet). IsContained y.uses t.uses) (sym s_is) within))
  ]
  | inr s_later ↦ elim (contains_cases x xs t k) [
    | inl t_is ↦ absurd ((pairs_first NeitherIsWithin x xs apart s s_later).1 (subst (λ (y : GivenSet). IsContained s.uses y.uses) (sym t_is) within))
    | inr t_later ↦ same_set xs (pairs_rest NeitherIsWithin x xs apart) s t s_later t_later within
  ]
]

-- ---- an assignment's entries

module _ (sheet : Sheet) (a : List ValueId) where
  true_or_none : (clause : List Literal) → ClauseHolds sheet a clause ⊎ ((l : Literal) → Contains clause l → ¬ LiteralHolds sheet a l)
  true_or_none [] = inr (λ l h. absurd (contains_none l h))
  true_or_none (x ∷ xs) = elim (decide_literal sheet a x) [
    | inl is ↦ inl (x, contains_first x xs, is)
    | inr other ↦ elim (true_or_none xs) [
      | inl later ↦ inl (later.0, contains_later x xs later.0 later.1, later.2)
      | inr none ↦ inr (λ l h. elim (contains_cases x xs l h) [ inl same ↦ subst (λ m. ¬ LiteralHolds sheet a m) same other | inr later ↦ none l later ])
    ]
  ]

  -- each entry that the assignment has is in the set
  abbrev LiesWithin : GivenSet → Type 0
  LiesWithin s = (e : Entry) → Contains sheet.entries e → HasEntry a e → Contains s.uses e

  none_outside : (s : GivenSet) → ((l : Literal) → Contains (block_of sheet.entries s.uses) l → ¬ LiteralHolds sheet a l) → LiesWithin s
  none_outside s none e entered has = elim (cases_Bool (is_in s.uses e)) [
    | inl is ↦ in_contains s.uses e is
    | inr lacks ↦ absurd (none (positive_entry e) (contains_map positive_entry (those_outside sheet.entries s.uses) e (kept (λ f. not (is_in s.uses f)) sheet.entries e entered (not_from_false (is_in s.uses e) lacks))) has)
  ]

  -- the clauses of the sets are true, or all that the assignment has lies within one of them
  blocks_true : (sets : List GivenSet) → ((c : List Literal) → Contains (blocks_of sheet sets) c → ClauseHolds sheet a c) ⊎ ((s : GivenSet) × Contains sets s × LiesWithin s)
  blocks_true [] = inl (λ c h. absurd (contains_none c h))
  blocks_true (s ∷ ss) = elim (true_or_none (block_of sheet.entries s.uses)) [
    | inr none ↦ inr (s, contains_first s ss, none_outside s none)
    | inl is ↦ elim (blocks_true ss) [
      | inl rest ↦ inl (λ c h. elim (contains_cases (block_of sheet.entries s.uses) (blocks_of sheet ss) c h) [ inl same ↦ subst (ClauseHolds sheet a) same is | inr later ↦ rest c later ])
      | inr found ↦ inr (found.0, contains_later s ss found.0 found.1, found.2)
    ]
  ]

-- ---- the sets

module _ (sheet : Sheet) (IsBarred : List ValueId → Type 0) (c : Certificate) (h : AcceptsSets sheet IsBarred c) where
  abbrev set_in_order : GivenSet → List Entry
  set_in_order s = those_in sheet.entries s.uses

  abbrev IsShown : GivenSet → Type 0
  IsShown s = AreShown sheet (Fits sheet) s.uses s.values

  shown_of : (s : GivenSet) → Contains c.sets s → IsShown s
  shown_of s there = All-contains IsShown c.sets s h.shown there

  -- all that a fitting assignment has lies within a set
  pub within_one : (a : List ValueId) → IsAssignment sheet.universe a → Fits sheet a → (s : GivenSet) × Contains c.sets s × LiesWithin sheet a s
  within_one a assigns fits = elim (blocks_true sheet a c.sets) [
    | inl all ↦ absurd (contains_none (true_beside sheet a assigns fits (blocks_of sheet c.sets) all c.lines [] h.derives).0 (true_beside sheet a assigns fits (blocks_of sheet c.sets) all c.lines [] h.derives).1)
    | inr found ↦ found
  ]

  -- each consistent sublist lies within a set
  pub in_one : (t : List Entry) → IsSublist sheet.entries t → IsConsistent sheet t → (s : GivenSet) × Contains c.sets s × IsContained t s.uses
  in_one t sub k =
      let found = within_one k.0 k.1.assigns k.1.fits in
      (found.0, found.1, λ e there. found.2 e (sub_contained sheet.entries t sub e there) (All-contains (HasEntry k.0) t e k.1.has there))

  ordered_in : (s : GivenSet) → IsContained (set_in_order s) s.uses
  ordered_in s e there = in_contains s.uses e (kept_is (is_in s.uses) sheet.entries e there).1

  in_ordered : (s : GivenSet) → Contains c.sets s → IsContained s.uses (set_in_order s)
  in_ordered s there e used = kept (is_in s.uses) sheet.entries e (All-contains (Contains sheet.entries) s.uses e (shown_of s there).entered used) (contains_in s.uses e used)

  ordered_consistent : (s : GivenSet) → Contains c.sets s → IsConsistent sheet (set_in_order s)
  ordered_consistent s there =
      let shown = shown_of s there in
      let a = map value_of_entry s.values in
      (a, record { assigns = shown.assigns; fits = shown.fits; has = has_same a (set_in_order s) s.uses (ordered_in s) shown.has })

  maximal_at : AreDifferent sheet.entries → (s : GivenSet) → Contains c.sets s → IsMaximalSet sheet (set_in_order s)
  maximal_at distinct s there = record {
    among = filter_sub (is_in s.uses) sheet.entries;
    consistent = ordered_consistent s there;
    maximal = λ other sub k larger.
        let one = in_one other sub k in
        let same = same_set c.sets h.apart s one.0 there one.1 (λ e used. one.2 e (larger e (in_ordered s there e used))) in
        let back : IsContained other s.uses = subst (λ (x : GivenSet). IsContained other x.uses) (sym same) one.2 in
        same_contained sheet.entries other (set_in_order s) distinct sub (filter_sub (is_in s.uses) sheet.entries)
        (λ e has. kept (is_in s.uses) sheet.entries e (sub_contained sheet.entries other sub e has) (contains_in s.uses e (back e has))) larger;
  }

  is_given : (t : List Entry) → IsMaximalSet sheet t → Contains (map set_in_order c.sets) t
  is_given t m =
      let one = in_one t m.among m.consistent in
      let same : set_in_order one.0 ≡ t =
      m.maximal (set_in_order one.0) (filter_sub (is_in one.0.uses) sheet.entries) (ordered_consistent one.0 one.1)
      (λ e has. kept (is_in one.0.uses) sheet.entries e (sub_contained sheet.entries t m.among e has) (contains_in one.0.uses e (one.2 e has)))
      in
      subst (Contains (map set_in_order c.sets)) same (contains_map set_in_order c.sets one.0 one.1)

  apart_differ : (s t : GivenSet) → Contains c.sets s → NeitherIsWithin s t → set_in_order s ≢ set_in_order t
  apart_differ s t there apart same = apart.0 (λ e used. ordered_in t e (subst (λ o. Contains o e) same (in_ordered s there e used)))

  no_set : GivenSet
  no_set = record { uses = []; values = [] }

  all_differ : AllPairs (λ x y. x ≢ y) (map set_in_order c.sets)
  all_differ i j d below within =
      let count = length-map c.sets set_in_order in
      let low : i < length c.sets = omega (arith, below, within, count) in
      let high : j < length c.sets = omega (arith, within, count) in
      let differ = apart_differ (get_or c.sets i no_set) (get_or c.sets j no_set) (Contains-get_or c.sets i no_set low) (h.apart i j no_set below high) in
      λ same. differ (sym (get_or-map set_in_order c.sets i no_set d low) ∙ same ∙ get_or-map set_in_order c.sets j no_set d high)

  pub sets_are_maximal : AreDifferent sheet.entries → AreMaximalSets sheet c.sets
  sets_are_maximal distinct = record {
    exact = λ t. (
      λ has. let found = contains_mapped set_in_order c.sets t has in subst (IsMaximalSet sheet) found.2 (maximal_at distinct found.0 found.1),
      λ m. is_given t m,
    );
    different = all_differ;
  }

-- each consistent sublist lies within a set whose assignment lacks the target
pub not_implied : (sheet : Sheet) (t : Target) (c : Certificate) → AcceptsSets sheet (BarsTarget t) c → ¬ IsImplied sheet t
not_implied sheet t c h i =
    let one = in_one sheet (BarsTarget t) c h i.0 i.1.among i.1.consistent in
    let shown = shown_of sheet (BarsTarget t) c h one.0 one.1 in
    let a = map value_of_entry one.0.values in
    let lacks = All-contains (λ (s : GivenSet). ¬ BarsTarget t (map value_of_entry s.values)) c.sets one.0 h.free one.1 in
    lacks (i.1.entails a (record { assigns = shown.assigns; fits = shown.fits; has = has_same a i.0 one.0.uses one.2 shown.has }))
