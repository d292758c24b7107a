-- Which lines a search from one line reaches.
use Rattle.std.proofs.Common.{◌≡◌, ◌≢◌, ℕ, ◌+◌, ◌<◌, ◌≤◌, List, [], ◌∷◌, ◌++◌, length, get_or, set, take, refl, sym, ap, ◌∙◌, subst, arith, Contains, All, inl, inr, ⊎_elim}
use Rattle.std.specs.List.{IsDistinct}
use Rattle.std.specs.List.Sorted.{IsPermutation, IsNonDecreasing}
use Rattle.std.proofs.Math.Dec.{eqb}
use Rattle.std.proofs.Math.Seq.{take-append_seam}
use Rattle.std.proofs.lemmas.Bool.{cases_eq, cases_lt, ne_eqb, eqb-true}
use Rattle.std.proofs.lemmas.List.{take_more, take_all, take-take, length-take, length-set, length_push, get_or-set_same, get_or-set_other, get_or_append_left, get_or_push, get_or_default}
use Rattle.std.proofs.lemmas.List.Elements.{Contains-get_or, Contains-push, Contains-push_cases, Contains-append_left, All-contains}
use Rattle.std.proofs.lemmas.List.Sorted.{Contains-permutation, IsPermutation-sym}
use Rattle.std.proofs.lemmas.Map.Keys.{IsDistinct-from_apart, IsDistinct-IsPermutation, IsStrictlyIncreasing-from_distinct}
use Rattle.std.proofs.lemmas.Map.Steps.{length-le_from_distinct_below}
use Rattle.std.proofs.lemmas.Map.Views.{Contains-from_any}
use Rattle.pc_log.specs.declared.log.StepId.{StepId}
use Rattle.pc_log.specs.Lines.{LogLine}
use Rattle.pc_log.specs.Rests.{Rests, on_itself, on_hint, HasHint, HasHints}
use Rattle.pc_log.specs.Sparse.{AreRested}
use Rattle.pc_log.specs.inside.Reached.{AreSlotted, AreReached, AreFound}

-- ---- slots

-- the slot of a reached line says where it stands
pub slot_of : (reached slots : List ℕ) (place : ℕ) → AreSlotted reached slots → (has : Contains reached place) → get_or slots place 0 ≡ has.0
slot_of reached slots place slotted has = ap (λ n. get_or slots n 0) (sym has.2) ∙ (slotted has.0 place has.1).1

-- and a line is reached that stands where its slot says
pub stands_there : (reached : List ℕ) (place slot d : ℕ) → slot < length reached → get_or reached slot d ≡ place → Contains reached place
stands_there reached place slot d low at = (slot, low, get_or_default reached slot place d low ∙ at)

-- no line was reached twice
reached_once : (reached slots : List ℕ) → AreSlotted reached slots → IsDistinct eqb reached
reached_once reached slots slotted =
    IsDistinct-from_apart eqb reached (λ i j d below low. ne_eqb (get_or reached i d) (get_or reached j d) (λ same.
    let here = (slotted i d (omega arith)).1 in
    let there = (slotted j d low).1 in
    absurd (omega (arith, here, there, ap (λ n. get_or slots n 0) same))))

-- so they are no more than there are slots
pub reached_few : (reached slots : List ℕ) → AreSlotted reached slots → length reached ≤ length slots
reached_few reached slots slotted =
    length-le_from_distinct_below reached (length slots) (reached_once reached slots slotted) (λ q found.
    let has = Contains-from_any eqb-true q reached found in
    subst (λ (n : ℕ). n < length slots) has.2 (slotted has.0 q has.1).0)

-- ---- one line more

pub slots_of_none : (slots : List ℕ) → AreSlotted [] slots
slots_of_none slots = λ k d low. absurd (omega arith)

pub reach_old : (reached slots : List ℕ) (place : ℕ) → AreSlotted reached slots → Contains reached place → AreReached reached reached slots (λ j. j ≡ place)
reach_old reached slots place slotted has = record {
  slotted = slotted;
  front = take_all (length reached) reached (omega arith);
  exactly = λ j. (λ there. inl there, λ by. ⊎_elim (λ there. there) (λ same. subst (Contains reached) (sym same) has) by);
}

pub reach_new : (reached slots : List ℕ) (place : ℕ) → AreSlotted reached slots → place < length slots → ¬ Contains reached place
    → AreReached reached (reached ++ place ∷ []) (set slots place (length reached)) (λ j. j ≡ place)
reach_new reached slots place slotted within new = record {
  slotted = λ k d low. elim (cases_lt k (length reached)) [
    | inl below ↦
        let was : get_or (reached ++ place ∷ []) k d ≡ get_or reached k d = get_or_append_left reached (place ∷ []) d k below in
        let other : get_or reached k d ≢ place = λ same. new (subst (Contains reached) same (Contains-get_or reached k d below)) in
        let kept = slotted k d below in
        rw was (omega (arith, kept.0, length-set slots place (length reached)), get_or-set_other slots place (get_or reached k d) (length reached) 0 other ∙ kept.1)
    | inr past ↦
        let at : length reached ≡ k = omega (arith, length_push reached place) in
        rw (get_or_push reached place d k at) (omega (arith, length-set slots place (length reached)), get_or-set_same slots place (length reached) 0 within ∙ at)
  ];
  front = take-append_seam reached (place ∷ []);
  exactly = λ j. (
    λ has. ⊎_elim (λ there. inl there) (λ same. inr (sym same)) (Contains-push_cases reached place j has),
    λ by. ⊎_elim (λ there. Contains-append_left reached (place ∷ []) j there) (λ same. subst (Contains (reached ++ place ∷ [])) (sym same) (Contains-push reached place)) by,
  );
}

-- ---- hints

abbrev pub AreHints : List StepId → ℕ → Type 0
AreHints hints j = Contains hints (record { 0 = j })

pub reach_none : (reached slots : List ℕ) → AreSlotted reached slots → AreReached reached reached slots (AreHints [])
reach_none reached slots slotted = record {
  slotted = slotted;
  front = take_all (length reached) reached (omega arith);
  exactly = λ j. (λ there. inl there, λ by. ⊎_elim (λ there. there) (λ has. absurd (omega (arith, has.1))) by);
}

front_length : (before after : List ℕ) → take (length before) after ≡ before → length before ≤ length after
front_length before after front = omega (arith, ap (λ (xs : List ℕ). length xs) front, length-take (length before) after)

pub reach_more : (before reached after slots next : List ℕ) (hints : List StepId) (i : ℕ) (d : StepId) → i < length hints → AreReached before reached slots (AreHints (take i hints))
    → AreReached reached after next (λ j. j ≡ (get_or hints i d).0) → AreReached before after next (AreHints (take (i + 1) hints))
reach_more before reached after slots next hints i d within state more =
    let h : StepId = get_or hints i d in
    rw (take_more hints i d within)
    (record {
      slotted = more.slotted;
      front = sym (take-take (length before) (length reached) after (front_length before reached state.front)) ∙ ap (take (length before)) more.front ∙ state.front;
      exactly = λ j. (
        λ has. ⊎_elim
            (λ there. ⊎_elim (λ was. inl was) (λ by. inr (Contains-append_left (take i hints) (h ∷ []) (record { 0 = j }) by)) ((state.exactly j).0 there))
            (λ same. inr (subst (AreHints (take i hints ++ h ∷ [])) (sym same) (Contains-push (take i hints) h)))
            ((more.exactly j).0 has),
        λ by. ⊎_elim
            (λ was. (more.exactly j).1 (inl ((state.exactly j).1 (inl was))))
            (λ has. ⊎_elim
            (λ earlier. (more.exactly j).1 (inl ((state.exactly j).1 (inr earlier))))
            (λ same. (more.exactly j).1 (inr (ap (λ (s : StepId). s.0) (sym same))))
            (Contains-push_cases (take i hints) h (record { 0 = j }) has))
            by,
      );
    })

-- ---- the search

-- what was reached from the line `last`, while the hints of the first ones have been
pub record Seen (lines : List LogLine) (last next : ℕ) (reached slots : List ℕ) : Type 0 where
  pub slotted : AreSlotted reached slots
  pub start : Contains reached last
  pub sound : (j : ℕ) → Contains reached j → Rests lines last j
  pub up_to : (j : ℕ) → Contains reached j → j ≤ last
  pub closed : (i h : ℕ) → Contains (take next reached) i → HasHint lines i h → Contains reached h

pub seen_first : (lines : List LogLine) (last : ℕ) (reached slots : List ℕ) → AreReached [] reached slots (λ j. j ≡ last) → Seen lines last 0 reached slots
seen_first lines last reached slots state =
    let only : (j : ℕ) → Contains reached j → j ≡ last = λ j has. ⊎_elim (λ was. absurd (omega (arith, was.1))) (λ same. same) ((state.exactly j).0 has) in
    record {
      slotted = state.slotted;
      start = (state.exactly last).1 (inr refl);
      sound = λ j has. subst (Rests lines last) (sym (only j has)) on_itself;
      up_to = λ j has. omega (arith, only j has);
      closed = λ i h has. absurd (omega (arith, has.1));
    }

some_hints : (xs ys : List StepId) (lines : List LogLine) (i : ℕ) → HasHints lines i xs → HasHints lines i ys → xs ≡ ys
some_hints xs ys lines i one other = cc

pub see_next : (lines : List LogLine) (last next place : ℕ) (reached slots after turned : List ℕ) (hints : List StepId) → Seen lines last next reached slots → next < length reached → place ≡ get_or reached next 0
    → HasHints lines place hints → All (λ h. h.0 < place) hints → AreReached reached after turned (AreHints hints) → Seen lines last (next + 1) after turned
see_next lines last next place reached slots after turned hints state within read at earlier more =
    let place_in : Contains reached place = subst (Contains reached) (sym read) (Contains-get_or reached next 0 within) in
    let kept : (j : ℕ) → Contains reached j → Contains after j = λ j has. (more.exactly j).1 (inl has) in
    let below : (j : ℕ) → AreHints hints j → j < place = λ j has. All-contains (λ (h : StepId). h.0 < place) hints (record { 0 = j }) earlier has in
    let first : take (next + 1) after ≡ take next reached ++ place ∷ [] =
    sym (take-take (next + 1) (length reached) after (omega arith)) ∙ ap (take (next + 1)) more.front ∙ take_more reached next 0 within ∙ ap (λ n. take next reached ++ n ∷ []) (sym read) in
    record {
      slotted = more.slotted;
      start = kept last state.start;
      sound = λ j has. ⊎_elim (state.sound j) (λ by. on_hint place j (state.sound place place_in) (hints, at, by)) ((more.exactly j).0 has);
      up_to = λ j has. ⊎_elim (state.up_to j) (λ by. omega (arith, below j by, state.up_to place place_in)) ((more.exactly j).0 has);
      closed = λ i h seen has. ⊎_elim
          (λ was. kept h (state.closed i h was has))
          (λ same.
          let here : HasHints lines place has.0 = subst (λ (n : ℕ). HasHints lines n has.0) (sym same) has.1 in
          (more.exactly h).1 (inr (subst (λ (hs : List StepId). AreHints hs h) (some_hints has.0 hints lines place here at) has.2)))
          (Contains-push_cases (take next reached) place i (subst (λ (xs : List ℕ). Contains xs i) first seen));
    }

all_reached : (lines : List LogLine) (last next j : ℕ) (reached slots : List ℕ) → Seen lines last next reached slots → length reached ≤ next → Rests lines last j → Contains reached j
all_reached lines last next _ reached slots state all on_itself = state.start
all_reached lines last next _ reached slots state all (on_hint i h rests has) =
    state.closed i h (subst (λ (xs : List ℕ). Contains xs i) (sym (take_all next reached all)) (all_reached lines last next i reached slots state all rests)) has

pub found_all : (lines : List LogLine) (last next : ℕ) (reached slots : List ℕ) → Seen lines last next reached slots → length reached ≤ next → AreFound lines last reached slots
found_all lines last next reached slots state all = record {
  slotted = state.slotted;
  exactly = λ j. (state.sound j, all_reached lines last next j reached slots state all);
  up_to = state.up_to;
}

-- ---- in their order

pub in_order : (lines : List LogLine) (last : ℕ) (reached slots sorted : List ℕ) → AreFound lines last reached slots → IsPermutation reached sorted → IsNonDecreasing sorted → AreRested lines last sorted
in_order lines last reached slots sorted found moved rising =
    let back : (j : ℕ) → Contains sorted j → Contains reached j = λ j has. Contains-permutation sorted reached j (IsPermutation-sym reached sorted moved) has in
    record {
      rise = IsStrictlyIncreasing-from_distinct sorted rising (IsDistinct-IsPermutation eqb flips reached sorted moved (reached_once reached slots found.slotted));
      exactly = λ j. (λ has. (found.exactly j).0 (back j has), λ rests. Contains-permutation reached sorted j moved ((found.exactly j).1 rests));
      up_to = λ j has. found.up_to j (back j has);
    }
  where
    flips : (x y : ℕ) → eqb x y ≡ eqb y x
    flips x y = ⊎_elim (λ same. rw same refl) (λ other. ne_eqb x y other ∙ sym (ne_eqb y x (λ same. other (sym same)))) (cases_eq x y)
