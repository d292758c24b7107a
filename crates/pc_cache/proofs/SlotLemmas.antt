-- Slots by their places, and as rows.
use Rattle.std.proofs.Common.{◌≡◌, ℕ, zero, suc, ◌+◌, ◌^◌, ◌<◌, ◌≤◌, Bool, true, false, List, [], ◌∷◌, ◌++◌, Option, Some, None, length, slice_get, refl, sym, ap, ◌∙◌, subst, arith, cond, inl, inr, IsSomeAnd, ⊎_elim, get_or, take, map, filter}
use Rattle.pc_sheet.specs.declared.ids.Entry.{Entry}
use Rattle.std.specs.Prelude.{slice_set, ◌||◌}
use Rattle.std.specs.List.{list_any}
use Rattle.std.proofs.lemmas.Bool.{false≢true, or_left, or_right, true_from_ne_false}
use Rattle.std.proofs.lemmas.Option.{slice_get-get_or}
use Rattle.std.proofs.lemmas.List.{append-nil, take_more}
use Rattle.pc_cache.specs.inside.Cached.{IsKept}
use Rattle.pc_sheet.specs.declared.ids.Target.{Target}
use Rattle.pc_log.specs.Lines.{LogLine}
use Rattle.pc_log.proofs.PickedLemmas.{picked_stays}
use Rattle.pc_reason.specs.Reasons.{Justification}
use Rattle.pc_cache.specs.Rows.{TargetRow, is_same_target, row_of, row_after, HasRowOf, HaveTargets, target_of, is_used_in, is_nothing, lacks_row, uses_entry, row_bytes, bytes_of_rows}
use Rattle.pc_cache.specs.inside.Kept.{block_at, kept_or_none, KeepsBlocks, rows_in, IsRowIn, AreRowsIn, HasSlot, HasSlots, with_slot, with_slots, targets_in, slot_target, slot_is_missing, slot_rests_on, is_row_over, is_no_row}
use Rattle.pc_cache.specs.inside.Places.{place_of, ArePlaced, IsSlotOf}
use Rattle.pc_cache.specs.declared.row.Row.{Row}
use Rattle.pc_cache.specs.declared.row.Slot.{Slot}
use Rattle.pc_cache.proofs.Targets.{same_target, same_by, different_by}

-- ---- places

-- a target that has a slot has a place from the first one on, where a slot of its stands
pub slot_stands : (starts : List ℕ) (place : ℕ) (slots : List Slot) (t : Target) → ArePlaced starts place slots → HasSlot slots t
    → (k : ℕ) × (place_of starts t ≡ Some (place + k)) × IsSlotOf slots t k
slot_stands starts place [] t placed has = absurd has
slot_stands starts place (s ∷ ss) t placed (inl same) = (0, ap (place_of starts) (sym same) ∙ placed.0 ∙ ap Some (let e : place ≡ place + 0 = omega arith in e), same)
slot_stands starts place (s ∷ ss) t placed (inr later) =
    let rest = slot_stands starts (place + 1) ss t placed.1 later in
    (suc rest.0, rest.1 ∙ ap Some (let e : place + 1 + rest.0 ≡ place + suc rest.0 = omega arith in e), rest.2)

pub some_place : (a b : ℕ) → Some a ≡ Some b → a ≡ b
some_place a b e = cc

-- at its place stands no other target's slot
pub no_slot_by : (starts : List ℕ) (slots : List Slot) (t : Target) → ArePlaced starts 0 slots → ((k : ℕ) → place_of starts t ≡ Some k → ¬ IsSlotOf slots t k) → ¬ HasSlot slots t
no_slot_by starts slots t placed none has =
    let s = slot_stands starts 0 slots t placed has in
    none s.0 (s.1 ∙ ap Some (let e : 0 + s.0 ≡ s.0 = omega arith in e)) s.2

-- the slot at a place, as one of that target
pub slot_at : (slots : List Slot) (k : ℕ) (s : Slot) (t : Target) → slice_get slots k ≡ Some s → s.target ≡ t → IsSlotOf slots t k
slot_at slots k s t at same = subst (λ (o : Option Slot). IsSomeAnd o (λ x. x.target ≡ t)) (sym at) same

pub target_at : (slots : List Slot) (k : ℕ) (s : Slot) (t : Target) → slice_get slots k ≡ Some s → IsSlotOf slots t k → s.target ≡ t
target_at slots k s t at is = subst (λ (o : Option Slot). IsSomeAnd o (λ x. x.target ≡ t)) at is

pub within_slots : (slots : List Slot) (k : ℕ) (t : Target) → IsSlotOf slots t k → k < length slots
within_slots [] k t is = absurd is
within_slots (s ∷ ss) zero t is = omega arith
within_slots (s ∷ ss) (suc k) t is = omega (arith, within_slots ss k t is)

later_place : (starts : List ℕ) (place : ℕ) (slots : List Slot) (t : Target) (k : ℕ) → ArePlaced starts place slots → IsSlotOf slots t k → place_of starts t ≡ Some (place + k)
later_place starts place [] t k placed is = absurd is
later_place starts place (s ∷ ss) t zero placed is = ap (place_of starts) (sym is) ∙ placed.0 ∙ ap Some (let e : place ≡ place + 0 = omega arith in e)
later_place starts place (s ∷ ss) t (suc k) placed is = later_place starts (place + 1) ss t k placed.1 is ∙ ap Some (let e : place + 1 + k ≡ place + suc k = omega arith in e)

-- a slot further on is another target's
other_target : (starts : List ℕ) (place : ℕ) (s : Slot) (ss : List Slot) (t : Target) (k : ℕ) → ArePlaced starts place (s ∷ ss) → IsSlotOf ss t k → ¬ (s.target ≡ t)
other_target starts place s ss t k placed is same =
    let there = later_place starts (place + 1) ss t k placed.1 is in
    let clash = some_place place (place + 1 + k) (sym placed.0 ∙ ap (place_of starts) same ∙ there) in
    omega (arith, clash)

-- ---- rows

-- the row of the target whose slot stands there
pub row_at : (blocks : List (List (Option LogLine))) (starts : List ℕ) (place : ℕ) (slots : List Slot) (k : ℕ) (s : Slot) (t : Target) → ArePlaced starts place slots → slice_get slots k ≡ Some s → s.target ≡ t
    → row_of (rows_in blocks slots) t ≡ kept_or_none blocks s.row
row_at blocks starts place [] k s t placed at is = cc
row_at blocks starts place (x ∷ xs) zero s t placed at is =
    let same : x ≡ s = cc in
    rw (same_by x.target t (ap (λ (y : Slot). y.target) same ∙ is)) (ap (λ (y : Slot). kept_or_none blocks y.row) same)
row_at blocks starts place (x ∷ xs) (suc k) s t placed at is =
    let other = other_target starts place x xs t k placed (slot_at xs k s t at is) in
    rw (different_by x.target t other) (row_at blocks starts (place + 1) xs k s t placed.1 at is)

-- a target without a slot has no row
pub no_row : (blocks : List (List (Option LogLine))) (slots : List Slot) (t : Target) → ¬ HasSlot slots t → row_of (rows_in blocks slots) t ≡ None
no_row blocks [] t none = refl
no_row blocks (x ∷ xs) t none = rw (different_by x.target t (λ same. none (inl same))) (no_row blocks xs t (λ later. none (inr later)))

pub has_target : (blocks : List (List (Option LogLine))) (slots : List Slot) (t : Target) → HasRowOf (rows_in blocks slots) t → HasSlot slots t
has_target blocks [] t has = absurd has
has_target blocks (x ∷ xs) t (inl same) = inl same
has_target blocks (x ∷ xs) t (inr later) = inr (has_target blocks xs t later)

pub rows_in-push : (blocks : List (List (Option LogLine))) (slots : List Slot) (s : Slot) → rows_in blocks (slots ++ s ∷ []) ≡ rows_in blocks slots ++ record { target = s.target; row = kept_or_none blocks s.row } ∷ []
rows_in-push blocks [] s = refl
rows_in-push blocks (x ∷ xs) s = ap (λ (rs : List TargetRow). record { target = x.target; row = kept_or_none blocks x.row } ∷ rs) (rows_in-push blocks xs s)

pub AreRowsIn-push : (blocks : List (List (Option LogLine))) (slots : List Slot) (s : Slot) → AreRowsIn blocks slots → IsRowIn blocks s.row → AreRowsIn blocks (slots ++ s ∷ [])
AreRowsIn-push blocks [] s each is = (is, tt)
AreRowsIn-push blocks (x ∷ xs) s each is = (each.0, AreRowsIn-push blocks xs s each.1 is)

-- ---- a slot in place of another

pub set_is : (starts : List ℕ) (place : ℕ) (slots : List Slot) (k : ℕ) (c : Slot) → ArePlaced starts place slots → IsSlotOf slots c.target k → slice_set slots k c ≡ with_slot slots c
set_is starts place [] k c placed is = absurd is
set_is starts place (s ∷ ss) zero c placed is = rw (same_by s.target c.target is) refl
set_is starts place (s ∷ ss) (suc k) c placed is =
    rw (different_by s.target c.target (other_target starts place s ss c.target k placed is)) (ap (λ (rest : List Slot). s ∷ rest) (set_is starts (place + 1) ss k c placed.1 is))

-- the two ways in which a target is another one or not
by_same : (s t : Target) (P : Bool → Type 0) → (s ≡ t → P true) → (¬ (s ≡ t) → P false) → P (is_same_target s t)
by_same s t P if_same if_other =
    elim (is_same_target s t) as (λ b. is_same_target s t ≡ b → P b) [
      | true ↦ λ e. if_same (same_target s t e)
      | false ↦ λ e. if_other (λ same. let both : true ≡ false = sym (same_by s t same) ∙ e in cc both)
    ] refl

pub ArePlaced-with : (starts : List ℕ) (place : ℕ) (slots : List Slot) (c : Slot) → ArePlaced starts place slots → ArePlaced starts place (with_slot slots c)
ArePlaced-with starts place [] c placed = tt
ArePlaced-with starts place (s ∷ ss) c placed =
    by_same s.target c.target (λ b. ArePlaced starts place (cond b (c ∷ ss) (s ∷ with_slot ss c)))
    (λ same. (ap (place_of starts) (sym same) ∙ placed.0, placed.1))
    (λ other. (placed.0, ArePlaced-with starts (place + 1) ss c placed.1))

pub AreRowsIn-with : (blocks : List (List (Option LogLine))) (slots : List Slot) (c : Slot) → AreRowsIn blocks slots → IsRowIn blocks c.row → AreRowsIn blocks (with_slot slots c)
AreRowsIn-with blocks [] c each is = tt
AreRowsIn-with blocks (s ∷ ss) c each is =
    by_same s.target c.target (λ b. AreRowsIn blocks (cond b (c ∷ ss) (s ∷ with_slot ss c))) (λ same. (is, each.1)) (λ other. (each.0, AreRowsIn-with blocks ss c each.1 is))

pub HasSlot-with : (slots : List Slot) (c : Slot) (t : Target) → HasSlot slots t → HasSlot (with_slot slots c) t
HasSlot-with [] c t has = absurd has
HasSlot-with (s ∷ ss) c t has =
    by_same s.target c.target (λ b. HasSlot (cond b (c ∷ ss) (s ∷ with_slot ss c)) t)
    (λ same. ⊎_elim (λ here. inl (sym same ∙ here)) (λ later. inr later) has)
    (λ other. ⊎_elim (λ here. inl here) (λ later. inr (HasSlot-with ss c t later)) has)

pub HasSlots-with : (slots : List Slot) (c : Slot) (cs : List Slot) → HasSlots slots cs → HasSlots (with_slot slots c) cs
HasSlots-with slots c [] have = tt
HasSlots-with slots c (d ∷ ds) have = (HasSlot-with slots c d.target have.0, HasSlots-with slots c ds have.1)

pub targets-with : (slots : List Slot) (c : Slot) → targets_in (with_slot slots c) ≡ targets_in slots
targets-with [] c = refl
targets-with (s ∷ ss) c =
    by_same s.target c.target (λ b. targets_in (cond b (c ∷ ss) (s ∷ with_slot ss c)) ≡ s.target ∷ targets_in ss)
    (λ same. ap (λ (t : Target). t ∷ targets_in ss) (sym same))
    (λ other. ap (λ (ts : List Target). s.target ∷ ts) (targets-with ss c))

cond_twice : {X : Type 0} (b : Bool) (x y z : X) → cond b x z ≡ cond b x (cond b y z)
cond_twice true x y z = refl
cond_twice false x y z = refl

cond_swap : {X : Type 0} (a b : Bool) (x y z : X) → (a ≡ true → b ≡ true → ⊥) → cond a x (cond b y z) ≡ cond b y (cond a x z)
cond_swap true true x y z none = absurd (none refl refl)
cond_swap true false x y z none = refl
cond_swap false true x y z none = refl
cond_swap false false x y z none = refl

-- the row of a target, after a slot was put in place of the one of its target
pub row-with : (blocks : List (List (Option LogLine))) (slots : List Slot) (c : Slot) (t : Target) → HasSlot slots c.target
    → row_of (rows_in blocks (with_slot slots c)) t ≡ cond (is_same_target c.target t) (kept_or_none blocks c.row) (row_of (rows_in blocks slots) t)
row-with blocks [] c t has = absurd has
row-with blocks (s ∷ ss) c t has =
    by_same s.target c.target (λ b. row_of (rows_in blocks (cond b (c ∷ ss) (s ∷ with_slot ss c))) t ≡ cond (is_same_target c.target t) (kept_or_none blocks c.row) (row_of (rows_in blocks (s ∷ ss)) t))
    (λ same.
    cond_twice (is_same_target c.target t) (kept_or_none blocks c.row) (kept_or_none blocks s.row) (row_of (rows_in blocks ss) t)
    ∙ ap (λ (u : Target). cond (is_same_target c.target t) (kept_or_none blocks c.row) (cond (is_same_target u t) (kept_or_none blocks s.row) (row_of (rows_in blocks ss) t))) (sym same))
    (λ other.
    let later : HasSlot ss c.target = ⊎_elim (λ here. absurd (other here)) (λ there. there) has in
    ap (cond (is_same_target s.target t) (kept_or_none blocks s.row)) (row-with blocks ss c t later)
    ∙ cond_swap (is_same_target s.target t) (is_same_target c.target t) (kept_or_none blocks s.row) (kept_or_none blocks c.row) (row_of (rows_in blocks ss) t)
    (λ one. λ two. other (same_target s.target t one ∙ sym (same_target c.target t two))))

-- ---- many slots in place of others

pub with_slots-push : (slots cs : List Slot) (c : Slot) → with_slots slots (cs ++ c ∷ []) ≡ with_slot (with_slots slots cs) c
with_slots-push slots [] c = refl
with_slots-push slots (d ∷ ds) c = with_slots-push (with_slot slots d) ds c

pub ArePlaced-withs : (starts : List ℕ) (place : ℕ) (slots cs : List Slot) → ArePlaced starts place slots → ArePlaced starts place (with_slots slots cs)
ArePlaced-withs starts place slots [] placed = placed
ArePlaced-withs starts place slots (c ∷ cs) placed = ArePlaced-withs starts place (with_slot slots c) cs (ArePlaced-with starts place slots c placed)

pub HasSlot-withs : (slots cs : List Slot) (t : Target) → HasSlot slots t → HasSlot (with_slots slots cs) t
HasSlot-withs slots [] t has = has
HasSlot-withs slots (c ∷ cs) t has = HasSlot-withs (with_slot slots c) cs t (HasSlot-with slots c t has)

pub AreRowsIn-withs : (blocks : List (List (Option LogLine))) (slots cs : List Slot) → AreRowsIn blocks slots → AreRowsIn blocks cs → AreRowsIn blocks (with_slots slots cs)
AreRowsIn-withs blocks slots [] each are = each
AreRowsIn-withs blocks slots (c ∷ cs) each are = AreRowsIn-withs blocks (with_slot slots c) cs (AreRowsIn-with blocks slots c each are.0) are.1

pub targets-withs : (slots cs : List Slot) → targets_in (with_slots slots cs) ≡ targets_in slots
targets-withs slots [] = refl
targets-withs slots (c ∷ cs) = targets-withs (with_slot slots c) cs ∙ targets-with slots c

pub row-withs : (blocks : List (List (Option LogLine))) (slots cs : List Slot) (t : Target) → HasSlots slots cs
    → row_of (rows_in blocks (with_slots slots cs)) t ≡ row_after (rows_in blocks cs) t (row_of (rows_in blocks slots) t)
row-withs blocks slots [] t have = refl
row-withs blocks slots (c ∷ cs) t have =
    row-withs blocks (with_slot slots c) cs t (HasSlots-with slots c cs have.1) ∙ ap (row_after (rows_in blocks cs) t) (row-with blocks slots c t have.0)

pub have_at : (slots cs : List Slot) (k : ℕ) (c : Slot) → HasSlots slots cs → slice_get cs k ≡ Some c → HasSlot slots c.target
have_at slots [] k c have at = cc
have_at slots (d ∷ ds) zero c have at = let same : d ≡ c = cc in subst (λ (x : Slot). HasSlot slots x.target) same have.0
have_at slots (d ∷ ds) (suc k) c have at = have_at slots ds k c have.1 at

-- ---- rows over more lines

IsRowIn-stays : (old new : List (List (Option LogLine))) (row : Option Row) → KeepsBlocks old new → IsRowIn old row → IsRowIn new row
IsRowIn-stays old new None keeps is = tt
IsRowIn-stays old new (Some r) keeps is = (omega (arith, is.0, keeps.0), (picked_stays (block_at old r.block) (block_at new r.block) r.places (keeps.1 r.block is.0) is.1).0)

pub AreRowsIn-stay : (old new : List (List (Option LogLine))) (slots : List Slot) → KeepsBlocks old new → AreRowsIn old slots → AreRowsIn new slots
AreRowsIn-stay old new [] keeps each = tt
AreRowsIn-stay old new (s ∷ ss) keeps each = (IsRowIn-stays old new s.row keeps each.0, AreRowsIn-stay old new ss keeps each.1)

row-stays : (old new : List (List (Option LogLine))) (row : Option Row) → KeepsBlocks old new → IsRowIn old row → kept_or_none new row ≡ kept_or_none old row
row-stays old new None keeps is = refl
row-stays old new (Some r) keeps is = ap (λ (ls : List LogLine). Some (let j : Justification = record { support = r.support.items; shown = r.shown.value; lines = ls } in j)) (picked_stays (block_at old r.block) (block_at new r.block) r.places (keeps.1 r.block is.0) is.1).1

pub rows_in-stay : (old new : List (List (Option LogLine))) (slots : List Slot) → KeepsBlocks old new → AreRowsIn old slots → rows_in new slots ≡ rows_in old slots
rows_in-stay old new [] keeps each = refl
rows_in-stay old new (s ∷ ss) keeps each = rw (row-stays old new s.row keeps each.0, rows_in-stay old new ss keeps each.1) refl

-- one more row, whose lines were added to the blocks
pub put_row : (old new : List (List (Option LogLine))) (slots : List Slot) (s : Slot) → KeepsBlocks old new → AreRowsIn old slots → IsRowIn new s.row
    → AreRowsIn new (slots ++ s ∷ []) × (rows_in new (slots ++ s ∷ []) ≡ rows_in old slots ++ record { target = s.target; row = kept_or_none new s.row } ∷ [])
put_row old new slots s keeps each is = (
  AreRowsIn-push new slots s (AreRowsIn-stay old new slots keeps each) is,
  rows_in-push new slots s ∙ ap (λ (rs : List TargetRow). rs ++ record { target = s.target; row = kept_or_none new s.row } ∷ []) (rows_in-stay old new slots keeps each),
)

pub nothing_left : {X : Type 0} (xs : List X) → length xs ≡ 0 → xs ≡ []
nothing_left [] e = refl
nothing_left (x ∷ xs) e = absurd (omega (arith, e))

-- the row of a slot that stands
pub row_in_at : (blocks : List (List (Option LogLine))) (slots : List Slot) (k : ℕ) (s : Slot) → AreRowsIn blocks slots → slice_get slots k ≡ Some s → IsRowIn blocks s.row
row_in_at blocks [] k s each at = cc
row_in_at blocks (x ∷ xs) zero s each at = let same : x ≡ s = cc in subst (λ (y : Slot). IsRowIn blocks y.row) same each.0
row_in_at blocks (x ∷ xs) (suc k) s each at = row_in_at blocks xs k s each.1 at

pub row_there : (blocks : List (List (Option LogLine))) (slots : List Slot) (i : ℕ) (d : Slot) → AreRowsIn blocks slots → i < length slots → IsRowIn blocks (get_or slots i d).row
row_there blocks slots i d are within = row_in_at blocks slots i (get_or slots i d) are (slice_get-get_or slots i d within)

-- a slot that was read
pub found_slot : (slots : List Slot) (k : ℕ) (s : Slot) (t : Target) → IsSlotOf slots t k → s ≡ get_or slots k s → (slice_get slots k ≡ Some s) × (s.target ≡ t)
found_slot slots k s t is read =
    let at : slice_get slots k ≡ Some s = slice_get-get_or slots k s (within_slots slots k t is) ∙ ap Some (sym read) in
    (at, target_at slots k s t at is)

pub to_target : (blocks : List (List (Option LogLine))) (slots : List Slot) (t : Target) → HasSlot slots t → HasRowOf (rows_in blocks slots) t
to_target blocks [] t has = absurd has
to_target blocks (x ∷ xs) t (inl same) = inl same
to_target blocks (x ∷ xs) t (inr later) = inr (to_target blocks xs t later)

-- ---- changes

have_slots : (old new : List (List (Option LogLine))) (slots cs : List Slot) → HaveTargets (rows_in old slots) (rows_in new cs) → HasSlots slots cs
have_slots old new slots [] have = tt
have_slots old new slots (c ∷ cs) have = (has_target old slots c.target have.0, have_slots old new slots cs have.1)

pub have_slots_by : (old new : List (List (Option LogLine))) (slots cs : List Slot) (rows patch : List TargetRow) → rows_in old slots ≡ rows → rows_in new cs ≡ patch → HaveTargets rows patch → HasSlots slots cs
have_slots_by old new slots cs rows patch rows_are patch_is have =
    have_slots old new slots cs (subst (λ (p : List TargetRow). HaveTargets (rows_in old slots) p) (sym patch_is) (subst (λ (r : List TargetRow). HaveTargets r patch) (sym rows_are) have))

pub targets_are : (blocks : List (List (Option LogLine))) (slots : List Slot) → map target_of (rows_in blocks slots) ≡ targets_in slots
targets_are blocks [] = refl
targets_are blocks (s ∷ ss) = ap (λ (ts : List Target). s.target ∷ ts) (targets_are blocks ss)

length_targets : (slots : List Slot) → length (targets_in slots) ≡ length slots
length_targets [] = refl
length_targets (s ∷ ss) = ap suc (length_targets ss)

length-withs : (slots cs : List Slot) → length (with_slots slots cs) ≡ length slots
length-withs slots cs = sym (length_targets (with_slots slots cs)) ∙ ap length (targets-withs slots cs) ∙ length_targets slots

pub few_with : (slots : List Slot) (c : Slot) → length slots ≤ 2 ^ 21 → length (with_slot slots c) ≤ 2 ^ 21
few_with slots c few = omega (arith, few, length_targets (with_slot slots c), ap length (targets-with slots c), length_targets slots)

pub kept_after : (old new : List (List (Option LogLine))) (starts : List ℕ) (slots cs after : List Slot) → IsKept old starts slots → KeepsBlocks old new → AreRowsIn new cs → after ≡ with_slots slots cs → IsKept new starts after
kept_after old new starts slots cs after kept keeps are put = record {
  small = kept.small;
  placed = rw put (ArePlaced-withs starts 0 slots cs kept.placed);
  rows = rw put (AreRowsIn-withs new slots cs (AreRowsIn-stay old new slots keeps kept.rows) are);
  few = omega (arith, kept.few, ap length put, length-withs slots cs);
}

pub rows_after : (old new : List (List (Option LogLine))) (starts : List ℕ) (slots cs after : List Slot) (rows patch : List TargetRow) → IsKept old starts slots → KeepsBlocks old new → after ≡ with_slots slots cs
    → rows_in old slots ≡ rows → rows_in new cs ≡ patch → HaveTargets rows patch → (t : Target) → row_of (rows_in new after) t ≡ row_after patch t (row_of rows t)
rows_after old new starts slots cs after rows patch kept keeps put rows_are patch_is have t =
    ap (λ (ss : List Slot). row_of (rows_in new ss) t) put
    ∙ row-withs new slots cs t (have_slots_by old new slots cs rows patch rows_are patch_is have)
    ∙ ap (λ (p : List TargetRow). row_after p t (row_of (rows_in new slots) t)) patch_is
    ∙ ap (λ (rs : List TargetRow). row_after patch t (row_of rs t)) (rows_in-stay old new slots keeps kept.rows ∙ rows_are)

pub targets_after : (old new : List (List (Option LogLine))) (slots cs after : List Slot) (rows : List TargetRow) → after ≡ with_slots slots cs → rows_in old slots ≡ rows → map target_of (rows_in new after) ≡ map target_of rows
targets_after old new slots cs after rows put rows_are =
    targets_are new after ∙ ap targets_in put ∙ targets-withs slots cs ∙ sym (targets_are old slots) ∙ ap (map target_of) rows_are

-- ---- bytes of rows

pub bytes_of_rows-push : (blocks : List (List (Option LogLine))) (slots : List Slot) (s : Slot) → bytes_of_rows (rows_in blocks (slots ++ s ∷ [])) ≡ bytes_of_rows (rows_in blocks slots) + row_bytes (kept_or_none blocks s.row)
bytes_of_rows-push blocks [] s = omega arith
bytes_of_rows-push blocks (x ∷ xs) s = omega (arith, bytes_of_rows-push blocks xs s)

-- ---- which are still to be searched

missing_row : (blocks : List (List (Option LogLine))) (row : Option Row) → is_nothing (kept_or_none blocks row) ≡ is_no_row row
missing_row blocks None = refl
missing_row blocks (Some r) = refl

over_row : (blocks : List (List (Option LogLine))) (e : Entry) (row : Option Row) → is_used_in e (kept_or_none blocks row) ≡ is_row_over e row
over_row blocks e None = refl
over_row blocks e (Some r) = refl

-- the slots whose rows pass a test are of the targets whose rows do
told_slots : (blocks : List (List (Option LogLine))) (all : List TargetRow) (p : Option Justification → Bool) (q : Slot → Bool) (slots : List Slot)
    → ((k : ℕ) (s : Slot) → slice_get slots k ≡ Some s → row_of all s.target ≡ kept_or_none blocks s.row) → ((s : Slot) → p (kept_or_none blocks s.row) ≡ q s)
    → map slot_target (filter q slots) ≡ filter (λ t. p (row_of all t)) (map target_of (rows_in blocks slots))
told_slots blocks all p q [] told same = refl
told_slots blocks all p q (s ∷ ss) told same =
    let rest = told_slots blocks all p q ss (λ k x at. told (suc k) x at) same in
    let test : (t : Target) → Bool = λ t. p (row_of all t) in
    rw (told zero s refl, same s)
    (elim (q s) as (λ b. map slot_target (cond b (s ∷ filter q ss) (filter q ss)) ≡ cond b (s.target ∷ filter test (map target_of (rows_in blocks ss))) (filter test (map target_of (rows_in blocks ss)))) [
      | true ↦ ap (λ (ts : List Target). s.target ∷ ts) rest
      | false ↦ rest
    ])

told : (blocks : List (List (Option LogLine))) (starts : List ℕ) (slots : List Slot) → ArePlaced starts 0 slots → (k : ℕ) (s : Slot) → slice_get slots k ≡ Some s → row_of (rows_in blocks slots) s.target ≡ kept_or_none blocks s.row
told blocks starts slots placed k s at = row_at blocks starts 0 slots k s s.target placed at refl

pub missing_are : (blocks : List (List (Option LogLine))) (starts : List ℕ) (slots : List Slot) (rows : List TargetRow) → ArePlaced starts 0 slots → rows_in blocks slots ≡ rows
    → map slot_target (filter slot_is_missing slots) ≡ filter (lacks_row rows) (map target_of rows)
missing_are blocks starts slots rows placed are =
    told_slots blocks (rows_in blocks slots) is_nothing slot_is_missing slots (told blocks starts slots placed) (λ s. missing_row blocks s.row)
    ∙ ap (λ (rs : List TargetRow). filter (lacks_row rs) (map target_of rs)) are

pub resting_are : (blocks : List (List (Option LogLine))) (starts : List ℕ) (e : Entry) (slots : List Slot) (rows : List TargetRow) → ArePlaced starts 0 slots → rows_in blocks slots ≡ rows
    → map slot_target (filter (slot_rests_on e) slots) ≡ filter (uses_entry e rows) (map target_of rows)
resting_are blocks starts e slots rows placed are =
    told_slots blocks (rows_in blocks slots) (is_used_in e) (slot_rests_on e) slots (told blocks starts slots placed) (λ s. over_row blocks e s.row)
    ∙ ap (λ (rs : List TargetRow). filter (uses_entry e rs) (map target_of rs)) are

-- ---- whether an entry is in some support

any_at : (q : Slot → Bool) (slots : List Slot) → list_any q slots ≡ true → (k : ℕ) × (s : Slot) × (slice_get slots k ≡ Some s) × (q s ≡ true)
any_at q [] is = absurd (false≢true is)
any_at q (s ∷ ss) is =
    elim (q s) as (λ b. q s ≡ b → (k : ℕ) × (x : Slot) × (slice_get (s ∷ ss) k ≡ Some x) × (q x ≡ true)) [
      | true ↦ λ here. (zero, s, refl, here)
      | false ↦ λ here.
          let rest = any_at q ss (any_later (q s) (list_any q ss) here is) in
          (suc rest.0, rest.1, rest.2, rest.3)
    ] refl
  where
    any_later : (a b : Bool) → a ≡ false → (a || b) ≡ true → b ≡ true
    any_later true b off on = absurd (false≢true (sym off))
    any_later false b off on = on

any_by : (q : Slot → Bool) (slots : List Slot) (k : ℕ) (s : Slot) → slice_get slots k ≡ Some s → q s ≡ true → list_any q slots ≡ true
any_by q [] k s at is = cc
any_by q (x ∷ xs) zero s at is = let same : x ≡ s = cc in or_left (q x) (list_any q xs) (ap q same ∙ is)
any_by q (x ∷ xs) (suc k) s at is = or_right (q x) (list_any q xs) (any_by q xs k s at is)

used_row : (e : Entry) (row : Option Justification) → is_used_in e row ≡ true → ¬ (row ≡ None)
used_row e None is none = false≢true is
used_row e (Some j) is none = cc

pub used_somewhere : (blocks : List (List (Option LogLine))) (starts : List ℕ) (e : Entry) (slots : List Slot) (rows : List TargetRow) → ArePlaced starts 0 slots → rows_in blocks slots ≡ rows
    → list_any (slot_rests_on e) slots ≡ true → (t : Target) × (uses_entry e rows t ≡ true)
used_somewhere blocks starts e slots rows placed are is =
    let found = any_at (slot_rests_on e) slots is in
    let s : Slot = found.1 in
    (s.target, ap (λ (rs : List TargetRow). is_used_in e (row_of rs s.target)) (sym are) ∙ ap (is_used_in e) (told blocks starts slots placed found.0 s found.2) ∙ over_row blocks e s.row ∙ found.3)

slot_read : (slots : List Slot) (k : ℕ) (t : Target) → IsSlotOf slots t k → (s : Slot) × (slice_get slots k ≡ Some s)
slot_read [] k t is = absurd is
slot_read (s ∷ ss) zero t is = (s, refl)
slot_read (s ∷ ss) (suc k) t is = slot_read ss k t is

pub used_by : (blocks : List (List (Option LogLine))) (starts : List ℕ) (e : Entry) (slots : List Slot) (rows : List TargetRow) (t : Target) → ArePlaced starts 0 slots → rows_in blocks slots ≡ rows
    → uses_entry e rows t ≡ true → list_any (slot_rests_on e) slots ≡ true
used_by blocks starts e slots rows t placed are used =
    let here : is_used_in e (row_of (rows_in blocks slots) t) ≡ true = ap (λ (rs : List TargetRow). is_used_in e (row_of rs t)) are ∙ used in
    let by_slot : HasSlot slots t → list_any (slot_rests_on e) slots ≡ true = λ has.
    let stands = slot_stands starts 0 slots t placed has in
    let read = slot_read slots stands.0 t stands.2 in
    let row = row_at blocks starts 0 slots stands.0 read.0 t placed read.1 (target_at slots stands.0 read.0 t read.1 stands.2) in
    any_by (slot_rests_on e) slots stands.0 read.0 read.1 (sym (over_row blocks e read.0.row) ∙ ap (is_used_in e) (sym row) ∙ here) in
    true_from_ne_false (list_any (slot_rests_on e) slots) (λ none. used_row e (row_of (rows_in blocks slots) t) here (no_row blocks slots t (λ has. false≢true (sym none ∙ by_slot has))))

all_slots : (blocks : List (List (Option LogLine))) (slots : List Slot) → map slot_target slots ≡ map target_of (rows_in blocks slots)
all_slots blocks [] = refl
all_slots blocks (s ∷ ss) = ap (λ (ts : List Target). s.target ∷ ts) (all_slots blocks ss)

pub all_are : (blocks : List (List (Option LogLine))) (slots : List Slot) (rows : List TargetRow) → rows_in blocks slots ≡ rows → map slot_target slots ≡ map target_of rows
all_are blocks slots rows are = all_slots blocks slots ∙ ap (map target_of) are

filter_push : (p : Slot → Bool) (xs : List Slot) (s : Slot) → map slot_target (filter p (xs ++ s ∷ [])) ≡ map slot_target (filter p xs) ++ cond (p s) (s.target ∷ []) []
filter_push p [] s = elim (p s) as (λ b. map slot_target (cond b (s ∷ []) []) ≡ cond b (s.target ∷ []) []) [ true ↦ refl | false ↦ refl ]
filter_push p (x ∷ xs) s =
    elim (p x) as (λ b. map slot_target (cond b (x ∷ filter p (xs ++ s ∷ [])) (filter p (xs ++ s ∷ []))) ≡ map slot_target (cond b (x ∷ filter p xs) (filter p xs)) ++ cond (p s) (s.target ∷ []) []) [
      | true ↦ ap (λ (ts : List Target). x.target ∷ ts) (filter_push p xs s)
      | false ↦ filter_push p xs s
    ]

pub filter_more : (p : Slot → Bool) (slots : List Slot) (i : ℕ) (d : Slot) → i < length slots
    → map slot_target (filter p (take (i + 1) slots)) ≡ map slot_target (filter p (take i slots)) ++ cond (p (get_or slots i d)) ((get_or slots i d).target ∷ []) []
filter_more p slots i d within = ap (λ (xs : List Slot). map slot_target (filter p xs)) (take_more slots i d within) ∙ filter_push p (take i slots) (get_or slots i d)

pub passes : (p : Slot → Bool) (slots : List Slot) (i : ℕ) (d : Slot) (old new : List Target) → i < length slots → p (get_or slots i d) ≡ true → old ≡ map slot_target (filter p (take i slots)) → new ≡ old ++ (get_or slots i d).target ∷ []
    → new ≡ map slot_target (filter p (take (i + 1) slots))
passes p slots i d old new within is was grown =
    let one : List Target = (get_or slots i d).target ∷ [] in
    grown ∙ ap (λ (ts : List Target). ts ++ one) was ∙ sym (filter_more p slots i d within ∙ ap (λ (b : Bool). map slot_target (filter p (take i slots)) ++ cond b one []) is)

pub fails : (p : Slot → Bool) (slots : List Slot) (i : ℕ) (d : Slot) (old : List Target) → i < length slots → p (get_or slots i d) ≡ false → old ≡ map slot_target (filter p (take i slots))
    → old ≡ map slot_target (filter p (take (i + 1) slots))
fails p slots i d old within is was =
    let one : List Target = (get_or slots i d).target ∷ [] in
    was ∙ sym (filter_more p slots i d within ∙ ap (λ (b : Bool). map slot_target (filter p (take i slots)) ++ cond b one []) is ∙ append-nil (map slot_target (filter p (take i slots))))
