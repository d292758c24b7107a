-- The empty slots of a book's targets.
use Rattle.std.proofs.Common.{◌≡◌, ℕ, zero, suc, ◌+◌, ◌*◌, ◌^◌, ◌<◌, ◌≤◌, ◌↔◌, Bool, true, false, List, [], ◌∷◌, ◌++◌, Option, None, Some, length, slice_get, take, get_or, refl, sym, ap, ◌∙◌, subst, arith, inl, inr, ◌⊎◌, IsSomeAnd, ⊎_elim, length-append, append_assoc, cond}
use Rattle.std.proofs.lemmas.List.{take_more, take_all, length-take, append-nil}
use Rattle.std.specs.Option.{option_map}
use Rattle.std.proofs.lemmas.Option.{get_or_from_slice_get, slice_get_within}
use Rattle.std.proofs.lemmas.Bool.{cases_lt}
use Rattle.pc_sheet.specs.Sheet.{Universe}
use Rattle.pc_sheet.specs.Entailment.{cell_sizes}
use Rattle.pc_sheet.specs.declared.ids.Target.{Target}
use Rattle.pc_log.specs.Lines.{LogLine}
use Rattle.pc_reason.specs.Targets.{IsTargetIn}
use Rattle.pc_cache.specs.Rows.{targets_of, HasRowOf, AreDistinct, AreEmpty}
use Rattle.pc_cache.specs.Targets.{targets_of_cell, targets_from, targets}
use Rattle.pc_cache.specs.inside.Kept.{rows_in, AreRowsIn, IsRowIn, HasSlot, kept_or_none, targets_in}
use Rattle.pc_cache.specs.inside.Places.{place_of, ArePlaced, AreSmall}
use Rattle.pc_cache.specs.inside.Slots.{empty_slot, cell_slots, slots_of, starts_of}
use Rattle.pc_cache.specs.inside.Cached.{IsKept}
use Rattle.pc_cache.specs.inside.Counted.{places_of, IsCounted}
use Rattle.pc_cache.specs.declared.row.Slot.{Slot}
use Rattle.pc_cache.proofs.SlotLemmas.{slot_stands, has_target, to_target, some_place, targets_are}

length-cell_slots : (c n : ℕ) → length (cell_slots c n) ≡ 2 * n
length-cell_slots c zero = refl
length-cell_slots c (suc n) = omega (arith, length-append (cell_slots c n) (empty_slot c n true ∷ empty_slot c n false ∷ []), length-cell_slots c n)

-- ---- one cell more

slots_of-push : (c : ℕ) (ns : List ℕ) (n : ℕ) → slots_of c (ns ++ n ∷ []) ≡ slots_of c ns ++ cell_slots (c + length ns) n
slots_of-push c [] n = append-nil (cell_slots c n) ∙ ap (λ k. cell_slots k n) (let e : c ≡ c + 0 = omega arith in e)
slots_of-push c (m ∷ ns) n =
    ap (λ xs. cell_slots c m ++ xs) (slots_of-push (c + 1) ns n ∙ ap (λ k. slots_of (c + 1) ns ++ cell_slots k n) (let e : c + 1 + length ns ≡ c + length (m ∷ ns) = omega arith in e))
    ∙ sym (append_assoc (cell_slots c m) (slots_of (c + 1) ns) (cell_slots (c + length (m ∷ ns)) n))

starts_of-push : (place c : ℕ) (ns : List ℕ) (n : ℕ) → starts_of place (ns ++ n ∷ []) ≡ starts_of place ns ++ (place + length (slots_of c ns)) ∷ []
starts_of-push place c [] n = ap (λ k. k ∷ []) (let e : place ≡ place + 0 = omega arith in e)
starts_of-push place c (m ∷ ns) n =
    ap (λ xs. place ∷ xs) (starts_of-push (place + 2 * m) (c + 1) ns n
    ∙ ap (λ k. starts_of (place + 2 * m) ns ++ k ∷ []) (let e : place + 2 * m + length (slots_of (c + 1) ns) ≡ place + length (slots_of c (m ∷ ns)) = omega (arith, length-append (cell_slots c m) (slots_of (c + 1) ns), length-cell_slots c m) in e))

pub cell_more : (sizes : List ℕ) (slots more : List Slot) (starts : List ℕ) (cell n start : ℕ) → slots ≡ slots_of 0 (take cell sizes) → starts ≡ starts_of 0 (take cell sizes) → slice_get sizes cell ≡ Some n
    → start ≡ length slots → more ≡ slots ++ cell_slots cell n
    → (more ≡ slots_of 0 (take (cell + 1) sizes)) × (starts ++ start ∷ [] ≡ starts_of 0 (take (cell + 1) sizes)) × (length more ≡ length slots + 2 * n)
cell_more sizes slots more starts cell n start slots_are starts_are at start_is grown =
    let within = slice_get_within sizes cell n at in
    let taken : take (cell + 1) sizes ≡ take cell sizes ++ n ∷ [] = take_more sizes cell n within ∙ ap (λ k. take cell sizes ++ k ∷ []) (get_or_from_slice_get sizes cell n n at) in
    let count : 0 + length (take cell sizes) ≡ cell = omega (arith, length-take cell sizes) in (
      grown ∙ ap (λ xs. xs ++ cell_slots cell n) slots_are ∙ ap (λ k. slots_of 0 (take cell sizes) ++ cell_slots k n) (sym count) ∙ sym (ap (slots_of 0) taken ∙ slots_of-push 0 (take cell sizes) n),
      ap (λ xs. xs ++ start ∷ []) starts_are ∙ ap (λ k. starts_of 0 (take cell sizes) ++ k ∷ []) (start_is ∙ ap length slots_are ∙ (let e : length (slots_of 0 (take cell sizes)) ≡ 0 + length (slots_of 0 (take cell sizes)) = omega arith in e))
          ∙ sym (ap (starts_of 0) taken ∙ starts_of-push 0 0 (take cell sizes) n),
      omega (arith, ap length grown, length-append slots (cell_slots cell n), length-cell_slots cell n),
    )

-- ---- places

ArePlaced-append : (starts : List ℕ) (place : ℕ) (xs ys : List Slot) → ArePlaced starts place xs → ArePlaced starts (place + length xs) ys → ArePlaced starts place (xs ++ ys)
ArePlaced-append starts place [] ys one two = subst (λ n. ArePlaced starts n ys) (let e : place + 0 ≡ place = omega arith in e) two
ArePlaced-append starts place (x ∷ xs) ys one two =
    (one.0, ArePlaced-append starts (place + 1) xs ys one.1 (subst (λ n. ArePlaced starts n ys) (let e : place + length (x ∷ xs) ≡ place + 1 + length xs = omega arith in e) two))

cell_placed : (starts : List ℕ) (c place n : ℕ) → slice_get starts c ≡ Some place → ArePlaced starts place (cell_slots c n)
cell_placed starts c place zero at = tt
cell_placed starts c place (suc n) at =
    let two : (holds : Bool) (k : ℕ) → place + (2 * n + cond holds 0 1) ≡ k → place_of starts (empty_slot c n holds).target ≡ Some k = λ holds k e. ap (option_map (λ start. start + (2 * n + cond holds 0 1))) at ∙ ap Some e in
    ArePlaced-append starts place (cell_slots c n) (empty_slot c n true ∷ empty_slot c n false ∷ []) (cell_placed starts c place n at) (
      two true (place + length (cell_slots c n)) (omega (arith, length-cell_slots c n)),
      (two false (place + length (cell_slots c n) + 1) (omega (arith, length-cell_slots c n)), tt),
    )

all_placed : (starts : List ℕ) (c place : ℕ) (ns : List ℕ) → ((k s : ℕ) → slice_get (starts_of place ns) k ≡ Some s → slice_get starts (c + k) ≡ Some s) → ArePlaced starts place (slots_of c ns)
all_placed starts c place [] at = tt
all_placed starts c place (n ∷ ns) at =
    ArePlaced-append starts place (cell_slots c n) (slots_of (c + 1) ns)
    (cell_placed starts c place n (ap (slice_get starts) (let e : c ≡ c + 0 = omega arith in e) ∙ at 0 place refl))
    (subst (λ m. ArePlaced starts m (slots_of (c + 1) ns)) (let e : place + 2 * n ≡ place + length (cell_slots c n) = omega (arith, length-cell_slots c n) in e)
    (all_placed starts (c + 1) (place + 2 * n) ns (λ k s there. ap (slice_get starts) (let e : c + 1 + k ≡ c + suc k = omega arith in e) ∙ at (suc k) s there)))

small_at : (c place : ℕ) (ns : List ℕ) (k d : ℕ) → place + length (slots_of c ns) < 2 ^ 32 → k < length (starts_of place ns) → get_or (starts_of place ns) k d < 2 ^ 32
small_at c place [] k d few below = absurd (omega arith)
small_at c place (n ∷ ns) zero d few below = omega (arith, few)
small_at c place (n ∷ ns) (suc k) d few below =
    small_at (c + 1) (place + 2 * n) ns k d (omega (arith, few, length-append (cell_slots c n) (slots_of (c + 1) ns), length-cell_slots c n)) (omega arith)

all_small : (c place : ℕ) (ns : List ℕ) → place + length (slots_of c ns) < 2 ^ 32 → AreSmall (starts_of place ns)
all_small c place ns few = λ k d below. small_at c place ns k d few below

pub placed_once : (blocks : List (List (Option LogLine))) (starts : List ℕ) (place : ℕ) (slots : List Slot) → ArePlaced starts place slots → AreDistinct (rows_in blocks slots)
placed_once blocks starts place [] placed = tt
placed_once blocks starts place (s ∷ ss) placed = (
  λ has.
      let there = slot_stands starts (place + 1) ss s.target placed.1 (has_target blocks ss s.target has) in
      omega (arith, some_place place (place + 1 + there.0) (sym placed.0 ∙ there.1)),
  placed_once blocks starts (place + 1) ss placed.1,
)

-- ---- no rows

AreBare : List Slot → Type 0
AreBare [] = Unit {0}
AreBare (s ∷ ss) = (s.row ≡ None) × AreBare ss

AreBare-append : (xs ys : List Slot) → AreBare xs → AreBare ys → AreBare (xs ++ ys)
unfolding AreBare
AreBare-append [] ys one two = two
AreBare-append (x ∷ xs) ys one two = (one.0, AreBare-append xs ys one.1 two)

cell_bare : (c n : ℕ) → AreBare (cell_slots c n)
unfolding AreBare
cell_bare c zero = tt
cell_bare c (suc n) = AreBare-append (cell_slots c n) (empty_slot c n true ∷ empty_slot c n false ∷ []) (cell_bare c n) (refl, (refl, tt))

all_bare : (c : ℕ) (ns : List ℕ) → AreBare (slots_of c ns)
unfolding AreBare
all_bare c [] = tt
all_bare c (n ∷ ns) = AreBare-append (cell_slots c n) (slots_of (c + 1) ns) (cell_bare c n) (all_bare (c + 1) ns)

bare_rows : (blocks : List (List (Option LogLine))) (slots : List Slot) → AreBare slots → AreRowsIn blocks slots × AreEmpty (rows_in blocks slots)
unfolding AreBare
bare_rows blocks [] bare = (tt, tt)
bare_rows blocks (s ∷ ss) bare =
    let rest = bare_rows blocks ss bare.1 in
    ((subst (IsRowIn blocks) (sym bare.0) tt, rest.0), (ap (kept_or_none blocks) bare.0, rest.1))

-- ---- whose they are

HasSlot-left : (xs ys : List Slot) (t : Target) → HasSlot xs t → HasSlot (xs ++ ys) t
HasSlot-left [] ys t has = absurd has
HasSlot-left (x ∷ xs) ys t (inl same) = inl same
HasSlot-left (x ∷ xs) ys t (inr later) = inr (HasSlot-left xs ys t later)

HasSlot-right : (xs ys : List Slot) (t : Target) → HasSlot ys t → HasSlot (xs ++ ys) t
HasSlot-right [] ys t has = has
HasSlot-right (x ∷ xs) ys t has = inr (HasSlot-right xs ys t has)

HasSlot-either : (xs ys : List Slot) (t : Target) → HasSlot (xs ++ ys) t → HasSlot xs t ⊎ HasSlot ys t
HasSlot-either [] ys t has = inr has
HasSlot-either (x ∷ xs) ys t (inl same) = inl (inl same)
HasSlot-either (x ∷ xs) ys t (inr later) = ⊎_elim (λ one. inl (inr one)) (λ two. inr two) (HasSlot-either xs ys t later)

of_cell : (c n : ℕ) (t : Target) → HasSlot (cell_slots c n) t → (t.cell.0 ≡ c) × (t.value.0 < n)
of_cell c zero t has = absurd has
of_cell c (suc n) t has =
    let this : (holds : Bool) → (empty_slot c n holds).target ≡ t → (t.cell.0 ≡ c) × (t.value.0 < suc n) = λ holds same.
    (ap (λ (u : Target). u.cell.0) (sym same), omega (arith, ap (λ (u : Target). u.value.0) same)) in
    ⊎_elim
    (λ before. let is = of_cell c n t before in (is.0, omega (arith, is.1)))
    (λ last. ⊎_elim (this true) (λ more. ⊎_elim (this false) (λ none. absurd none) more) last)
    (HasSlot-either (cell_slots c n) (empty_slot c n true ∷ empty_slot c n false ∷ []) t has)

to_cell : (c n : ℕ) (t : Target) → t.cell.0 ≡ c → t.value.0 < n → HasSlot (cell_slots c n) t
to_cell c zero t cell value = absurd (omega (arith, value))
to_cell c (suc n) t cell value =
    let two : List Slot = empty_slot c n true ∷ empty_slot c n false ∷ [] in
    let this : t.value.0 ≡ n → (holds : Bool) → t.holds ≡ holds → (empty_slot c n holds).target ≡ t = λ last holds side.
    ap (λ k. (let u : Target = record { cell = record { 0 = k }; value = record { 0 = n }; holds = holds } in u)) (sym cell)
    ∙ ap (λ k. (let u : Target = record { cell = t.cell; value = record { 0 = k }; holds = holds } in u)) (sym last)
    ∙ ap (λ b. (let u : Target = record { cell = t.cell; value = t.value; holds = b } in u)) (sym side) in
    ⊎_elim
    (λ below. HasSlot-left (cell_slots c n) two t (to_cell c n t cell below))
    (λ not_below.
    let last : t.value.0 ≡ n = omega (arith, value, not_below) in
    HasSlot-right (cell_slots c n) two t (elim t.holds as (λ b. t.holds ≡ b → HasSlot two t) [ true ↦ λ side. inl (this last true side) | false ↦ λ side. inr (inl (this last false side)) ] refl))
    (cases_lt t.value.0 n)

of_cells : (c : ℕ) (ns : List ℕ) (t : Target) → HasSlot (slots_of c ns) t → (k : ℕ) × (t.cell.0 ≡ c + k) × IsSomeAnd (slice_get ns k) (λ n. t.value.0 < n)
of_cells c [] t has = absurd has
of_cells c (n ∷ ns) t has =
    ⊎_elim
    (λ here. let is = of_cell c n t here in (0, omega (arith, is.0), is.1))
    (λ later. let rest = of_cells (c + 1) ns t later in (suc rest.0, omega (arith, rest.1), rest.2))
    (HasSlot-either (cell_slots c n) (slots_of (c + 1) ns) t has)

to_cells : (c : ℕ) (ns : List ℕ) (t : Target) (k : ℕ) → t.cell.0 ≡ c + k → IsSomeAnd (slice_get ns k) (λ n. t.value.0 < n) → HasSlot (slots_of c ns) t
to_cells c [] t k cell is = absurd is
to_cells c (n ∷ ns) t zero cell is = HasSlot-left (cell_slots c n) (slots_of (c + 1) ns) t (to_cell c n t (omega (arith, cell)) is)
to_cells c (n ∷ ns) t (suc k) cell is = HasSlot-right (cell_slots c n) (slots_of (c + 1) ns) t (to_cells (c + 1) ns t k (omega (arith, cell)) is)

-- ---- in their order

targets_in-append : (xs ys : List Slot) → targets_in (xs ++ ys) ≡ targets_in xs ++ targets_in ys
targets_in-append [] ys = refl
targets_in-append (x ∷ xs) ys = ap (λ (ts : List Target). x.target ∷ ts) (targets_in-append xs ys)

cell_targets : (c n : ℕ) → targets_in (cell_slots c n) ≡ targets_of_cell c n
cell_targets c zero = refl
cell_targets c (suc n) =
    let two : List Slot = empty_slot c n true ∷ empty_slot c n false ∷ [] in
    targets_in-append (cell_slots c n) two ∙ ap (λ (ts : List Target). ts ++ targets_in two) (cell_targets c n)

slot_targets : (c : ℕ) (ns : List ℕ) → targets_in (slots_of c ns) ≡ targets_from c ns
slot_targets c [] = refl
slot_targets c (n ∷ ns) =
    targets_in-append (cell_slots c n) (slots_of (c + 1) ns) ∙ ap (λ (ts : List Target). ts ++ targets_in (slots_of (c + 1) ns)) (cell_targets c n) ∙ ap (λ (ts : List Target). targets_of_cell c n ++ ts) (slot_targets (c + 1) ns)

pub fresh_targets : (blocks : List (List (Option LogLine))) (sizes : List ℕ) (slots : List Slot) (cells : ℕ) → slots ≡ slots_of 0 (take cells sizes) → length sizes ≤ cells → targets_of (rows_in blocks slots) ≡ targets sizes
fresh_targets blocks sizes slots cells slots_are all =
    targets_are blocks slots ∙ ap targets_in (slots_are ∙ ap (slots_of 0) (take_all cells sizes all)) ∙ slot_targets 0 sizes

-- ---- all of them

pub fresh_is_kept : (blocks : List (List (Option LogLine))) (sizes starts : List ℕ) (slots : List Slot) (cells : ℕ) → starts ≡ starts_of 0 (take cells sizes) → slots ≡ slots_of 0 (take cells sizes) → length slots ≤ 2 ^ 21 → IsKept blocks starts slots
fresh_is_kept blocks sizes starts slots cells starts_are slots_are few =
    let ns : List ℕ = take cells sizes in
    record {
      small = rw starts_are (all_small 0 0 ns (omega (arith, few, ap length slots_are)));
      placed = rw (starts_are, slots_are) (all_placed (starts_of 0 ns) 0 0 ns (λ k s at. ap (slice_get (starts_of 0 ns)) (let e : 0 + k ≡ k = omega arith in e) ∙ at));
      rows = rw slots_are (bare_rows blocks (slots_of 0 ns) (all_bare 0 ns)).0;
      few = few;
    }

bare_counted : (slots : List Slot) → AreBare slots → IsCounted slots 0
unfolding AreBare
bare_counted [] bare = record { exact = refl; short = tt }
bare_counted (s ∷ ss) bare =
    let rest = bare_counted ss bare.1 in
    record { exact = omega (arith, ap places_of bare.0, rest.exact); short = (omega (arith, ap places_of bare.0), rest.short) }

pub fresh_is_counted : (sizes : List ℕ) (slots : List Slot) (cells : ℕ) → slots ≡ slots_of 0 (take cells sizes) → IsCounted slots 0
fresh_is_counted sizes slots cells are = subst (λ (ss : List Slot). IsCounted ss 0) (sym are) (bare_counted (slots_of 0 (take cells sizes)) (all_bare 0 (take cells sizes)))

pub fresh_rows : (blocks : List (List (Option LogLine))) (u : Universe) (starts : List ℕ) (slots : List Slot) (cells : ℕ) → IsKept blocks starts slots → slots ≡ slots_of 0 (take cells (cell_sizes u)) → length (cell_sizes u) ≤ cells
    → ((t : Target) → HasRowOf (rows_in blocks slots) t ↔ IsTargetIn u t) × AreDistinct (rows_in blocks slots) × AreEmpty (rows_in blocks slots)
fresh_rows blocks u starts slots cells kept slots_are all =
    let whole : slots ≡ slots_of 0 (cell_sizes u) = slots_are ∙ ap (slots_of 0) (take_all cells (cell_sizes u) all) in (
      λ t. (
        λ has. let is = of_cells 0 (cell_sizes u) t (subst (λ (ss : List Slot). HasSlot ss t) whole (has_target blocks slots t has)) in
            let cell : is.0 ≡ t.cell.0 = omega (arith, is.1) in subst (λ k. IsSomeAnd (slice_get (cell_sizes u) k) (λ n. t.value.0 < n)) cell is.2,
        λ is. to_target blocks slots t (subst (λ (ss : List Slot). HasSlot ss t) (sym whole) (to_cells 0 (cell_sizes u) t t.cell.0 (omega arith) is)),
      ),
      placed_once blocks starts 0 slots kept.placed,
      subst (λ (ss : List Slot). AreEmpty (rows_in blocks ss)) (sym whole) (bare_rows blocks (slots_of 0 (cell_sizes u)) (all_bare 0 (cell_sizes u))).1,
    )
