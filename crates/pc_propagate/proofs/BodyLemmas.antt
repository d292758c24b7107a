-- Clauses whose literals are exchanged, in one list.
use Rattle.std.proofs.Common.{◌≡◌, ℕ, zero, suc, ◌+◌, ◌-◌, ◌<◌, ◌≤◌, List, [], ◌∷◌, length, take, drop, get_or, set, slice_range, refl, ap, sym, ◌∙◌, arith}
use Rattle.std.specs.List.{swap}
use Rattle.std.proofs.Math.Seq.{take-set-lt}
use Rattle.std.proofs.lemmas.List.{length-set, take-set-le, drop-set-lt, drop-set-add, length-take, length-drop, get_or-take, get_or-drop, get_or-set_same, set-set}
use Rattle.std.proofs.lemmas.List.Edits.{swap_is}
use Rattle.pc_lits.specs.Rows.{rows_from, AreEnds}
use Rattle.pc_lits.proofs.RowsLemmas.{row_bounds, length-rows_from}

-- what is written behind a part, before it, and in it
range_behind : {X : Type 0} (xs : List X) (start end i : ℕ) (y : X) → start ≤ end → end ≤ i → slice_range (set xs i y) start end ≡ slice_range xs start end
range_behind xs start end i y rises behind =
    let at : i ≡ start + (i - start) = omega arith in
    ap (λ (k : ℕ). take (end - start) (drop start (set xs k y))) at
    ∙ ap (take (end - start)) (drop-set-add start xs (i - start) y)
    ∙ take-set-le (end - start) (drop start xs) (i - start) y (omega arith)

range_before : {X : Type 0} (xs : List X) (start end i : ℕ) (y : X) → i < start → slice_range (set xs i y) start end ≡ slice_range xs start end
range_before xs start end i y before = ap (take (end - start)) (drop-set-lt start xs i y before)

range_in : {X : Type 0} (xs : List X) (start end i : ℕ) (y : X) → start + i < end → slice_range (set xs (start + i) y) start end ≡ set (slice_range xs start end) i y
range_in xs start end i y within =
    ap (take (end - start)) (drop-set-add start xs i y) ∙ take-set-lt (end - start) (drop start xs) i y (omega arith)

-- what is written before all rows
rows_before : {X : Type 0} (items : List X) (start : ℕ) (ends : List ℕ) (p : ℕ) (y : X) → AreEnds (length items) start ends → p < start → rows_from (set items p y) start ends ≡ rows_from items start ends
rows_before items start [] p y h before = refl
rows_before items start (end ∷ ends) p y h before =
    rw (range_before items start end p y before, rows_before items end ends p y h.1 (omega (arith, before, h.0))) refl

-- a literal of a row is written
pub rows_set : {X : Type 0} (items : List X) (start : ℕ) (ends : List ℕ) (n i : ℕ) (y : X) → AreEnds (length items) start ends → n < length ends → get_or (start ∷ ends) n 0 + i < get_or ends n 0
    → rows_from (set items (get_or (start ∷ ends) n 0 + i) y) start ends ≡ set (rows_from items start ends) n (set (get_or (rows_from items start ends) n []) i y)
rows_set items start [] n i y h within place = absurd (omega (arith, within))
rows_set items start (end ∷ ends) zero i y h within place =
    rw (range_in items start end i y place, rows_before items end ends (start + i) y h.1 place) refl
rows_set items start (end ∷ ends) (suc n) i y h within place =
    let after : end ≤ get_or (end ∷ ends) n 0 + i = omega (arith, first_least (length items) end ends n h.1 (omega (arith, within))) in
    rw (range_behind items start end (get_or (end ∷ ends) n 0 + i) y h.0 after, rows_set items end ends n i y h.1 (omega (arith, within)) place) refl
  where
    first_least : (total end : ℕ) (ends : List ℕ) (n : ℕ) → AreEnds total end ends → n < length ends → end ≤ get_or (end ∷ ends) n 0
    first_least total end ends zero h within = omega arith
    first_least total end [] (suc n) h within = absurd (omega (arith, within))
    first_least total end (next ∷ ends) (suc n) h within = omega (arith, h.0, first_least total next ends n h.1 (omega (arith, within)))

-- the length of a row, and what stands in it
pub row_is : {X : Type 0} (items : List X) (start : ℕ) (ends : List ℕ) (n : ℕ) → n < length ends → get_or (rows_from items start ends) n [] ≡ slice_range items (get_or (start ∷ ends) n 0) (get_or ends n 0)
row_is items start [] n within = absurd (omega (arith, within))
row_is items start (end ∷ ends) zero within = refl
row_is items start (end ∷ ends) (suc n) within = row_is items end ends n (omega (arith, within))

pub row_size : {X : Type 0} (items : List X) (ends : List ℕ) (n : ℕ) → AreEnds (length items) 0 ends → n < length ends
    → get_or (0 ∷ ends) n 0 + length (get_or (rows_from items 0 ends) n []) ≡ get_or ends n 0
row_size items ends n h within =
    let bounds = row_bounds (length items) 0 ends n h within in
    omega (arith, bounds.0, bounds.1, ap length (row_is items 0 ends n within), length-take (get_or ends n 0 - get_or (0 ∷ ends) n 0) (drop (get_or (0 ∷ ends) n 0) items), length-drop (get_or (0 ∷ ends) n 0) items)

pub row_item : {X : Type 0} (items : List X) (ends : List ℕ) (n i : ℕ) (d : X) → AreEnds (length items) 0 ends → n < length ends → i < length (get_or (rows_from items 0 ends) n [])
    → get_or (get_or (rows_from items 0 ends) n []) i d ≡ get_or items (get_or (0 ∷ ends) n 0 + i) d
row_item items ends n i d h within place = rw (row_is items 0 ends n within) (grind (arith, get_or-take, get_or-drop, row_size items ends n h within))

-- two literals of a row change their places
pub rows_swap : {X : Type 0} (items : List X) (ends : List ℕ) (n i j : ℕ) (d : X) → AreEnds (length items) 0 ends → n < length ends
    → i < length (get_or (rows_from items 0 ends) n []) → j < length (get_or (rows_from items 0 ends) n [])
    → rows_from (swap items (get_or (0 ∷ ends) n 0 + i) (get_or (0 ∷ ends) n 0 + j)) 0 ends ≡ set (rows_from items 0 ends) n (swap (get_or (rows_from items 0 ends) n []) i j)
rows_swap items ends n i j d h within first second =
    let start = get_or (0 ∷ ends) n 0 in
    let rows = rows_from items 0 ends in
    let row = get_or rows n [] in
    let x = get_or items (start + j) d in
    let y = get_or items (start + i) d in
    let size : start + length row ≡ get_or ends n 0 = row_size items ends n h within in
    let total : get_or ends n 0 ≤ length items = (row_bounds (length items) 0 ends n h within).1 in
    let once : rows_from (set items (start + i) x) 0 ends ≡ set rows n (set row i x) = rows_set items 0 ends n i x h within (omega (arith, first, size)) in
    let inside : n < length rows = omega (arith, within, length-rows_from items 0 ends) in
    let held : AreEnds (length (set items (start + i) x)) 0 ends = rw (length-set items (start + i) x) h in
    ap (λ xs. rows_from xs 0 ends) (sym (swap_is items (start + i) (start + j) d (omega (arith, first, size, total)) (omega (arith, second, size, total))))
    ∙ rows_set (set items (start + i) x) 0 ends n j y held within (omega (arith, second, size))
    ∙ ap (λ rs. set rs n (set (get_or rs n []) j y)) once
    ∙ ap (λ r. set (set rows n (set row i x)) n (set r j y)) (get_or-set_same rows n (set row i x) [] inside)
    ∙ set-set rows n (set row i x) (set (set row i x) j y)
    ∙ ap (λ l. set rows n (set (set row i l) j y)) (sym (row_item items ends n j d h within second))
    ∙ ap (λ l. set rows n (set (set row i (get_or row j d)) j l)) (sym (row_item items ends n i d h within first))
    ∙ ap (set rows n) (swap_is row i j d first second)

-- where the literal of a clause lies
pub place_within : {X : Type 0} (items : List X) (ends : List ℕ) (n i s : ℕ) → AreEnds (length items) 0 ends → n < length (rows_from items 0 ends) → i < length (get_or (rows_from items 0 ends) n []) → s ≡ get_or (0 ∷ ends) n 0
    → s + i < length items
place_within items ends n i s h within place start =
    let inside : n < length ends = omega (arith, within, length-rows_from items 0 ends) in
    omega (arith, place, start, row_size items ends n h inside, (row_bounds (length items) 0 ends n h inside).1)

pub rows_swap_at : {X : Type 0} (items : List X) (ends : List ℕ) (n i j s : ℕ) → AreEnds (length items) 0 ends → n < length (rows_from items 0 ends)
    → i < length (get_or (rows_from items 0 ends) n []) → j < length (get_or (rows_from items 0 ends) n []) → s ≡ get_or (0 ∷ ends) n 0
    → rows_from (swap items (s + i) (s + j)) 0 ends ≡ set (rows_from items 0 ends) n (swap (get_or (rows_from items 0 ends) n []) i j)
rows_swap_at {X = X} items ends n i j s h within first second start = rw start (by items h within first second)
  where
    by : (items : List X) → AreEnds (length items) 0 ends → n < length (rows_from items 0 ends) → i < length (get_or (rows_from items 0 ends) n []) → j < length (get_or (rows_from items 0 ends) n [])
        → rows_from (swap items (get_or (0 ∷ ends) n 0 + i) (get_or (0 ∷ ends) n 0 + j)) 0 ends ≡ set (rows_from items 0 ends) n (swap (get_or (rows_from items 0 ends) n []) i j)
    by [] h within first second =
        let inside : n < length ends = omega (arith, within, length-rows_from {X = X} [] 0 ends) in
        absurd (omega (arith, place_within [] ends n i (get_or (0 ∷ ends) n 0) h within first refl))
    by (x ∷ xs) h within first second =
        rows_swap (x ∷ xs) ends n i j x h (omega (arith, within, length-rows_from (x ∷ xs) 0 ends)) first second
