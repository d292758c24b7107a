-- Lists of watches as they are stored.
use Rattle.std.proofs.Common.{◌≡◌, ℕ, ◌+◌, ◌<◌, ◌≤◌, List, [], ◌∷◌, ◌++◌, Ok, Err, Result, Vec, vec_capacity, map, length, get_or, set, replicate, refl, sym, ap, ◌∙◌, subst, arith, ⊎_elim}
use Rattle.std.proofs.lemmas.Bool.{cases_eq}
use Rattle.std.proofs.lemmas.List.{length-set, length-map, length-replicate, get_or-map, get_or-replicate, get_or-set_same, get_or-set_other, map-set, map-append, set-get_or, replicate_more, get_or_default}
use Rattle.std.proofs.lemmas.Option.{get_or_from_slice_get, slice_get_read, slice_get_within}
use Rattle.std.specs.Global.{Global}
use Rattle.std.specs.Bool.{if◌then◌else◌}
use Rattle.std.specs.Result.{IsOk, OnErr, is_ok}
use Rattle.pc_propagate.specs.declared.watch_lists.Watch.{Watch}
use Rattle.pc_propagate.specs.Lists.{WatchListsView}
use Rattle.pc_propagate.specs.inside.Stored.{watches_of, HasRoom, HaveRoom}

-- the watches of one list
pub read_list : (lists : List (Vec Watch Global)) (k : ℕ) (x : Vec Watch Global) → k < length lists → x ≡ get_or lists k x → get_or (map watches_of lists) k [] ≡ x.items
read_list lists k x within read = get_or-map watches_of lists k x [] within ∙ ap watches_of (sym read)

-- and where that list is changed
pub seen : (lists : List (Vec Watch Global)) (k : ℕ) (x y : Vec Watch Global) (f : List Watch → List Watch) → k < length (map watches_of lists) → x ≡ get_or lists k x → y.items ≡ f x.items
    → map watches_of (set lists k y) ≡ set (map watches_of lists) k (f (get_or (map watches_of lists) k []))
seen lists k x y f within read is =
    map-set watches_of lists k y
    ∙ ap (set (map watches_of lists) k) (is ∙ ap f (sym (read_list lists k x (omega (arith, within, length-map lists watches_of)) read)))

pub same_view : (ls ms : List (List Watch)) (rs ss : List ℕ) → ls ≡ ms → rs ≡ ss → ◌≡◌ {A = WatchListsView} (record { lists = ls; room = rs }) (record { lists = ms; room = ss })
same_view ls ms rs ss a b = rw (a, b) refl

-- one list more, without watches
pub one_more : (n : ℕ) (xs ys : List (Vec Watch Global)) (x : Vec Watch Global) → map watches_of xs ≡ replicate n [] → x.items ≡ [] → ys ≡ xs ++ x ∷ [] → map watches_of ys ≡ replicate (n + 1) []
one_more n xs ys x so none is =
    ap (map watches_of) is ∙ map-append watches_of xs (x ∷ []) ∙ ap (λ (l : List Watch). map watches_of xs ++ l ∷ []) none ∙ ap (λ (ls : List (List Watch)). ls ++ [] ∷ []) so ∙ replicate_more n []

pub counted : (n m : ℕ) (xs : List (Vec Watch Global)) → n ≡ m → map watches_of xs ≡ replicate n [] → map watches_of xs ≡ replicate m []
counted n m xs same so = subst (λ (k : ℕ). map watches_of xs ≡ replicate k []) same so

-- a list whose watches stay
pub kept : (lists : List (Vec Watch Global)) (k : ℕ) (x y : Vec Watch Global) → k < length (map watches_of lists) → x ≡ get_or lists k x → y.items ≡ x.items → map watches_of (set lists k y) ≡ map watches_of lists
kept lists k x y within read is = seen lists k x y (λ l. l) within read is ∙ set-get_or (map watches_of lists) k []

pub blank_room : (lists : List (Vec Watch Global)) (room : List ℕ) (count : ℕ) → map watches_of lists ≡ replicate count [] → room ≡ replicate count 0 → HaveRoom lists room
blank_room lists room count lists_are room_is = record {
  size = omega (arith, size, ap length room_is, length-replicate {A = ℕ} count 0);
  each = λ k list is.
      let within : k < length lists = slice_get_within lists k list is in
      let nothing : get_or room k 0 ≡ 0 = ap (λ (rs : List ℕ). get_or rs k 0) room_is ∙ get_or-replicate count k 0 0 (omega (arith, within, size)) in
      let items : list.items ≡ [] =
      sym (read_list lists k list within (sym (get_or_from_slice_get lists k list list is)))
      ∙ ap (λ (ls : List (List Watch)). get_or ls k []) lists_are ∙ get_or-replicate count k [] [] (omega (arith, within, size)) in
      record { promised = omega (arith, nothing, ap length items); held = omega (arith, nothing) };
}
  where
    size : length lists ≡ count
    size = sym (length-map lists watches_of) ∙ ap length lists_are ∙ length-replicate {A = List Watch} count []

-- one list with its room
pub room_set : (lists : List (Vec Watch Global)) (room : List ℕ) (k : ℕ) (y : Vec Watch Global) (r : ℕ) → HaveRoom lists room → k < length lists → HasRoom y r → HaveRoom (set lists k y) (set room k r)
room_set lists room k y r h within has = record {
  size = omega (arith, length-set lists k y, length-set room k r, h.size);
  each = λ j list is. ⊎_elim
      (λ here.
      let it : list ≡ y = sym (get_or_from_slice_get (set lists k y) j list list is) ∙ ap (λ (i : ℕ). get_or (set lists k y) i list) here ∙ get_or-set_same lists k y list within in
      let place : get_or (set room k r) j 0 ≡ r = ap (λ (i : ℕ). get_or (set room k r) i 0) here ∙ get_or-set_same room k r 0 (omega (arith, within, h.size)) in
      rw (it, place) has)
      (λ there.
      let inside : j < length lists = omega (arith, slice_get_within (set lists k y) j list is, length-set lists k y) in
      let read : list ≡ get_or lists j list = sym (get_or_from_slice_get (set lists k y) j list list is) ∙ get_or-set_other lists k j y list there in
      subst (HasRoom list) (sym (get_or-set_other room k j r 0 there)) (h.each j list (slice_get_read lists (length lists) j list refl inside read)))
      (cases_eq j k);
}

pub list_within : (lists : List (Vec Watch Global)) (k : ℕ) → k < length (map watches_of lists) → k < length lists
list_within lists k within = omega (arith, within, length-map lists watches_of)

pub same_list : (lists : List (Vec Watch Global)) (k : ℕ) (x y : Vec Watch Global) → k < length lists → x ≡ get_or lists k x → y ≡ get_or lists k y → x ≡ y
same_list lists k x y within read again = read ∙ get_or_default lists k x y within ∙ sym again

-- the room of one list
pub room_read : (lists : List (Vec Watch Global)) (room : List ℕ) (k : ℕ) (x : Vec Watch Global) (r : ℕ) → HaveRoom lists room → k < length lists → x ≡ get_or lists k x → r ≡ get_or room k r → (length x.items ≤ r) × (r ≡ get_or room k 0)
room_read lists room k x r h within read room_is =
    let is : r ≡ get_or room k 0 = room_is ∙ get_or_default room k r 0 (omega (arith, within, h.size)) in
    (omega (arith, is, (h.each k x (slice_get_read lists (length lists) k x refl within read)).promised), is)

pub has_room : (lists : List (Vec Watch Global)) (room : List ℕ) (k : ℕ) (x : Vec Watch Global) → HaveRoom lists room → k < length (map watches_of lists) → x ≡ get_or lists k x
    → length (get_or (map watches_of lists) k []) < get_or room k 0 → length x.items < vec_capacity x
has_room lists room k x h list read free =
    let within = list_within lists k list in
    omega (arith, free, ap length (read_list lists k x within read), (h.each k x (slice_get_read lists (length lists) k x refl within read)).held)

pub pushed_in : {E : Type 0} (r : Result Unit E) (xs ys : List Watch) (w : Watch) → IsOk r → ys ≡ (if is_ok r then xs ++ w ∷ [] else xs) → ys ≡ xs ++ w ∷ []
pushed_in (Ok x) xs ys w ok is = is
pushed_in (Err e) xs ys w ok is = absurd (cc ok)

pub on_err : {T E : Type 0} (r : Result T E) (P : Type 0) → P → OnErr r P
on_err (Ok x) P p = tt
on_err (Err e) P p = p
