-- What holds of clauses and lists once a place has taken up another literal.
use Rattle.std.proofs.Common.{◌≡◌, ℕ, ◌+◌, ◌/◌, ◌%◌, ◌<◌, ◌≤◌, List, [], ◌∷◌, ◌++◌, Some, length, get_or, set, slice_get, refl, ap, sym, ◌∙◌, subst, arith, ⊎_elim}
use Rattle.std.specs.List.{swap, swap_remove, Contains}
use Rattle.std.proofs.lemmas.Bool.{cases_eq}
use Rattle.std.proofs.lemmas.List.{length-set, get_or-set_same, get_or-set_other, get_or_default}
use Rattle.std.proofs.lemmas.List.Edits.{length-swap}
use Rattle.std.proofs.lemmas.Option.{slice_get_within, same_Some, get_or_from_slice_get}
use Rattle.pc_lits.specs.declared.literal.Lit.{Lit}
use Rattle.pc_propagate.specs.declared.watch_lists.Watch.{Watch}
use Rattle.pc_propagate.specs.Lists.{WatchListsView, list_in, room_in}
use Rattle.pc_propagate.specs.Bodies.{body_in}
use Rattle.pc_propagate.specs.Listed.{code_of, no_literal, literal_of, spare, IsKnown, HasPlace, AreListed}
use Rattle.pc_propagate.proofs.ElementLemmas.{left_from, left_still, come_still, come_last, come_from, swap_from, swap_other, swap_first, swap_still, get_set, get_set_other}
use Rattle.pc_propagate.proofs.WatchedLemmas.{bit, length_left, length_come, spare_swap}

module _ (bodies : List (List Lit)) (view : WatchListsView) (c index k : ℕ) (w : Watch) (blocker : Lit)
    (h : AreListed bodies view) (c_in : c < length view.lists) (is : slice_get (list_in view c) index ≡ Some w)
    (own : code_of (literal_of bodies w.place) ≡ c) (later : 2 ≤ k) (within : k < length (body_in bodies (w.place / 2))) (blocks : Contains (body_in bodies (w.place / 2)) blocker) where
  n : ℕ
  n = w.place / 2

  body : List Lit
  body = body_in bodies (w.place / 2)

  next : ℕ
  next = code_of (get_or (body_in bodies (w.place / 2)) k no_literal)

  abbrev bodies2 : List (List Lit)
  bodies2 = set bodies (w.place / 2) (swap (body_in bodies (w.place / 2)) (w.place % 2) k)

  abbrev left : List (List Watch)
  left = set view.lists c (swap_remove (list_in view c) index w)

  abbrev come : Watch
  come = record { place = w.place; blocker = blocker }

  abbrev next_of : ℕ
  next_of = code_of (get_or (body_in bodies (w.place / 2)) k no_literal)

  abbrev lists2 : List (List Watch)
  lists2 = set left next_of (get_or left next_of [] ++ come ∷ [])

  abbrev view2 : WatchListsView
  view2 = record { lists = lists2; room = view.room }

  placed : index < length (list_in view c)
  placed = slice_get_within (list_in view c) index w is

  known_w : IsKnown bodies c w
  known_w = h.known c index w is

  first : w.place % 2 < length (body_in bodies (w.place / 2))
  first = omega (arith, known_w.long)

  pub next_in : next_of < length view.lists
  next_in = h.in_range (w.place / 2) (get_or (body_in bodies (w.place / 2)) k no_literal) (k, within, get_or_default (body_in bodies (w.place / 2)) k (get_or (body_in bodies (w.place / 2)) k no_literal) no_literal within)

  next_in_left : next_of < length left
  next_in_left = omega (arith, next_in, length-set view.lists c (swap_remove (list_in view c) index w))

  -- the other clauses, and this one
  body_same : (m : ℕ) → (m ≡ w.place / 2 → ⊥) → body_in bodies2 m ≡ body_in bodies m
  body_same m other = get_or-set_other bodies (w.place / 2) m (swap (body_in bodies (w.place / 2)) (w.place % 2) k) [] other

  body_here : (m : ℕ) → m ≡ w.place / 2 → body_in bodies2 m ≡ swap (body_in bodies (w.place / 2)) (w.place % 2) k
  body_here m same = ap (body_in bodies2) same ∙ get_or-set_same bodies (w.place / 2) (swap (body_in bodies (w.place / 2)) (w.place % 2) k) [] known_w.number

  pub body_size : (m : ℕ) → length (body_in bodies2 m) ≡ length (body_in bodies m)
  body_size m = ⊎_elim
      (λ same. ap length (body_here m same) ∙ length-swap (body_in bodies (w.place / 2)) (w.place % 2) k ∙ ap (λ (i : ℕ). length (body_in bodies i)) (sym same))
      (λ other. ap length (body_same m other))
      (cases_eq m (w.place / 2))

  pub body_from : (m : ℕ) (l : Lit) → Contains (body_in bodies2 m) l → Contains (body_in bodies m) l
  body_from m l has = ⊎_elim
      (λ same. subst (λ (i : ℕ). Contains (body_in bodies i) l) (sym same) (swap_from (body_in bodies (w.place / 2)) (w.place % 2) k l first within (subst (λ (b : List Lit). Contains b l) (body_here m same) has)))
      (λ other. subst (λ (b : List Lit). Contains b l) (body_same m other) has)
      (cases_eq m (w.place / 2))

  pub body_still : (m : ℕ) (l : Lit) → Contains (body_in bodies m) l → Contains (body_in bodies2 m) l
  body_still m l has = ⊎_elim
      (λ same. subst (λ (b : List Lit). Contains b l) (sym (body_here m same)) (swap_still (body_in bodies (w.place / 2)) (w.place % 2) k l first within (subst (λ (i : ℕ). Contains (body_in bodies i) l) same has)))
      (λ other. subst (λ (b : List Lit). Contains b l) (sym (body_same m other)) has)
      (cases_eq m (w.place / 2))

  known_still : (d : ℕ) (v : Watch) → IsKnown bodies d v → IsKnown bodies2 d v
  known_still d v g = record {
    number = omega (arith, g.number, length-set bodies (w.place / 2) (swap (body_in bodies (w.place / 2)) (w.place % 2) k));
    long = omega (arith, g.long, body_size (v.place / 2));
    blocker = body_still (v.place / 2) v.blocker g.blocker;
    stands = (g.stands.0, g.stands.1, body_still (v.place / 2) g.stands.0 g.stands.2);
  }

  -- the watches of a list, from those of before
  list_left_from : (d j : ℕ) (v : Watch) → slice_get (get_or left d []) j ≡ Some v → (i : ℕ) × (slice_get (list_in view d) i ≡ Some v)
  list_left_from d j v at = ⊎_elim
      (λ same.
      let here : get_or left d [] ≡ swap_remove (list_in view c) index w = ap (λ (i : ℕ). get_or left i []) same ∙ get_or-set_same view.lists c (swap_remove (list_in view c) index w) [] c_in in
      let found = left_from (list_in view c) index j w v placed (subst (λ (l : List Watch). slice_get l j ≡ Some v) here at) in
      (found.0, subst (λ (i : ℕ). slice_get (list_in view i) found.0 ≡ Some v) (sym same) found.1))
      (λ other. (j, subst (λ (l : List Watch). slice_get l j ≡ Some v) (get_or-set_other view.lists c d (swap_remove (list_in view c) index w) [] other) at))
      (cases_eq d c)

  known_come : IsKnown bodies next_of come
  known_come = record {
    number = known_w.number;
    long = known_w.long;
    blocker = blocks;
    stands = (get_or (body_in bodies (w.place / 2)) k no_literal, refl, (k, within, get_or_default (body_in bodies (w.place / 2)) k (get_or (body_in bodies (w.place / 2)) k no_literal) no_literal within));
  }

  known2 : (d j : ℕ) (v : Watch) → slice_get (list_in view2 d) j ≡ Some v → IsKnown bodies2 d v
  known2 d j v at = known_still d v (⊎_elim
      (λ same.
      let here : list_in view2 d ≡ get_or left next_of [] ++ come ∷ [] = ap (λ (i : ℕ). get_or lists2 i []) same ∙ get_or-set_same left next_of (get_or left next_of [] ++ come ∷ []) [] next_in_left in
      ⊎_elim
      (λ before. let found = list_left_from next_of j v before in subst (λ (i : ℕ). IsKnown bodies i v) (sym same) (h.known next_of found.0 v found.1))
      (λ now_is. subst (λ (i : ℕ). IsKnown bodies i v) (sym same) (subst (IsKnown bodies next_of) now_is known_come))
      (come_from (get_or left next_of []) j v come (subst (λ (l : List Watch). slice_get l j ≡ Some v) here at)))
      (λ other.
      let found = list_left_from d j v (subst (λ (l : List Watch). slice_get l j ≡ Some v) (get_or-set_other left next_of d (get_or left next_of [] ++ come ∷ []) [] other) at) in
      h.known d found.0 v found.1)
      (cases_eq d next_of))

  -- a watch of another place stays in its list
  place_left : (d p : ℕ) → (p ≡ w.place → ⊥) → HasPlace (list_in view d) p → HasPlace (get_or left d []) p
  place_left d p apart has = ⊎_elim
      (λ same.
      let here : get_or left d [] ≡ swap_remove (list_in view c) index w = ap (λ (i : ℕ). get_or left i []) same ∙ get_or-set_same view.lists c (swap_remove (list_in view c) index w) [] c_in in
      let at : slice_get (list_in view c) has.0 ≡ Some has.1 = subst (λ (i : ℕ). slice_get (list_in view i) has.0 ≡ Some has.1) same has.2 in
      let found = left_still (list_in view c) index has.0 w has.1 placed at (λ there. apart (sym has.3 ∙ ap (λ (v : Watch). v.place) (same_Some has.1 w (sym at ∙ ap (slice_get (list_in view c)) there ∙ is)))) in
      (found.0, has.1, subst (λ (l : List Watch). slice_get l found.0 ≡ Some has.1) (sym here) found.1, has.3))
      (λ other. (has.0, has.1, subst (λ (l : List Watch). slice_get l has.0 ≡ Some has.1) (sym (get_or-set_other view.lists c d (swap_remove (list_in view c) index w) [] other)) has.2, has.3))
      (cases_eq d c)

  place_come : (d p : ℕ) → HasPlace (get_or left d []) p → HasPlace (list_in view2 d) p
  place_come d p has = ⊎_elim
      (λ same.
      let here : list_in view2 d ≡ get_or left d [] ++ come ∷ [] = ap (λ (i : ℕ). get_or lists2 i []) same ∙ get_or-set_same left next_of (get_or left next_of [] ++ come ∷ []) [] next_in_left ∙ ap (λ (i : ℕ). get_or left i [] ++ come ∷ []) (sym same) in
      (has.0, has.1, subst (λ (l : List Watch). slice_get l has.0 ≡ Some has.1) (sym here) (come_still (get_or left d []) has.0 has.1 come has.2), has.3))
      (λ other. (has.0, has.1, subst (λ (l : List Watch). slice_get l has.0 ≡ Some has.1) (sym (get_or-set_other left next_of d (get_or left next_of [] ++ come ∷ []) [] other)) has.2, has.3))
      (cases_eq d next_of)

  -- the literal of the place, and those of the others
  pub literal_here : literal_of bodies2 w.place ≡ get_or (body_in bodies (w.place / 2)) k no_literal
  literal_here = ap (λ (b : List Lit). get_or b (w.place % 2) no_literal) (body_here (w.place / 2) refl) ∙ swap_first (body_in bodies (w.place / 2)) (w.place % 2) k no_literal first within

  pub literal_there : (p : ℕ) → (p ≡ w.place → ⊥) → literal_of bodies2 p ≡ literal_of bodies p
  literal_there p apart = ⊎_elim
      (λ same. ap (λ (b : List Lit). get_or b (p % 2) no_literal) (body_here (p / 2) same)
      ∙ swap_other (body_in bodies (w.place / 2)) (w.place % 2) k (p % 2) no_literal first within (λ side. apart (omega (arith, same, side))) (omega (arith, later))
      ∙ ap (λ (i : ℕ). get_or (body_in bodies i) (p % 2) no_literal) (sym same))
      (λ other. ap (λ (b : List Lit). get_or b (p % 2) no_literal) (body_same (p / 2) other))
      (cases_eq (p / 2) (w.place / 2))

  listed2 : (p : ℕ) → p / 2 < length bodies2 → 2 ≤ length (body_in bodies2 (p / 2)) → HasPlace (list_in view2 (code_of (literal_of bodies2 p))) p
  listed2 p number long = ⊎_elim
      (λ same. subst (λ (i : ℕ). HasPlace (list_in view2 (code_of (literal_of bodies2 i))) i) (sym same)
      (subst (λ (l : Lit). HasPlace (list_in view2 (code_of l)) w.place) (sym literal_here)
      (length (get_or left next_of []), come, ap (λ (l : List Watch). slice_get l (length (get_or left next_of []))) (get_or-set_same left next_of (get_or left next_of [] ++ come ∷ []) [] next_in_left) ∙ come_last (get_or left next_of []) come, refl)))
      (λ apart. subst (λ (l : Lit). HasPlace (list_in view2 (code_of l)) p) (sym (literal_there p apart))
      (place_come (code_of (literal_of bodies p)) p (place_left (code_of (literal_of bodies p)) p apart
      (h.listed p (omega (arith, number, length-set bodies (w.place / 2) (swap (body_in bodies (w.place / 2)) (w.place % 2) k))) (omega (arith, long, body_size (p / 2)))))))
      (cases_eq p w.place)

  -- how much room there is once the watch has left
  pub room_left : (d : ℕ) → d < length view.lists → length (get_or left d []) + spare bodies2 d + bit next_of d ≤ room_in view d
  room_left d inside = omega (
    arith,
    h.room d inside,
    length_left view.lists c d index w c_in placed,
    spare_swap bodies (w.place / 2) (w.place % 2) k d known_w.number (let e : w.place % 2 < 2 = omega arith in e) later within,
    ap (λ (e : ℕ). bit e d) own,
  )

  pub listed_shift : AreListed bodies2 view2
  listed_shift = record {
    size = omega (arith, h.size, length-set left next_of (get_or left next_of [] ++ come ∷ []), length-set view.lists c (swap_remove (list_in view c) index w));
    few = omega (arith, h.few, length-set bodies (w.place / 2) (swap (body_in bodies (w.place / 2)) (w.place % 2) k));
    in_range = λ m l has. omega (arith, h.in_range m l (body_from m l has), length-set left next_of (get_or left next_of [] ++ come ∷ []), length-set view.lists c (swap_remove (list_in view c) index w));
    known = known2;
    listed = listed2;
    room = λ d inside.
        let there : d < length view.lists = omega (arith, inside, length-set left next_of (get_or left next_of [] ++ come ∷ []), length-set view.lists c (swap_remove (list_in view c) index w)) in
        omega (arith, room_left d there, length_come left next_of d come next_in_left);
  }

-- What holds of them once a watch has another blocker.
module _ (bodies : List (List Lit)) (view : WatchListsView) (c index : ℕ) (w : Watch) (blocker : Lit)
    (h : AreListed bodies view) (c_in : c < length view.lists) (is : slice_get (list_in view c) index ≡ Some w) (blocks : Contains (body_in bodies (w.place / 2)) blocker) where
  abbrev held : Watch
  held = record { place = w.place; blocker = blocker }

  abbrev lists_blocked : List (List Watch)
  lists_blocked = set view.lists c (set (list_in view c) index held)

  abbrev view_blocked : WatchListsView
  view_blocked = record { lists = lists_blocked; room = view.room }

  index_in : index < length (list_in view c)
  index_in = slice_get_within (list_in view c) index w is

  list_here : (d : ℕ) → d ≡ c → list_in view_blocked d ≡ set (list_in view c) index held
  list_here d same = ap (λ (i : ℕ). get_or lists_blocked i []) same ∙ get_or-set_same view.lists c (set (list_in view c) index held) [] c_in

  list_there : (d : ℕ) → (d ≡ c → ⊥) → list_in view_blocked d ≡ list_in view d
  list_there d other = get_or-set_other view.lists c d (set (list_in view c) index held) [] other

  list_size : (d : ℕ) → length (list_in view_blocked d) ≡ length (list_in view d)
  list_size d = ⊎_elim
      (λ same. ap length (list_here d same) ∙ length-set (list_in view c) index held ∙ ap (λ (i : ℕ). length (list_in view i)) (sym same))
      (λ other. ap length (list_there d other))
      (cases_eq d c)

  known_blocked : (d j : ℕ) (v : Watch) → slice_get (list_in view_blocked d) j ≡ Some v → IsKnown bodies d v
  known_blocked d j v at = ⊎_elim
      (λ same.
      let set_at : slice_get (set (list_in view c) index held) j ≡ Some v = subst (λ (l : List Watch). slice_get l j ≡ Some v) (list_here d same) at in
      subst (λ (i : ℕ). IsKnown bodies i v) (sym same) (⊎_elim
      (λ here. subst (IsKnown bodies c) (sym (get_or_from_slice_get (set (list_in view c) index held) j held held (ap (slice_get (set (list_in view c) index held)) here ∙ get_set (list_in view c) index held index_in))
      ∙ get_or_from_slice_get (set (list_in view c) index held) j v held set_at)
      (record { number = (h.known c index w is).number; long = (h.known c index w is).long; blocker = blocks; stands = (h.known c index w is).stands }))
      (λ there. h.known c j v (sym (get_set_other (list_in view c) index j held there) ∙ set_at))
      (cases_eq j index)))
      (λ other. h.known d j v (subst (λ (l : List Watch). slice_get l j ≡ Some v) (list_there d other) at))
      (cases_eq d c)

  place_blocked : (d p : ℕ) → HasPlace (list_in view d) p → HasPlace (list_in view_blocked d) p
  place_blocked d p has = ⊎_elim
      (λ same.
      let at : slice_get (list_in view c) has.0 ≡ Some has.1 = subst (λ (i : ℕ). slice_get (list_in view i) has.0 ≡ Some has.1) same has.2 in
      ⊎_elim
      (λ here. (
        index,
        held,
        subst (λ (l : List Watch). slice_get l index ≡ Some held) (sym (list_here d same)) (get_set (list_in view c) index held index_in),
        ap (λ (v : Watch). v.place) (same_Some w has.1 (sym is ∙ ap (slice_get (list_in view c)) (sym here) ∙ at)) ∙ has.3,
      ))
      (λ there. (has.0, has.1, subst (λ (l : List Watch). slice_get l has.0 ≡ Some has.1) (sym (list_here d same)) (get_set_other (list_in view c) index has.0 held there ∙ at), has.3))
      (cases_eq has.0 index))
      (λ other. (has.0, has.1, subst (λ (l : List Watch). slice_get l has.0 ≡ Some has.1) (sym (list_there d other)) has.2, has.3))
      (cases_eq d c)

  pub listed_block : AreListed bodies view_blocked
  listed_block = record {
    size = omega (arith, h.size, length-set view.lists c (set (list_in view c) index held));
    few = h.few;
    in_range = λ m l has. omega (arith, h.in_range m l has, length-set view.lists c (set (list_in view c) index held));
    known = known_blocked;
    listed = λ p number long. place_blocked (code_of (literal_of bodies p)) p (h.listed p number long);
    room = λ d inside. omega (arith, h.room d (omega (arith, inside, length-set view.lists c (set (list_in view c) index held))), list_size d);
  }
