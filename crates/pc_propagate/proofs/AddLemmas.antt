-- One clause more.
use Rattle.std.proofs.Common.{◌≡◌, ℕ, ◌+◌, ◌*◌, ◌/◌, ◌%◌, ◌<◌, ◌≤◌, ◌^◌, ◌⊎◌, inl, inr, List, [], ◌∷◌, ◌++◌, Some, length, get_or, set, slice_get, refl, ap, sym, ◌∙◌, subst, arith, ⊎_elim, length-append}
use Rattle.std.specs.List.{swap, Contains}
use Rattle.std.proofs.lemmas.Bool.{cases_eq, cases_lt}
use Rattle.std.proofs.lemmas.List.{length-set, get_or-set_same, get_or-set_other, get_or_push, get_or_append_left, get_or_default, drop_all, get_or_past}
use Rattle.std.proofs.lemmas.List.Sums.{sum_by-set, sum_by_push, sum_by-cons}
use Rattle.std.proofs.lemmas.List.Edits.{swap_is}
use Rattle.pc_lits.specs.declared.literal.Lit.{Lit}
use Rattle.pc_propagate.specs.declared.watch_lists.Watch.{Watch}
use Rattle.pc_propagate.specs.Lists.{WatchListsView, list_in, room_in}
use Rattle.pc_propagate.specs.Bodies.{body_in}
use Rattle.pc_propagate.specs.Listed.{code_of, no_literal, literal_of, occurrences, unwatched, spare, IsKnown, HasPlace, AreListed, AreListedIn}
use Rattle.pc_propagate.proofs.ElementLemmas.{come_still, come_last, come_from}
use Rattle.pc_propagate.proofs.WatchedLemmas.{bit, bit_same, length_come}

-- more room
pub roomier : (bodies : List (List Lit)) (view view2 : WatchListsView) → AreListed bodies view → view2.lists ≡ view.lists → length view2.room ≡ length view.room
    → ((d : ℕ) → d < length view.lists → room_in view d ≤ room_in view2 d) → AreListed bodies view2
roomier bodies view view2 h lists size room = record {
  size = omega (arith, h.size, ap length lists, size);
  few = h.few;
  in_range = λ m l has. omega (arith, h.in_range m l has, ap length lists);
  known = λ c j v at. h.known c j v (subst (λ (ls : List (List Watch)). slice_get (get_or ls c []) j ≡ Some v) lists at);
  listed = λ p number long. subst (λ (ls : List (List Watch)). HasPlace (get_or ls (code_of (literal_of bodies p)) []) p) (sym lists) (h.listed p number long);
  room = λ d inside. omega (arith, h.room d (omega (arith, inside, ap length lists)), room d (omega (arith, inside, ap length lists)), ap (λ (ls : List (List Watch)). length (get_or ls d [])) lists);
}

-- a watch at the end of a list
put_still : (lists : List (List Watch)) (c d p : ℕ) (w : Watch) → c < length lists → HasPlace (get_or lists d []) p → HasPlace (get_or (set lists c (get_or lists c [] ++ w ∷ [])) d []) p
put_still lists c d p w inside has = ⊎_elim
    (λ same.
    let here : get_or (set lists c (get_or lists c [] ++ w ∷ [])) d [] ≡ get_or lists d [] ++ w ∷ [] =
    ap (λ (i : ℕ). get_or (set lists c (get_or lists c [] ++ w ∷ [])) i []) same ∙ get_or-set_same lists c (get_or lists c [] ++ w ∷ []) [] inside ∙ ap (λ (i : ℕ). get_or lists i [] ++ w ∷ []) (sym same) in
    (has.0, has.1, subst (λ (l : List Watch). slice_get l has.0 ≡ Some has.1) (sym here) (come_still (get_or lists d []) has.0 has.1 w has.2), has.3))
    (λ other. (has.0, has.1, subst (λ (l : List Watch). slice_get l has.0 ≡ Some has.1) (sym (get_or-set_other lists c d (get_or lists c [] ++ w ∷ []) [] other)) has.2, has.3))
    (cases_eq d c)

put_here : (lists : List (List Watch)) (c : ℕ) (w : Watch) → c < length lists → HasPlace (get_or (set lists c (get_or lists c [] ++ w ∷ [])) c []) w.place
put_here lists c w inside =
    (length (get_or lists c []), w, ap (λ (l : List Watch). slice_get l (length (get_or lists c []))) (get_or-set_same lists c (get_or lists c [] ++ w ∷ []) [] inside) ∙ come_last (get_or lists c []) w, refl)

put_from : (lists : List (List Watch)) (c d j : ℕ) (v w : Watch) → c < length lists → slice_get (get_or (set lists c (get_or lists c [] ++ w ∷ [])) d []) j ≡ Some v
    → (slice_get (get_or lists d []) j ≡ Some v) ⊎ ((d ≡ c) × (w ≡ v))
put_from lists c d j v w inside at = ⊎_elim
    (λ same.
    let here = ap (λ (i : ℕ). get_or (set lists c (get_or lists c [] ++ w ∷ [])) i []) same ∙ get_or-set_same lists c (get_or lists c [] ++ w ∷ []) [] inside in
    ⊎_elim
    (λ before. inl (subst (λ (i : ℕ). slice_get (get_or lists i []) j ≡ Some v) (sym same) before))
    (λ now_is. inr (same, now_is))
    (come_from (get_or lists c []) j v w (subst (λ (l : List Watch). slice_get l j ≡ Some v) here at)))
    (λ other. inl (subst (λ (l : List Watch). slice_get l j ≡ Some v) (get_or-set_other lists c d (get_or lists c [] ++ w ∷ []) [] other) at))
    (cases_eq d c)

-- a further clause, which has lists in which its places are put
pub record HasCome (bodies : List (List Lit)) (body : List Lit) (view view2 : WatchListsView) : Type 0 where
  pub size : length view2.room ≡ length view2.lists
  pub count : length view2.lists ≡ length view.lists
  pub known : (c j : ℕ) (v : Watch) → slice_get (list_in view2 c) j ≡ Some v → (slice_get (list_in view c) j ≡ Some v) ⊎ IsKnown (bodies ++ body ∷ []) c v
  pub still : (c p : ℕ) → HasPlace (list_in view c) p → HasPlace (list_in view2 c) p
  pub places : (p : ℕ) → p / 2 ≡ length bodies → 2 ≤ length body → HasPlace (list_in view2 (code_of (get_or body (p % 2) no_literal))) p
  pub room : (d : ℕ) → d < length view.lists → length (list_in view2 d) + (spare bodies d + unwatched d body) ≤ room_in view2 d

module _ (bodies : List (List Lit)) (body : List Lit) (view view2 : WatchListsView) (h : AreListed bodies view) (few : length bodies + 1 < 2 ^ 31) (in_range : AreListedIn (length view.lists) body) (g : HasCome bodies body view view2) where
  before_in : (m : ℕ) → m < length bodies → body_in (bodies ++ body ∷ []) m ≡ body_in bodies m
  before_in m inside = get_or_append_left bodies (body ∷ []) [] m inside

  last_in : (m : ℕ) → m ≡ length bodies → body_in (bodies ++ body ∷ []) m ≡ body
  last_in m same = get_or_push bodies body [] m (sym same)

  nothing_in : (m : ℕ) (l : Lit) → length bodies + 1 ≤ m → Contains (body_in (bodies ++ body ∷ []) m) l → ⊥
  nothing_in m l past has = omega (arith, past, has.1, ap length (past_is m past))
    where
      past_is : (m : ℕ) → length bodies + 1 ≤ m → body_in (bodies ++ body ∷ []) m ≡ []
      past_is m past = get_or_past (bodies ++ body ∷ []) m [] (omega (arith, past, length-append bodies (body ∷ [])))

  known_more : (c : ℕ) (v : Watch) → IsKnown bodies c v → IsKnown (bodies ++ body ∷ []) c v
  known_more c v k = record {
    number = omega (arith, k.number, length-append bodies (body ∷ []));
    long = omega (arith, k.long, ap length (before_in (v.place / 2) k.number));
    blocker = subst (λ (b : List Lit). Contains b v.blocker) (sym (before_in (v.place / 2) k.number)) k.blocker;
    stands = (k.stands.0, k.stands.1, subst (λ (b : List Lit). Contains b k.stands.0) (sym (before_in (v.place / 2) k.number)) k.stands.2);
  }

  pub listed_added : AreListed (bodies ++ body ∷ []) view2
  listed_added = record {
    size = g.size;
    few = omega (arith, few, length-append bodies (body ∷ []));
    in_range = λ m l has. ⊎_elim
        (λ inside. omega (arith, g.count, h.in_range m l (subst (λ (b : List Lit). Contains b l) (before_in m inside) has)))
        (λ beyond. ⊎_elim
        (λ same. omega (arith, g.count, in_range l (subst (λ (b : List Lit). Contains b l) (last_in m same) has)))
        (λ other. absurd (nothing_in m l (omega (arith, beyond, other)) has))
        (cases_eq m (length bodies)))
        (cases_lt m (length bodies));
    known = λ c j v at. ⊎_elim (λ old_at. known_more c v (h.known c j v old_at)) (λ k. k) (g.known c j v at);
    listed = λ p number long. ⊎_elim
        (λ inside. subst (λ (b : List Lit). HasPlace (list_in view2 (code_of (get_or b (p % 2) no_literal))) p) (sym (before_in (p / 2) inside))
        (g.still (code_of (literal_of bodies p)) p (h.listed p inside (omega (arith, long, ap length (before_in (p / 2) inside))))))
        (λ beyond.
        let same : p / 2 ≡ length bodies = omega (arith, beyond, number, length-append bodies (body ∷ [])) in
        subst (λ (b : List Lit). HasPlace (list_in view2 (code_of (get_or b (p % 2) no_literal))) p) (sym (last_in (p / 2) same))
        (g.places p same (omega (arith, long, ap length (last_in (p / 2) same)))))
        (cases_lt (p / 2) (length bodies));
    room = λ d inside. omega (arith, g.room d (omega (arith, inside, g.count)), sum_by_push (unwatched d) bodies body);
  }

pub occurrences_swap : (xs : List Lit) (i j d : ℕ) → i < length xs → j < length xs → occurrences d (swap xs i j) ≡ occurrences d xs
occurrences_swap xs i j d first second =
    let f : Lit → ℕ = λ l. bit (code_of l) d in
    let a = get_or xs j no_literal in
    let b = get_or xs i no_literal in
    let read : get_or (set xs i a) j no_literal ≡ a = ⊎_elim
    (λ same. ap (λ (k : ℕ). get_or (set xs i a) k no_literal) same ∙ get_or-set_same xs i a no_literal first)
    (λ other. get_or-set_other xs i j a no_literal other)
    (cases_eq j i) in
    let once = sum_by-set f xs i a no_literal first in
    let twice = sum_by-set f (set xs i a) j b no_literal (omega (arith, second, length-set xs i a)) in
    ap (occurrences d) (sym (swap_is xs i j no_literal first second)) ∙ omega (arith, once, twice, ap f read)

front : (body : List Lit) (d : ℕ) → 2 ≤ length body → occurrences d body ≡ bit (code_of (get_or body 0 no_literal)) d + (bit (code_of (get_or body 1 no_literal)) d + unwatched d body)
front [] d long = absurd (omega (arith, long))
front (x ∷ []) d long = absurd (omega (arith, long))
front (x ∷ y ∷ rest) d long =
    let f : Lit → ℕ = λ l. bit (code_of l) d in
    omega (arith, sum_by-cons f x (y ∷ rest), sum_by-cons f y rest)

short : (body : List Lit) (d : ℕ) → length body < 2 → unwatched d body ≡ 0
short body d few = ap (occurrences d) (drop_all 2 body (omega (arith, few)))

-- a clause that watches nothing
pub come_short : (bodies : List (List Lit)) (body : List Lit) (view view1 : WatchListsView) → AreListed bodies view → view1.lists ≡ view.lists → length view1.room ≡ length view.room
    → ((d : ℕ) → d < length view.lists → room_in view d ≤ room_in view1 d) → length body < 2 → HasCome bodies body view view1
come_short bodies body view view1 h lists size room few = record {
  size = omega (arith, h.size, ap length lists, size);
  count = ap length lists;
  known = λ c j v at. inl (subst (λ (ls : List (List Watch)). slice_get (get_or ls c []) j ≡ Some v) lists at);
  still = λ c p has. subst (λ (ls : List (List Watch)). HasPlace (get_or ls c []) p) (sym lists) has;
  places = λ p same long. absurd (omega (arith, long, few));
  room = λ d inside. omega (arith, h.room d inside, room d inside, short body d few, ap (λ (ls : List (List Watch)). length (get_or ls d [])) lists);
}

-- one that watches with its first two literals
module _ (bodies : List (List Lit)) (body : List Lit) (view view1 : WatchListsView) (h : AreListed bodies view) (lists : view1.lists ≡ view.lists) (size : length view1.room ≡ length view.room)
    (room : (d : ℕ) → d < length view.lists → room_in view d + occurrences d body ≤ room_in view1 d) (long : 2 ≤ length body) (in_range : AreListedIn (length view.lists) body) where
  abbrev one : Lit
  one = get_or body 0 no_literal

  abbrev two : Lit
  two = get_or body 1 no_literal

  abbrev watch_one : Watch
  watch_one = record { place = 2 * length bodies; blocker = get_or body 1 no_literal }

  abbrev watch_two : Watch
  watch_two = record { place = 2 * length bodies + 1; blocker = get_or body 0 no_literal }

  abbrev with_one : List (List Watch)
  with_one = set view1.lists (code_of (get_or body 0 no_literal)) (get_or view1.lists (code_of (get_or body 0 no_literal)) [] ++ watch_one ∷ [])

  abbrev with_two : List (List Watch)
  with_two = set with_one (code_of (get_or body 1 no_literal)) (get_or with_one (code_of (get_or body 1 no_literal)) [] ++ watch_two ∷ [])

  has_one : Contains body (get_or body 0 no_literal)
  has_one = (0, omega (arith, long), get_or_default body 0 (get_or body 0 no_literal) no_literal (omega (arith, long)))

  has_two : Contains body (get_or body 1 no_literal)
  has_two = (1, omega (arith, long), get_or_default body 1 (get_or body 1 no_literal) no_literal (omega (arith, long)))

  pub one_in : code_of (get_or body 0 no_literal) < length view1.lists
  one_in = omega (arith, in_range (get_or body 0 no_literal) has_one, ap length lists)

  pub two_in : code_of (get_or body 1 no_literal) < length with_one
  two_in = omega (arith, in_range (get_or body 1 no_literal) has_two, ap length lists, length-set view1.lists (code_of (get_or body 0 no_literal)) (get_or view1.lists (code_of (get_or body 0 no_literal)) [] ++ watch_one ∷ []))

  first_room : (d : ℕ) → d < length view.lists → length (get_or view1.lists d []) + spare bodies d + (bit (code_of (get_or body 0 no_literal)) d + (bit (code_of (get_or body 1 no_literal)) d + unwatched d body)) ≤ room_in view1 d
  first_room d inside = omega (arith, h.room d inside, room d inside, front body d long, ap (λ (ls : List (List Watch)). length (get_or ls d [])) lists)

  pub one_room : length (get_or view1.lists (code_of (get_or body 0 no_literal)) []) < room_in view1 (code_of (get_or body 0 no_literal))
  one_room = omega (arith, first_room (code_of (get_or body 0 no_literal)) (in_range (get_or body 0 no_literal) has_one), bit_same (code_of (get_or body 0 no_literal)) (code_of (get_or body 0 no_literal)) refl)

  pub two_room : length (get_or with_one (code_of (get_or body 1 no_literal)) []) < room_in view1 (code_of (get_or body 1 no_literal))
  two_room = omega (
    arith,
    first_room (code_of (get_or body 1 no_literal)) (in_range (get_or body 1 no_literal) has_two),
    bit_same (code_of (get_or body 1 no_literal)) (code_of (get_or body 1 no_literal)) refl,
    length_come view1.lists (code_of (get_or body 0 no_literal)) (code_of (get_or body 1 no_literal)) watch_one one_in,
  )

  known_one : IsKnown (bodies ++ body ∷ []) (code_of (get_or body 0 no_literal)) watch_one
  known_one = record {
    number = omega (arith, length-append bodies (body ∷ []));
    long = omega (arith, long, ap length here);
    blocker = subst (λ (b : List Lit). Contains b (get_or body 1 no_literal)) (sym here) has_two;
    stands = (get_or body 0 no_literal, refl, subst (λ (b : List Lit). Contains b (get_or body 0 no_literal)) (sym here) has_one);
  }
    where
      here : body_in (bodies ++ body ∷ []) (2 * length bodies / 2) ≡ body
      here = get_or_push bodies body [] (2 * length bodies / 2) (omega arith)

  known_two : IsKnown (bodies ++ body ∷ []) (code_of (get_or body 1 no_literal)) watch_two
  known_two = record {
    number = omega (arith, length-append bodies (body ∷ []));
    long = omega (arith, long, ap length here);
    blocker = subst (λ (b : List Lit). Contains b (get_or body 0 no_literal)) (sym here) has_one;
    stands = (get_or body 1 no_literal, refl, subst (λ (b : List Lit). Contains b (get_or body 1 no_literal)) (sym here) has_two);
  }
    where
      here : body_in (bodies ++ body ∷ []) ((2 * length bodies + 1) / 2) ≡ body
      here = get_or_push bodies body [] ((2 * length bodies + 1) / 2) (omega arith)

  pub come_long : HasCome bodies body view (record { lists = with_two; room = view1.room })
  come_long = record {
    size = omega (arith, h.size, size, ap length lists, sizes);
    count = omega (arith, ap length lists, sizes);
    known = λ c j v at. ⊎_elim
        (λ early. ⊎_elim
        (λ old_at. inl (subst (λ (ls : List (List Watch)). slice_get (get_or ls c []) j ≡ Some v) lists old_at))
        (λ is. inr (subst (λ (i : ℕ). IsKnown (bodies ++ body ∷ []) i v) (sym is.0) (subst (IsKnown (bodies ++ body ∷ []) (code_of (get_or body 0 no_literal))) is.1 known_one)))
        (put_from view1.lists (code_of (get_or body 0 no_literal)) c j v watch_one one_in early))
        (λ is. inr (subst (λ (i : ℕ). IsKnown (bodies ++ body ∷ []) i v) (sym is.0) (subst (IsKnown (bodies ++ body ∷ []) (code_of (get_or body 1 no_literal))) is.1 known_two)))
        (put_from with_one (code_of (get_or body 1 no_literal)) c j v watch_two two_in at);
    still = λ c p has. put_still with_one (code_of (get_or body 1 no_literal)) c p watch_two two_in (put_still view1.lists (code_of (get_or body 0 no_literal)) c p watch_one one_in (subst (λ (ls : List (List Watch)). HasPlace (get_or ls c []) p) (sym lists) has));
    places = λ p same _. ⊎_elim
        (λ even. subst (λ (i : ℕ). HasPlace (get_or with_two (code_of (get_or body (i % 2) no_literal)) []) i) (let e : 2 * length bodies ≡ p = omega (arith, same, even) in e)
        (subst (λ (i : ℕ). HasPlace (get_or with_two (code_of (get_or body i no_literal)) []) (2 * length bodies)) (let e : 0 ≡ 2 * length bodies % 2 = omega arith in e)
        (put_still with_one (code_of (get_or body 1 no_literal)) (code_of (get_or body 0 no_literal)) (2 * length bodies) watch_two two_in (put_here view1.lists (code_of (get_or body 0 no_literal)) watch_one one_in))))
        (λ odd. subst (λ (i : ℕ). HasPlace (get_or with_two (code_of (get_or body (i % 2) no_literal)) []) i) (let e : 2 * length bodies + 1 ≡ p = omega (arith, same, odd) in e)
        (subst (λ (i : ℕ). HasPlace (get_or with_two (code_of (get_or body i no_literal)) []) (2 * length bodies + 1)) (let e : 1 ≡ (2 * length bodies + 1) % 2 = omega arith in e)
        (put_here with_one (code_of (get_or body 1 no_literal)) watch_two two_in)))
        (cases_eq (p % 2) 0);
    room = λ d inside. omega (arith, first_room d inside, length_come with_one (code_of (get_or body 1 no_literal)) d watch_two two_in, length_come view1.lists (code_of (get_or body 0 no_literal)) d watch_one one_in);
  }
    where
      sizes : length with_two ≡ length view1.lists
      sizes = omega (arith, length-set with_one (code_of (get_or body 1 no_literal)) (get_or with_one (code_of (get_or body 1 no_literal)) [] ++ watch_two ∷ []), length-set view1.lists (code_of (get_or body 0 no_literal)) (get_or view1.lists (code_of (get_or body 0 no_literal)) [] ++ watch_one ∷ []))
