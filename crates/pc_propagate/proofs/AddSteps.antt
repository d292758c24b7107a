-- The steps of adding a clause, as the code takes them.
use Rattle.std.proofs.Common.{◌≡◌, ℕ, ◌+◌, ◌*◌, ◌<◌, ◌≤◌, ◌^◌, List, [], ◌∷◌, ◌++◌, Some, length, get_or, set, slice_get, refl, ap, sym, ◌∙◌, arith}
use Rattle.std.specs.List.{swap, Contains}
use Rattle.std.proofs.lemmas.List.{length-set, get_or_push, set_at}
use Rattle.std.proofs.lemmas.List.Edits.{length-swap}
use Rattle.std.proofs.lemmas.Option.{get_or_from_slice_get}
use Rattle.pc_lits.specs.declared.literal.Lit.{Lit}
use Rattle.pc_propagate.specs.Lists.{WatchListsView, list_in, room_in}
use Rattle.pc_propagate.specs.Bodies.{body_in}
use Rattle.pc_propagate.specs.Listed.{code_of, no_literal, occurrences, AreListed, AreListedIn, IsAdded}
use Rattle.pc_propagate.proofs.ElementLemmas.{swap_from, swap_still}
use Rattle.pc_propagate.proofs.AddLemmas.{occurrences_swap, come_long, listed_added, one_in, one_room, two_in, two_room}

-- What the code has read and written.
pub record AreAddSteps (bodies pushed b1 b2 : List (List Lit)) (view view1 : WatchListsView) (clause : List Lit) (number first second : ℕ) (one two : Lit) : Type 0 where
  pub before : AreListed bodies view
  pub few : length bodies + 1 < 2 ^ 31
  pub in_range : AreListedIn (length view.lists) clause
  pub number_is : number ≡ length bodies
  pub long : 2 ≤ length clause
  pub first_in : first < length clause
  pub second_in : second < length clause
  pub same : view1.lists ≡ view.lists
  pub size : length view1.room ≡ length view.room
  pub room : (d : ℕ) → d < length view.lists → room_in view d + occurrences d clause ≤ room_in view1 d
  pub pushed_is : pushed ≡ bodies ++ clause ∷ []
  pub b1_is : b1 ≡ set pushed number (swap (body_in pushed number) 0 first)
  pub b2_is : b2 ≡ set b1 number (swap (body_in b1 number) 1 second)
  pub one_is : slice_get (body_in b2 number) 0 ≡ Some one
  pub two_is : slice_get (body_in b2 number) 1 ≡ Some two

-- a clause at the end is changed
last_changed : (bodies : List (List Lit)) (body : List Lit) (i j : ℕ) → set (bodies ++ body ∷ []) (length bodies) (swap (body_in (bodies ++ body ∷ []) (length bodies)) i j) ≡ bodies ++ swap body i j ∷ []
last_changed bodies body i j =
    ap (λ (b : List Lit). set (bodies ++ body ∷ []) (length bodies) (swap b i j)) (get_or_push bodies body [] (length bodies) refl)
    ∙ set_at bodies body [] (swap body i j) (length bodies) refl

module _ (bodies pushed b1 b2 : List (List Lit)) (view view1 : WatchListsView) (clause : List Lit) (number first second : ℕ) (one two : Lit) (s : AreAddSteps bodies pushed b1 b2 view view1 clause number first second one two) where
  abbrev body : List Lit
  body = swap (swap clause 0 first) 1 second

  b2_at : b2 ≡ bodies ++ swap (swap clause 0 first) 1 second ∷ []
  b2_at = s.b2_is
      ∙ ap (λ (bs : List (List Lit)). set bs number (swap (body_in bs number) 1 second))
      (s.b1_is ∙ ap (λ (bs : List (List Lit)). set bs number (swap (body_in bs number) 0 first)) s.pushed_is
      ∙ ap (λ (n : ℕ). set (bodies ++ clause ∷ []) n (swap (body_in (bodies ++ clause ∷ []) n) 0 first)) s.number_is ∙ last_changed bodies clause 0 first)
      ∙ ap (λ (n : ℕ). set (bodies ++ swap clause 0 first ∷ []) n (swap (body_in (bodies ++ swap clause 0 first ∷ []) n) 1 second)) s.number_is ∙ last_changed bodies (swap clause 0 first) 1 second

  body_at : body_in b2 number ≡ swap (swap clause 0 first) 1 second
  body_at = ap (λ (bs : List (List Lit)). body_in bs number) b2_at ∙ get_or_push bodies (swap (swap clause 0 first) 1 second) [] number (sym s.number_is)

  half : length (swap clause 0 first) ≡ length clause
  half = length-swap clause 0 first

  whole : length (swap (swap clause 0 first) 1 second) ≡ length clause
  whole = length-swap (swap clause 0 first) 1 second ∙ half

  from : (l : Lit) → Contains (swap (swap clause 0 first) 1 second) l → Contains clause l
  from l has = swap_from clause 0 first l (omega (arith, s.long)) s.first_in (swap_from (swap clause 0 first) 1 second l (omega (arith, s.long, half)) (omega (arith, s.second_in, half)) has)

  all : (l : Lit) → Contains clause l → Contains (swap (swap clause 0 first) 1 second) l
  all l has = swap_still (swap clause 0 first) 1 second l (omega (arith, s.long, half)) (omega (arith, s.second_in, half)) (swap_still clause 0 first l (omega (arith, s.long)) s.first_in has)

  often : (d : ℕ) → occurrences d (swap (swap clause 0 first) 1 second) ≡ occurrences d clause
  often d = occurrences_swap (swap clause 0 first) 1 second d (omega (arith, s.long, half)) (omega (arith, s.second_in, half)) ∙ occurrences_swap clause 0 first d (omega (arith, s.long)) s.first_in

  room : (d : ℕ) → d < length view.lists → room_in view d + occurrences d (swap (swap clause 0 first) 1 second) ≤ room_in view1 d
  room d inside = omega (arith, s.room d inside, often d)

  long : 2 ≤ length (swap (swap clause 0 first) 1 second)
  long = omega (arith, s.long, whole)

  in_range : AreListedIn (length view.lists) (swap (swap clause 0 first) 1 second)
  in_range l has = s.in_range l (from l has)

  one_at : one ≡ get_or (swap (swap clause 0 first) 1 second) 0 no_literal
  one_at = sym (get_or_from_slice_get (body_in b2 number) 0 one no_literal s.one_is) ∙ ap (λ (b : List Lit). get_or b 0 no_literal) body_at

  two_at : two ≡ get_or (swap (swap clause 0 first) 1 second) 1 no_literal
  two_at = sym (get_or_from_slice_get (body_in b2 number) 1 two no_literal s.two_is) ∙ ap (λ (b : List Lit). get_or b 1 no_literal) body_at

  pub first_list : (list : ℕ) → list ≡ code_of one → list < length view1.lists
  first_list list is = rw (is, one_at) (one_in bodies (swap (swap clause 0 first) 1 second) view view1 s.before s.same s.size room long in_range)

  pub first_room : (list : ℕ) → list ≡ code_of one → length (list_in view1 list) < room_in view1 list
  first_room list is = rw (is, one_at) (one_room bodies (swap (swap clause 0 first) 1 second) view view1 s.before s.same s.size room long in_range)

  module _ (view2 : WatchListsView) (list list2 : ℕ) (list_is : list ≡ code_of one) (list2_is : list2 ≡ code_of two)
      (view2_is : view2 ≡ record view1 { lists = set view1.lists list (list_in view1 list ++ record { place = 2 * number; blocker = two } ∷ []) }) where
    pub second_list : list2 < length view2.lists
    second_list = rw (view2_is, list_is, list2_is, one_at, two_at, s.number_is) (two_in bodies (swap (swap clause 0 first) 1 second) view view1 s.before s.same s.size room long in_range)

    pub second_room : length (list_in view2 list2) < room_in view2 list2
    second_room = rw (view2_is, list_is, list2_is, one_at, two_at, s.number_is) (two_room bodies (swap (swap clause 0 first) 1 second) view view1 s.before s.same s.size room long in_range)

    pub added_listed : (view3 : WatchListsView) → view3 ≡ record view2 { lists = set view2.lists list2 (list_in view2 list2 ++ record { place = 2 * number + 1; blocker = one } ∷ []) } → AreListed b2 view3
    added_listed view3 is = rw (is, view2_is, list_is, list2_is, one_at, two_at, s.number_is, b2_at)
        (listed_added bodies (swap (swap clause 0 first) 1 second) view _ s.before s.few in_range (come_long bodies (swap (swap clause 0 first) 1 second) view view1 s.before s.same s.size room long in_range))

    pub added_is : (view3 : WatchListsView) → view3 ≡ record view2 { lists = set view2.lists list2 (list_in view2 list2 ++ record { place = 2 * number + 1; blocker = one } ∷ []) }
        → IsAdded clause (record { bodies = bodies; lists = view.lists }) (record { bodies = b2; lists = view3.lists })
    added_is view3 is = record {
      body = swap (swap clause 0 first) 1 second;
      bodies = b2_at;
      size = whole;
      from = from;
      all = all;
      lists = rw (is, view2_is) (omega (
        arith,
        ap length s.same,
        length-set view1.lists list (list_in view1 list ++ record { place = 2 * number; blocker = two } ∷ []),
        length-set (set view1.lists list (list_in view1 list ++ record { place = 2 * number; blocker = two } ∷ [])) list2 (list_in (record view1 { lists = set view1.lists list (list_in view1 list ++ record { place = 2 * number; blocker = two } ∷ []) }) list2 ++ record { place = 2 * number + 1; blocker = one } ∷ []),
      ));
    }
