-- The steps of a watch that goes to another list, as the code takes them.
use Rattle.std.proofs.Common.{◌≡◌, ℕ, ◌/◌, ◌%◌, ◌<◌, ◌≤◌, List, [], ◌∷◌, ◌++◌, Some, length, get_or, set, slice_get, refl, ap, sym, ◌∙◌, arith}
use Rattle.std.specs.List.{swap, swap_remove, Contains}
use Rattle.std.proofs.lemmas.List.{length-set}
use Rattle.std.proofs.lemmas.Option.{same_Some, get_or_from_slice_get}
use Rattle.pc_lits.specs.declared.literal.Lit.{Lit}
use Rattle.pc_propagate.specs.declared.watch_lists.Watch.{Watch}
use Rattle.pc_propagate.specs.Lists.{WatchListsView, list_in, room_in}
use Rattle.pc_propagate.specs.Bodies.{body_in}
use Rattle.pc_propagate.specs.Listed.{code_of, no_literal, literal_of, AreListed, IsShifted}
use Rattle.pc_propagate.proofs.WatchedLemmas.{bit_same}
use Rattle.pc_propagate.proofs.ShiftLemmas.{listed_shift, listed_block, next_in, room_left}

-- What the code has read and written.
pub record AreSteps (bodies bodies2 : List (List Lit)) (view view1 : WatchListsView) (lit next : Lit) (list list2 index k : ℕ) (w : Watch) (blocker : Lit) : Type 0 where
  pub before : AreListed bodies view
  pub list_is : list ≡ code_of lit
  pub within : code_of lit < length view.lists
  pub is : slice_get (list_in view (code_of lit)) index ≡ Some w
  pub own : literal_of bodies w.place ≡ lit
  pub later : 2 ≤ k
  pub inside : k < length (body_in bodies (w.place / 2))
  pub blocks : Contains (body_in bodies (w.place / 2)) blocker
  pub taken : Watch
  pub was : slice_get (list_in view list) index ≡ Some taken
  pub left : view1 ≡ record view { lists = set view.lists list (swap_remove (list_in view list) index taken) }
  pub next_is : slice_get (body_in bodies (w.place / 2)) k ≡ Some next
  pub swapped : bodies2 ≡ set bodies (w.place / 2) (swap (body_in bodies (w.place / 2)) (w.place % 2) k)
  pub list2_is : list2 ≡ code_of next

module _ (bodies bodies2 : List (List Lit)) (view view1 : WatchListsView) (lit next : Lit) (list list2 index k : ℕ) (w : Watch) (blocker : Lit) (s : AreSteps bodies bodies2 view view1 lit next list list2 index k w blocker) where
  view1_is : view1 ≡ record view { lists = set view.lists (code_of lit) (swap_remove (list_in view (code_of lit)) index w) }
  view1_is =
      let same : s.taken ≡ w = same_Some s.taken w (sym s.was ∙ ap (λ (n : ℕ). slice_get (list_in view n) index) s.list_is ∙ s.is) in
      s.left ∙ ap (λ (n : ℕ). record view { lists = set view.lists n (swap_remove (list_in view n) index s.taken) }) s.list_is
      ∙ ap (λ (v : Watch). record view { lists = set view.lists (code_of lit) (swap_remove (list_in view (code_of lit)) index v) }) same

  next_code : list2 ≡ code_of (get_or (body_in bodies (w.place / 2)) k no_literal)
  next_code = s.list2_is ∙ ap code_of (sym (get_or_from_slice_get (body_in bodies (w.place / 2)) k next no_literal s.next_is))

  own_code : code_of (literal_of bodies w.place) ≡ code_of lit
  own_code = ap code_of s.own

  pub come_within : list2 < length view1.lists
  come_within = rw (view1_is, next_code)
      (omega (arith, next_in bodies view (code_of lit) index k w blocker s.before s.within s.is own_code s.later s.inside s.blocks, length-set view.lists (code_of lit) (swap_remove (list_in view (code_of lit)) index w)))

  pub come_room : length (list_in view1 list2) < room_in view1 list2
  come_room = rw (view1_is, next_code)
      (omega (
        arith,
        room_left bodies view (code_of lit) index k w blocker s.before s.within s.is own_code s.later s.inside s.blocks (code_of (get_or (body_in bodies (w.place / 2)) k no_literal))
            (next_in bodies view (code_of lit) index k w blocker s.before s.within s.is own_code s.later s.inside s.blocks),
        bit_same (code_of (get_or (body_in bodies (w.place / 2)) k no_literal)) (code_of (get_or (body_in bodies (w.place / 2)) k no_literal)) refl,
      ))

  pub come_listed : (view2 : WatchListsView) → view2 ≡ record view1 { lists = set view1.lists list2 (list_in view1 list2 ++ record { place = w.place; blocker = blocker } ∷ []) } → AreListed bodies2 view2
  come_listed view2 is = rw (is, view1_is, next_code, s.swapped)
      (listed_shift bodies view (code_of lit) index k w blocker s.before s.within s.is own_code s.later s.inside s.blocks)

  pub come_shifted : (view2 : WatchListsView) → view2 ≡ record view1 { lists = set view1.lists list2 (list_in view1 list2 ++ record { place = w.place; blocker = blocker } ∷ []) }
      → IsShifted (code_of lit) index k w blocker (record { bodies = bodies; lists = view.lists }) (record { bodies = bodies2; lists = view2.lists })
  come_shifted view2 is = record {
    bodies = s.swapped;
    lists = λ left next left_is next_is. rw (left_is, next_is) (rw (is, view1_is, next_code) refl);
  }

-- a watch with another blocker
pub blocked : (bodies : List (List Lit)) (view view2 : WatchListsView) (lit : Lit) (list index : ℕ) (w : Watch) (blocker : Lit) → AreListed bodies view → list ≡ code_of lit → code_of lit < length view.lists
    → slice_get (list_in view (code_of lit)) index ≡ Some w → Contains (body_in bodies (w.place / 2)) blocker
    → view2 ≡ record view { lists = set view.lists list (set (list_in view list) index (record { place = w.place; blocker = blocker })) } → AreListed bodies view2
blocked bodies view view2 lit list index w blocker h list_is within is blocks view2_is = rw (view2_is, list_is) (listed_block bodies view (code_of lit) index w blocker h within is blocks)
