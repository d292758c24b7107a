-- A clause of three literals and its watches.
use Rattle.std.proofs.Common.{◌≡◌, ◌≢◌, ℕ, zero, suc, ◌+◌, ◌/◌, ◌<◌, ◌≤◌, inl, inr, true, false, List, [], ◌∷◌, length, get_or, Option, None, Some, slice_get, All, Contains, arith, ap, refl, sym, ◌∙◌, subst}
use Rattle.std.proofs.lemmas.Bool.{false≢true}
use Rattle.std.proofs.lemmas.List.Elements.{All-nil, All-cons, All-contains}
use Rattle.std.proofs.lemmas.Option.{slice_get_within, get_or_from_slice_get}
use Rattle.pc_lits.specs.declared.literal.Lit.{Lit}
use Rattle.pc_propagate.specs.declared.watch_lists.Watch.{Watch}
use Rattle.pc_propagate.specs.Lists.{list_in}
use Rattle.pc_propagate.specs.Bodies.{body_in}
use Rattle.pc_propagate.specs.Listed.{code_of, literal_of, spare, IsKnown, HasPlace, AreListed, IsAdded}
use Rattle.pc_lemmas.proofs.Elements.{contains_cases, contains_none}
use Rattle.pc_worked_laws.specs.Trails.{plus, minus}
use Rattle.pc_worked_laws.specs.Watches.{watch, some_of_three, lists_of, with_room, with_lists, no_clauses, first_two, turned, last_two, WorkedKnownWatches, WorkedLists, WorkedAdditions, WorkedShifts}
use Rattle.pc_worked_laws.proofs.Deciding.{has_lit, has_decides}

-- ---- literals of clauses

pub there : (clause : List Lit) (l : Lit) → has_lit clause l ≡ true → Contains clause l
there clause l is = (has_decides clause l).0 is

pub not_there : (clause : List Lit) (l : Lit) → has_lit clause l ≡ false → ¬ Contains clause l
not_there clause l fails has = false≢true (sym fails ∙ (has_decides clause l).1 has)

pub three : (P : Lit → Type 0) (x y z : Lit) → P x → P y → P z → (l : Lit) → Contains (x ∷ y ∷ z ∷ []) l → P l
three P x y z p q r l has = elim (contains_cases x (y ∷ z ∷ []) l has) [
  | inl is ↦ subst P is p
  | inr more ↦ elim (contains_cases y (z ∷ []) l more) [
    | inl is ↦ subst P is q
    | inr last ↦ elim (contains_cases z [] l last) [ inl is ↦ subst P is r | inr none ↦ absurd (contains_none l none) ]
  ]
]

-- ---- known watches

pub worked_known_watches : WorkedKnownWatches
worked_known_watches = record {
  known = record { number = omega arith; long = omega arith; blocker = there some_of_three (plus 1) refl; stands = (plus 0, refl, there some_of_three (plus 0) refl) };
  other_blocker = record { number = omega arith; long = omega arith; blocker = there some_of_three (plus 2) refl; stands = (plus 0, refl, there some_of_three (plus 0) refl) };
  other_list = record { number = omega arith; long = omega arith; blocker = there some_of_three (plus 1) refl; stands = (plus 2, refl, there some_of_three (plus 2) refl) };
  foreign_blocker = λ h. not_there some_of_three (minus 1) refl h.blocker;
  foreign_list = λ h. positive h.stands.0 h.stands.2 h.stands.1;
  second_clause = λ h. let number = h.number in absurd (omega (arith, number));
  of_one_literal = λ h. let long = h.long in absurd (omega (arith, long));
}
  where
    -- no literal of the clause is of list 0
    positive : (l : Lit) → Contains some_of_three l → code_of l ≢ 0
    positive = three (λ l. code_of l ≢ 0) (plus 0) (plus 1) (plus 2) (λ is. omega (arith, is)) (λ is. omega (arith, is)) (λ is. omega (arith, is))

-- ---- lists of one clause

-- what all watches of a list are, is what the one at any place is
at_each : (P : Watch → Type 0) (list : List Watch) → All P list → (j : ℕ) (w : Watch) → slice_get list j ≡ Some w → P w
at_each P list all j w at = All-contains P list w all (j, slice_get_within list j w at, get_or_from_slice_get list j w w at)

no_watches : (P : Watch → Type 0) (j : ℕ) (w : Watch) → slice_get [] j ≡ Some w → P w
no_watches P j w at = absurd (contains_none w (j, slice_get_within [] j w at, get_or_from_slice_get [] j w w at))

module _ (body : List Lit) (first second third : List Watch) (x y z : ℕ) where
  abbrev Lists : Type 0
  Lists = AreListed (body ∷ []) (with_room (lists_of first second third) x y z)

  abbrev Known : ℕ → Watch → Type 0
  Known c w = IsKnown (body ∷ []) c w

  in_lists : All (Known 1) first → All (Known 3) second → All (Known 5) third
      → (c j : ℕ) (w : Watch) → slice_get (list_in (with_room (lists_of first second third) x y z) c) j ≡ Some w → Known c w
  in_lists a b c zero j w at = no_watches (Known 0) j w at
  in_lists a b c (suc zero) j w at = at_each (Known 1) first a j w at
  in_lists a b c (suc (suc zero)) j w at = no_watches (Known 2) j w at
  in_lists a b c (suc (suc (suc zero))) j w at = at_each (Known 3) second b j w at
  in_lists a b c (suc (suc (suc (suc zero)))) j w at = no_watches (Known 4) j w at
  in_lists a b c (suc (suc (suc (suc (suc zero))))) j w at = at_each (Known 5) third c j w at
  in_lists a b c (suc (suc (suc (suc (suc (suc k)))))) j w at = no_watches (Known (suc (suc (suc (suc (suc (suc k))))))) j w at

  abbrev Place : ℕ → Type 0
  Place place = HasPlace (list_in (with_room (lists_of first second third) x y z) (code_of (literal_of (body ∷ []) place))) place

  both_places : (2 ≤ length body → Place 0) → (2 ≤ length body → Place 1) → (place : ℕ) → place / 2 < 1 → 2 ≤ length (body_in (body ∷ []) (place / 2)) → Place place
  both_places a b zero within long = a long
  both_places a b (suc zero) within long = b long
  both_places a b (suc (suc place)) within long = absurd (omega (arith, within))

  abbrev HasRoomFor : ℕ → List Watch → ℕ → Type 0
  HasRoomFor c list room = length list + spare (body ∷ []) c ≤ room

  rooms : HasRoomFor 0 [] 0 → HasRoomFor 1 first x → HasRoomFor 2 [] 0 → HasRoomFor 3 second y → HasRoomFor 4 [] 0 → HasRoomFor 5 third z
      → (c : ℕ) → c < 6 → HasRoomFor c (list_in (with_room (lists_of first second third) x y z) c) (get_or (0 ∷ x ∷ 0 ∷ y ∷ 0 ∷ z ∷ []) c 0)
  rooms a b c d e f zero within = a
  rooms a b c d e f (suc zero) within = b
  rooms a b c d e f (suc (suc zero)) within = c
  rooms a b c d e f (suc (suc (suc zero))) within = d
  rooms a b c d e f (suc (suc (suc (suc zero)))) within = e
  rooms a b c d e f (suc (suc (suc (suc (suc zero))))) within = f
  rooms a b c d e f (suc (suc (suc (suc (suc (suc k)))))) within = absurd (omega (arith, within))

  in_range : ((l : Lit) → Contains body l → code_of l < 6) → (n : ℕ) (l : Lit) → Contains (body_in (body ∷ []) n) l → code_of l < 6
  in_range each zero l has = each l has
  in_range each (suc n) l has = absurd (contains_none l has)

of_three : (l : Lit) → Contains some_of_three l → code_of l < 6
of_three = three (λ l. code_of l < 6) (plus 0) (plus 1) (plus 2) (omega arith) (omega arith) (omega arith)

of_turned : (l : Lit) → Contains turned l → code_of l < 6
of_turned = three (λ l. code_of l < 6) (plus 2) (plus 1) (plus 0) (omega arith) (omega arith) (omega arith)

of_one : (l : Lit) → Contains (plus 0 ∷ []) l → code_of l < 6
of_one l has = elim (contains_cases (plus 0) [] l has) [ inl is ↦ subst (λ m. code_of m < 6) is (omega arith) | inr none ↦ absurd (contains_none l none) ]

-- one watch, known
one_known : (P : Watch → Type 0) (w : Watch) → P w → All P (w ∷ [])
one_known P w is = All-cons P w [] is (All-nil P)

known_in : (body : List Lit) (c : ℕ) (place : ℕ) (blocker l : Lit) → place < 2 → 2 ≤ length body → has_lit body blocker ≡ true → code_of l ≡ c → has_lit body l ≡ true → IsKnown (body ∷ []) c (watch place blocker)
known_in body c zero blocker l less long has of stands = record { number = omega arith; long = long; blocker = there body blocker has; stands = (l, of, there body l stands) }
known_in body c (suc zero) blocker l less long has of stands = record { number = omega arith; long = long; blocker = there body blocker has; stands = (l, of, there body l stands) }
known_in body c (suc (suc place)) blocker l less long has of stands = absurd (omega (arith, less))

first_lists : AreListed (some_of_three ∷ []) (with_room first_two 1 1 1)
first_lists = record {
  size = refl;
  few = omega arith;
  in_range = in_range some_of_three (watch 0 (plus 1) ∷ []) (watch 1 (plus 0) ∷ []) [] 1 1 1 of_three;
  known = in_lists some_of_three (watch 0 (plus 1) ∷ []) (watch 1 (plus 0) ∷ []) [] 1 1 1
      (one_known (IsKnown (some_of_three ∷ []) 1) (watch 0 (plus 1)) (known_in some_of_three 1 0 (plus 1) (plus 0) (omega arith) (omega arith) refl refl refl))
      (one_known (IsKnown (some_of_three ∷ []) 3) (watch 1 (plus 0)) (known_in some_of_three 3 1 (plus 0) (plus 1) (omega arith) (omega arith) refl refl refl))
      (All-nil (IsKnown (some_of_three ∷ []) 5));
  listed = both_places some_of_three (watch 0 (plus 1) ∷ []) (watch 1 (plus 0) ∷ []) [] 1 1 1 (λ z. (0, watch 0 (plus 1), refl, refl)) (λ z. (0, watch 1 (plus 0), refl, refl));
  room = rooms some_of_three (watch 0 (plus 1) ∷ []) (watch 1 (plus 0) ∷ []) [] 1 1 1 (omega arith) (omega arith) (omega arith) (omega arith) (omega arith) (omega arith);
}

last_lists : AreListed (turned ∷ []) (with_room last_two 1 1 1)
last_lists = record {
  size = refl;
  few = omega arith;
  in_range = in_range turned [] (watch 1 (plus 0) ∷ []) (watch 0 (plus 1) ∷ []) 1 1 1 of_turned;
  known = in_lists turned [] (watch 1 (plus 0) ∷ []) (watch 0 (plus 1) ∷ []) 1 1 1
      (All-nil (IsKnown (turned ∷ []) 1))
      (one_known (IsKnown (turned ∷ []) 3) (watch 1 (plus 0)) (known_in turned 3 1 (plus 0) (plus 1) (omega arith) (omega arith) refl refl refl))
      (one_known (IsKnown (turned ∷ []) 5) (watch 0 (plus 1)) (known_in turned 5 0 (plus 1) (plus 2) (omega arith) (omega arith) refl refl refl));
  listed = both_places turned [] (watch 1 (plus 0) ∷ []) (watch 0 (plus 1) ∷ []) 1 1 1 (λ z. (0, watch 0 (plus 1), refl, refl)) (λ z. (0, watch 1 (plus 0), refl, refl));
  room = rooms turned [] (watch 1 (plus 0) ∷ []) (watch 0 (plus 1) ∷ []) 1 1 1 (omega arith) (omega arith) (omega arith) (omega arith) (omega arith) (omega arith);
}

one_literal : AreListed ((plus 0 ∷ []) ∷ []) (with_room (lists_of [] [] []) 0 0 0)
one_literal = record {
  size = refl;
  few = omega arith;
  in_range = in_range (plus 0 ∷ []) [] [] [] 0 0 0 of_one;
  known = in_lists (plus 0 ∷ []) [] [] [] 0 0 0 (All-nil (IsKnown ((plus 0 ∷ []) ∷ []) 1)) (All-nil (IsKnown ((plus 0 ∷ []) ∷ []) 3)) (All-nil (IsKnown ((plus 0 ∷ []) ∷ []) 5));
  listed = both_places (plus 0 ∷ []) [] [] [] 0 0 0 (λ long. absurd (omega (arith, long))) (λ long. absurd (omega (arith, long)));
  room = rooms (plus 0 ∷ []) [] [] [] 0 0 0 (omega arith) (omega arith) (omega arith) (omega arith) (omega arith) (omega arith);
}

-- no list of clauses
no_body : (n : ℕ) (l : Lit) → ¬ Contains (body_in [] n) l
no_body n l has = by n has
  where
    by : (n : ℕ) → ¬ Contains (body_in [] n) l
    by zero has = contains_none l has
    by (suc n) has = contains_none l has

no_lists : AreListed [] (with_room (lists_of [] [] []) 0 0 0)
no_lists = record {
  size = refl;
  few = omega arith;
  in_range = λ n l has. absurd (no_body n l has);
  known = empty;
  listed = λ place within long. absurd (omega (arith, within));
  room = no_rooms;
}
  where
    empty : (c j : ℕ) (w : Watch) → slice_get (list_in (with_room (lists_of [] [] []) 0 0 0) c) j ≡ Some w → IsKnown [] c w
    empty zero j w at = no_watches (IsKnown [] 0) j w at
    empty (suc zero) j w at = no_watches (IsKnown [] 1) j w at
    empty (suc (suc zero)) j w at = no_watches (IsKnown [] 2) j w at
    empty (suc (suc (suc zero))) j w at = no_watches (IsKnown [] 3) j w at
    empty (suc (suc (suc (suc zero)))) j w at = no_watches (IsKnown [] 4) j w at
    empty (suc (suc (suc (suc (suc zero))))) j w at = no_watches (IsKnown [] 5) j w at
    empty (suc (suc (suc (suc (suc (suc k)))))) j w at = no_watches (IsKnown [] (suc (suc (suc (suc (suc (suc k))))))) j w at

    no_rooms : (c : ℕ) → c < 6 → length (list_in (with_room (lists_of [] [] []) 0 0 0) c) + spare [] c ≤ get_or {A = ℕ} (0 ∷ 0 ∷ 0 ∷ 0 ∷ 0 ∷ 0 ∷ []) c 0
    no_rooms zero within = omega arith
    no_rooms (suc zero) within = omega arith
    no_rooms (suc (suc zero)) within = omega arith
    no_rooms (suc (suc (suc zero))) within = omega arith
    no_rooms (suc (suc (suc (suc zero)))) within = omega arith
    no_rooms (suc (suc (suc (suc (suc zero))))) within = omega arith
    no_rooms (suc (suc (suc (suc (suc (suc k)))))) within = absurd (omega (arith, within))

-- the places of a list
abbrev place_of : Watch → ℕ
place_of w = w.place

abbrev place_or : Option Watch → ℕ
place_or None = 9
place_or (Some w) = w.place

-- a list of one watch has no other place
only_place : (w : Watch) (place : ℕ) → w.place ≢ place → ¬ HasPlace (w ∷ []) place
only_place w place other (zero, v, at, is) = other (ap place_or at ∙ is)
only_place w place other (suc j, v, at, is) = no_watches (λ u. ⊥) j v at

no_place : (place : ℕ) → ¬ HasPlace [] place
no_place place (j, w, at, is) = no_watches (λ u. ⊥) j w at

pub worked_lists : WorkedLists
worked_lists = record {
  none = no_lists;
  first = first_lists;
  last = last_lists;
  of_one_literal = one_literal;
  one_watch = λ h. no_place 1 (h.listed 1 (omega arith) (omega arith));
  one_place = λ h. only_place (watch 0 (plus 0)) 1 (λ is. omega (arith, is)) (h.listed 1 (omega arith) (omega arith));
  exchanged = λ h. only_place (watch 1 (plus 1)) 0 (λ is. omega (arith, is)) (h.listed 0 (omega arith) (omega arith));
  not_turned = λ h. no_place 0 (h.listed 0 (omega arith) (omega arith));
  no_room_for_third = λ h. let room : 1 ≤ 0 = h.room 5 (omega arith) in absurd (omega (arith, room));
  no_room_for_first = λ h. let room : 1 ≤ 0 = h.room 1 (omega arith) in absurd (omega (arith, room));
  no_list_for_third = λ h. let range : 5 < 4 = h.in_range 0 (plus 2) (there some_of_three (plus 2) refl) in absurd (omega (arith, range));
}

-- ---- a clause more

abbrev body_or : List (List Lit) → List Lit
body_or bodies = get_or bodies 0 []

-- the literals that the clause has
added_body : (body : List Lit) (lists : List (List Watch)) (h : IsAdded some_of_three no_clauses (with_lists body lists)) → body ≡ h.body
added_body body lists h = ap body_or h.bodies

lacking : (body : List Lit) (lists : List (List Watch)) → has_lit body (plus 2) ≡ false → ¬ IsAdded some_of_three no_clauses (with_lists body lists)
lacking body lists fails h = not_there body (plus 2) fails (subst (λ b. Contains b (plus 2)) (sym (added_body body lists h)) (h.all (plus 2) (there some_of_three (plus 2) refl)))

pub worked_additions : WorkedAdditions
worked_additions = record {
  added = record { body = some_of_three; bodies = refl; size = refl; from = λ l has. has; all = λ l has. has; lists = refl };
  turned_about = record { body = turned; bodies = refl; size = refl; from = from; all = all; lists = refl };
  lacks_one = lacking (plus 0 ∷ plus 1 ∷ plus 1 ∷ []) first_two refl;
  lacks_third = lacking (plus 0 ∷ plus 1 ∷ []) first_two refl;
  has_four = λ h. let size : 4 ≡ 3 = ap length (added_body (plus 0 ∷ plus 1 ∷ plus 2 ∷ plus 2 ∷ []) first_two h) ∙ h.size in absurd (omega (arith, size));
  in_front = λ h. let size : 3 ≡ 1 = ap (λ bs. length (body_or bs)) h.bodies in absurd (omega (arith, size));
}
  where
    from : (l : Lit) → Contains turned l → Contains some_of_three l
    from = three (Contains some_of_three) (plus 2) (plus 1) (plus 0) (there some_of_three (plus 2) refl) (there some_of_three (plus 1) refl) (there some_of_three (plus 0) refl)

    all : (l : Lit) → Contains some_of_three l → Contains turned l
    all = three (Contains turned) (plus 0) (plus 1) (plus 2) (there turned (plus 0) refl) (there turned (plus 1) refl) (there turned (plus 2) refl)

-- ---- a watch of another literal

abbrev first_number : List (List Lit) → ℕ
first_number bodies = first_of (body_or bodies)
  where
    first_of : List Lit → ℕ
    first_of [] = 9
    first_of (l ∷ ls) = l.variable.0

-- how many watches the list of 0 has
abbrev watching_first : List (List Watch) → ℕ
watching_first lists = length (get_or lists 1 [])

pub worked_shifts : WorkedShifts
worked_shifts = record {
  shifted = record { bodies = refl; lists = λ left next l n. rw (l, n) refl };
  second = record { bodies = refl; lists = λ left next l n. rw (l, n) refl };
  in_both = λ h. let none : 1 ≡ 0 = ap watching_first (h.lists (lists_of [] (watch 1 (plus 0) ∷ []) []) 5 refl refl) in absurd (omega (arith, none));
  in_place = λ h. let number : 0 ≡ 2 = ap first_number h.bodies in absurd (omega (arith, number));
  wrong_place = λ h. let number : 0 ≡ 2 = ap first_number h.bodies in absurd (omega (arith, number));
}
