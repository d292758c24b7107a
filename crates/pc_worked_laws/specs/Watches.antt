-- A clause of three literals, its two watches, and how one of them comes to watch the third literal.
use Rattle.std.specs.Prelude.{ℕ, List, [], ◌∷◌}
use Rattle.pc_lits.specs.declared.literal.Lit.{Lit}
use Rattle.pc_propagate.specs.declared.watch_lists.Watch.{Watch}
use Rattle.pc_propagate.specs.Lists.{WatchListsView}
use Rattle.pc_propagate.specs.Listed.{WatchedView, IsKnown, AreListed, IsShifted, IsAdded}
use Rattle.pc_worked_laws.specs.Trails.{plus, minus}

-- the place, and the literal that is looked at first
abbrev pub watch : ℕ → Lit → Watch
watch place blocker = record { place = place; blocker = blocker }

-- 0, 1 or 2
abbrev pub some_of_three : List Lit
some_of_three = plus 0 ∷ plus 1 ∷ plus 2 ∷ []

-- the lists of three variables; those of their negations are empty
abbrev pub lists_of : List Watch → List Watch → List Watch → List (List Watch)
lists_of first second third = [] ∷ first ∷ [] ∷ second ∷ [] ∷ third ∷ []

-- and room for so many watches in each of them
abbrev pub with_room : List (List Watch) → ℕ → ℕ → ℕ → WatchListsView
with_room lists first second third = record { lists = lists; room = 0 ∷ first ∷ 0 ∷ second ∷ 0 ∷ third ∷ [] }

abbrev pub with_lists : List Lit → List (List Watch) → WatchedView
with_lists body lists = record { bodies = body ∷ []; lists = lists }

abbrev pub no_clauses : WatchedView
no_clauses = record { bodies = []; lists = lists_of [] [] [] }

-- 0 and 1 are watched
abbrev pub first_two : List (List Watch)
first_two = lists_of (watch 0 (plus 1) ∷ []) (watch 1 (plus 0) ∷ []) []

-- 2 is watched in the place of 0
abbrev pub turned : List Lit
turned = plus 2 ∷ plus 1 ∷ plus 0 ∷ []

abbrev pub last_two : List (List Watch)
last_two = lists_of [] (watch 1 (plus 0) ∷ []) (watch 0 (plus 1) ∷ [])

pub record WorkedKnownWatches : Type 0 where
  pub known : IsKnown (some_of_three ∷ []) 1 (watch 0 (plus 1))
  -- the blocker may be any literal of the clause, and the list that of any of them
  pub other_blocker : IsKnown (some_of_three ∷ []) 1 (watch 0 (plus 2))
  pub other_list : IsKnown (some_of_three ∷ []) 5 (watch 0 (plus 1))
  -- but not of a negation
  pub foreign_blocker : ¬ IsKnown (some_of_three ∷ []) 1 (watch 0 (minus 1))
  pub foreign_list : ¬ IsKnown (some_of_three ∷ []) 0 (watch 0 (plus 1))
  -- the places 2 and 3 are of the second clause
  pub second_clause : ¬ IsKnown (some_of_three ∷ []) 1 (watch 2 (plus 1))
  -- one literal alone watches nothing
  pub of_one_literal : ¬ IsKnown ((plus 0 ∷ []) ∷ []) 1 (watch 0 (plus 0))

pub record WorkedLists : Type 0 where
  pub none : AreListed [] (with_room (lists_of [] [] []) 0 0 0)
  pub first : AreListed (some_of_three ∷ []) (with_room first_two 1 1 1)
  pub last : AreListed (turned ∷ []) (with_room last_two 1 1 1)
  pub of_one_literal : AreListed ((plus 0 ∷ []) ∷ []) (with_room (lists_of [] [] []) 0 0 0)
  -- one watch isn't enough, nor are two of one place
  pub one_watch : ¬ AreListed (some_of_three ∷ []) (with_room (lists_of (watch 0 (plus 1) ∷ []) [] []) 1 1 1)
  pub one_place : ¬ AreListed (some_of_three ∷ []) (with_room (lists_of (watch 0 (plus 1) ∷ []) (watch 0 (plus 0) ∷ []) []) 1 1 1)
  -- each place stands in the list of its own literal
  pub exchanged : ¬ AreListed (some_of_three ∷ []) (with_room (lists_of (watch 1 (plus 1) ∷ []) (watch 0 (plus 0) ∷ []) []) 1 1 1)
  pub not_turned : ¬ AreListed (some_of_three ∷ []) (with_room last_two 1 1 1)
  -- a list has room for its literal where that isn't watched yet, or no longer
  pub no_room_for_third : ¬ AreListed (some_of_three ∷ []) (with_room first_two 1 1 0)
  pub no_room_for_first : ¬ AreListed (turned ∷ []) (with_room last_two 0 1 1)
  -- each literal has a list, be it watched or not
  pub no_list_for_third : ¬ AreListed (some_of_three ∷ []) (record { lists = [] ∷ (watch 0 (plus 1) ∷ []) ∷ [] ∷ (watch 1 (plus 0) ∷ []) ∷ []; room = 0 ∷ 1 ∷ 0 ∷ 1 ∷ [] })

pub record WorkedAdditions : Type 0 where
  pub added : IsAdded some_of_three no_clauses (with_lists some_of_three first_two)
  -- in any order
  pub turned_about : IsAdded some_of_three no_clauses (with_lists turned last_two)
  -- with each literal
  pub lacks_one : ¬ IsAdded some_of_three no_clauses (with_lists (plus 0 ∷ plus 1 ∷ plus 1 ∷ []) first_two)
  pub lacks_third : ¬ IsAdded some_of_three no_clauses (with_lists (plus 0 ∷ plus 1 ∷ []) first_two)
  -- and with none twice that stood once
  pub has_four : ¬ IsAdded some_of_three no_clauses (with_lists (plus 0 ∷ plus 1 ∷ plus 2 ∷ plus 2 ∷ []) first_two)
  -- behind the others
  pub in_front : ¬ IsAdded some_of_three (with_lists (plus 0 ∷ []) first_two) (record { bodies = some_of_three ∷ (plus 0 ∷ []) ∷ []; lists = first_two })

pub record WorkedShifts : Type 0 where
  -- place 0 takes up the third literal
  pub shifted : IsShifted 1 0 2 (watch 0 (plus 1)) (plus 1) (with_lists some_of_three first_two) (with_lists turned last_two)
  -- and place 1
  pub second : IsShifted 3 0 2 (watch 1 (plus 0)) (plus 0) (with_lists some_of_three first_two) (with_lists (plus 0 ∷ plus 2 ∷ plus 1 ∷ []) (lists_of (watch 0 (plus 1) ∷ []) [] (watch 1 (plus 0) ∷ [])))
  -- the watch stays in the list of 0 too
  pub in_both : ¬ IsShifted 1 0 2 (watch 0 (plus 1)) (plus 1) (with_lists some_of_three first_two) (with_lists turned (lists_of (watch 0 (plus 1) ∷ []) (watch 1 (plus 0) ∷ []) (watch 0 (plus 1) ∷ [])))
  -- the literals stay in their places
  pub in_place : ¬ IsShifted 1 0 2 (watch 0 (plus 1)) (plus 1) (with_lists some_of_three first_two) (with_lists some_of_three last_two)
  -- the third literal takes the place of the other watch
  pub wrong_place : ¬ IsShifted 1 0 2 (watch 0 (plus 1)) (plus 1) (with_lists some_of_three first_two) (with_lists (plus 0 ∷ plus 2 ∷ plus 1 ∷ []) last_two)
