-- Clauses, and for each literal the places of clauses that watch it.
use Rattle.std.specs.Prelude.{◌≡◌, ◌⊎◌, ℕ, ◌+◌, ◌*◌, ◌/◌, ◌%◌, ◌<◌, ◌≤◌, ◌^◌, ◌==◌, List, [], ◌∷◌, ◌++◌, Some, cond, false, Contains, length, drop, sum_by, swap, swap_remove, slice_set, slice_get, slice_index_or}
use Rattle.pc_lits.specs.declared.literal.Lit.{Lit}
use Rattle.pc_propagate.specs.declared.watch_lists.Watch.{Watch}
use Rattle.pc_propagate.specs.Lists.{WatchListsView, list_in, room_in}
use Rattle.pc_propagate.specs.Bodies.{body_in}

pub record WatchedView : Type 0 where
  -- the literals of each clause: the first two are watched
  pub bodies : List (List Lit)
  -- for each literal, the places that watch it
  pub lists : List (List Watch)

-- the number of the literal's list
abbrev pub code_of : Lit → ℕ
code_of l = 2 * l.variable.0 + cond l.sign 1 0

-- what stands for a literal that there isn't
abbrev pub no_literal : Lit
no_literal = record { variable = record { 0 = 0 }; sign = false }

-- the places that watch the literal
abbrev pub watchers : WatchedView → Lit → List Watch
watchers w l = slice_index_or w.lists (code_of l) []

-- the literal of a place
abbrev pub literal_of : List (List Lit) → ℕ → Lit
literal_of bodies place = slice_index_or (body_in bodies (place / 2)) (place % 2) no_literal

-- how often the literal of this list stands in the clause
abbrev pub occurrences : ℕ → List Lit → ℕ
occurrences c clause = sum_by (λ l. cond (code_of l == c) 1 0) clause

-- and how often it stands there without being watched
abbrev pub unwatched : ℕ → List Lit → ℕ
unwatched c body = occurrences c (drop 2 body)

-- each literal has one of so many lists
abbrev pub AreListedIn : ℕ → List Lit → Type 0
AreListedIn count clause = (l : Lit) → Contains clause l → code_of l < count

-- how often the literal of this list stands in all clauses without being watched
abbrev pub spare : List (List Lit) → ℕ → ℕ
spare bodies c = sum_by (unwatched c) bodies

-- the watch is of a place of a clause, which has a literal of this list, and its blocker
pub record IsKnown (bodies : List (List Lit)) (c : ℕ) (w : Watch) : Type 0 where
  pub number : w.place / 2 < length bodies
  pub long : 2 ≤ length (body_in bodies (w.place / 2))
  pub blocker : Contains (body_in bodies (w.place / 2)) w.blocker
  pub stands : (l : Lit) × (code_of l ≡ c) × Contains (body_in bodies (w.place / 2)) l

-- a watch of this place stands in the list
abbrev pub HasPlace : List Watch → ℕ → Type 0
HasPlace list place = (j : ℕ) × (w : Watch) × (slice_get list j ≡ Some w) × (w.place ≡ place)

-- What holds of clauses and lists.
pub record AreListed (bodies : List (List Lit)) (lists : WatchListsView) : Type 0 where
  pub size : length lists.room ≡ length lists.lists
  pub few : length bodies < 2 ^ 31
  -- each literal has a list
  pub in_range : (n : ℕ) (l : Lit) → Contains (body_in bodies n) l → code_of l < length lists.lists
  pub known : (c j : ℕ) (w : Watch) → slice_get (list_in lists c) j ≡ Some w → IsKnown bodies c w
  -- the first two literals of a clause of two or more watch
  pub listed : (place : ℕ) → place / 2 < length bodies → 2 ≤ length (body_in bodies (place / 2)) → HasPlace (list_in lists (code_of (literal_of bodies place))) place
  -- each list has room for each literal of its that isn't watched
  pub room : (c : ℕ) → c < length lists.lists → length (list_in lists c) + spare bodies c ≤ room_in lists c

-- The place of a watch has taken up another literal of its clause, and stands in the list of that one.
pub record IsShifted (c index other : ℕ) (w : Watch) (blocker : Lit) (old new : WatchedView) : Type 0 where
  pub bodies : new.bodies ≡ slice_set old.bodies (w.place / 2) (swap (body_in old.bodies (w.place / 2)) (w.place % 2) other)
  pub lists : (left : List (List Watch)) (next : ℕ) → left ≡ slice_set old.lists c (swap_remove (slice_index_or old.lists c []) index w)
      → next ≡ code_of (slice_index_or (body_in old.bodies (w.place / 2)) other no_literal)
      → new.lists ≡ slice_set left next (slice_index_or left next [] ++ record { place = w.place; blocker = blocker } ∷ [])

-- The clause is the last one, with its literals in some order.
pub record IsAdded (clause : List Lit) (old new : WatchedView) : Type 0 where
  pub body : List Lit
  pub bodies : new.bodies ≡ old.bodies ++ body ∷ []
  pub size : length body ≡ length clause
  pub from : (l : Lit) → Contains body l → Contains clause l
  pub all : (l : Lit) → Contains clause l → Contains body l
  pub lists : length new.lists ≡ length old.lists

-- Each list is as it was or empty, and those of the clause's literals are empty.
pub record HaveGone (clause : List Lit) (old new : WatchListsView) : Type 0 where
  pub size : length new.lists ≡ length old.lists
  pub room : length new.room ≡ length old.room
  pub others : (c : ℕ) → (list_in new c ≡ list_in old c) ⊎ (list_in new c ≡ [])
  pub emptied : (l : Lit) → Contains clause l → list_in new (code_of l) ≡ []
