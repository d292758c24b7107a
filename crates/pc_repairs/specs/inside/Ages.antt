-- The ages of a set's entries: by them sets are put in order.
use Rattle.std.specs.Prelude.{◌≡◌, ℕ, ◌+◌, ◌<◌, ◌≤◌, Bool, false, cond, List, [], ◌∷◌, drop, length, map, slice_index_or, All, AllPairs}
use Rattle.std.specs.Ordering.{is_lt, nat_cmp}
use Rattle.std.specs.Cmp.Lexicographic.{slice_cmp}
use Rattle.pc_sheet.specs.Entailment.{HasAll}
use Rattle.pc_sheet.specs.MaximalSets.{IsContained}
use Rattle.pc_sheet.specs.declared.ids.Entry.{Entry}
use Rattle.pc_books.specs.Edits.{is_same_entry}
use Rattle.pc_world_list.specs.Worlds.{WorldView}
use Rattle.pc_repairs.specs.declared.ordering.Aged.{Aged}

-- the set's first entry is that one
abbrev pub begins_with : Entry → List Entry → Bool
begins_with e [] = false
begins_with e (f ∷ fs) = is_same_entry e f

-- how many entries are older than each of the set's, where so many are older than the first of these
abbrev pub ages_from : ℕ → List Entry → List Entry → List ℕ
ages_from k [] set = []
ages_from k (e ∷ es) set = cond (begins_with e set) (k ∷ ages_from (k + 1) es (drop 1 set)) (ages_from (k + 1) es set)

abbrev pub world_of : Aged → WorldView
world_of a = record { entries = a.entries.now; shown = a.shown.now }

-- the ages are those of its entries
abbrev pub IsAged : List Entry → Aged → Type 0
IsAged entries a = a.ages.items ≡ ages_from 0 entries a.entries.now

-- the assignment has the set
abbrev pub HasItsSet : Aged → Type 0
HasItsSet a = HasAll a.shown.now a.entries.now

-- these worlds in their order
pub record AreAged (entries : List Entry) (worlds : List WorldView) (aged : List Aged) : Type 0 where
  pub are : map world_of aged ≡ worlds
  pub each : All (IsAged entries) aged
  pub has : All HasItsSet aged

-- none of the sets lies within another
abbrev pub AreApart : List WorldView → Type 0
AreApart worlds = AllPairs (λ v w. (¬ IsContained v.entries w.entries) × (¬ IsContained w.entries v.entries)) worlds

-- the ages of none come after those of a later one, in the order of lists of numbers
abbrev pub AreByAge : List Aged → Type 0
AreByAge aged = (i j : ℕ) (d : Aged) → i ≤ j → j < length aged → is_lt (slice_cmp nat_cmp (slice_index_or aged j d).ages.items (slice_index_or aged i d).ages.items) ≡ false
