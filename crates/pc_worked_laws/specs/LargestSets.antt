-- The maximal sets of small sheets: an entry that is inconsistent by itself, and two pairs of entries.
use Rattle.std.specs.Prelude.{List, [], ◌∷◌}
use Rattle.pc_sheet.specs.Entailment.{IsConsistent, IsConflict}
use Rattle.pc_sheet.specs.MaximalSets.{ListsExactly, IsMaximalSet, IsMinimalInconsistent}
use Rattle.pc_sheet.specs.declared.ids.Entry.{Entry}
use Rattle.pc_laws.specs.Examples.{red, green, entry, never_red, two_pairs}

-- ---- a != red, and a = red is entered: the entry is inconsistent by itself, and the one maximal set is empty

pub record NothingIsKept : Type 0 where
  pub inconsistent : ¬ IsConsistent never_red.sheet (entry 0 red ∷ [])
  pub conflicting : IsMinimalInconsistent never_red.sheet (entry 0 red ∷ [])
  pub largest : ListsExactly (List Entry) (IsMaximalSet never_red.sheet) ([] ∷ [])
  pub against_the_rules : IsConflict never_red.sheet [] (entry 0 red)

-- ---- a = b and c = d, each entered with two values: one of each pair is kept

abbrev pub pair : Entry → Entry → List Entry
pair e f = e ∷ f ∷ []

abbrev pub four_sets : List (List Entry)
four_sets = pair (entry 0 red) (entry 2 red) ∷ pair (entry 0 red) (entry 3 green) ∷ pair (entry 1 green) (entry 2 red) ∷ pair (entry 1 green) (entry 3 green) ∷ []

pub record PairsHaveFourSets : Type 0 where
  pub largest : ListsExactly (List Entry) (IsMaximalSet two_pairs.sheet) four_sets
  -- one entry of each pair is missing
  pub too_small : ¬ IsMaximalSet two_pairs.sheet (entry 0 red ∷ [])
  -- both entries of one pair
  pub too_large : ¬ IsMaximalSet two_pairs.sheet (entry 0 red ∷ entry 1 green ∷ entry 2 red ∷ [])
