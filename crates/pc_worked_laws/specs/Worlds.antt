-- Small sheets with their worlds, and what is left of them without an entry.
use Rattle.std.specs.Prelude.{List, [], ◌∷◌}
use Rattle.pc_sheet.specs.declared.ids.ValueId.{ValueId}
use Rattle.pc_sheet.specs.declared.ids.Entry.{Entry}
use Rattle.pc_laws.specs.Examples.{red, green, entry, equal_cells, never_red}
use Rattle.pc_world_list.specs.Worlds.{WorldView, AreExact, IsWithout}

abbrev pub world : List Entry → List ValueId → WorldView
world entries shown = record { entries = entries; shown = shown }

-- a and b are equal, a = red and b = green are entered
abbrev pub with_red : WorldView
with_red = world (entry 0 red ∷ []) (red ∷ red ∷ [])

abbrev pub with_green : WorldView
with_green = world (entry 1 green ∷ []) (green ∷ green ∷ [])

pub record WorkedWorlds : Type 0 where
  pub exact : AreExact equal_cells (with_red ∷ with_green ∷ [])
  -- in whatever order
  pub turned : AreExact equal_cells (with_green ∷ with_red ∷ [])
  pub one_missing : ¬ AreExact equal_cells (with_red ∷ [])
  pub one_twice : ¬ AreExact equal_cells (with_red ∷ with_green ∷ with_red ∷ [])
  -- both entries together are inconsistent
  pub too_large : ¬ AreExact equal_cells (with_red ∷ with_green ∷ world (entry 0 red ∷ entry 1 green ∷ []) (red ∷ green ∷ []) ∷ [])
  -- the empty set lies within others
  pub not_maximal : ¬ AreExact equal_cells (with_red ∷ with_green ∷ world [] (red ∷ red ∷ []) ∷ [])
  -- the assignment lacks the entry, or breaks the rule
  pub entry_not_had : ¬ AreExact equal_cells (world (entry 0 red ∷ []) (green ∷ green ∷ []) ∷ with_green ∷ [])
  pub rule_broken : ¬ AreExact equal_cells (world (entry 0 red ∷ []) (red ∷ green ∷ []) ∷ with_green ∷ [])
  -- a != red, and a = red is entered: the one set is empty
  pub empty_set : AreExact never_red.sheet (world [] (green ∷ []) ∷ [])
  pub not_none : ¬ AreExact never_red.sheet []

-- a world of two pairs: a = red or b = green, with c = red or d = green
abbrev pub pair_world : Entry → Entry → WorldView
pair_world e f = world (e ∷ f ∷ []) (e.value ∷ e.value ∷ f.value ∷ f.value ∷ [])

abbrev pub four_worlds : List WorldView
four_worlds = pair_world (entry 0 red) (entry 2 red) ∷ pair_world (entry 0 red) (entry 3 green) ∷ pair_world (entry 1 green) (entry 2 red) ∷ pair_world (entry 1 green) (entry 3 green) ∷ []

abbrev pub last_two : List WorldView
last_two = pair_world (entry 1 green) (entry 2 red) ∷ pair_world (entry 1 green) (entry 3 green) ∷ []

-- the empty set with an assignment of one cell
abbrev pub nothing_with : ValueId → WorldView
nothing_with v = world [] (v ∷ [])

abbrev pub soon_equal : List WorldView
soon_equal = world (entry 0 red ∷ []) (red ∷ []) ∷ nothing_with green ∷ []

abbrev pub covered : WorldView
covered = world (entry 2 red ∷ []) (red ∷ red ∷ red ∷ red ∷ [])

pub record WorkedWithout : Type 0 where
  -- without a = red what is left of the first two lies within the last two
  pub within_others : IsWithout (entry 0 red) four_worlds last_two
  -- of equal sets the first stays, with its assignment
  pub first_of_equal : IsWithout (entry 0 red) soon_equal (nothing_with red ∷ [])
  pub not_the_later : ¬ IsWithout (entry 0 red) soon_equal (nothing_with green ∷ [])
  -- an entry that no set has changes nothing
  pub of_none : IsWithout (entry 0 green) (with_red ∷ with_green ∷ []) (with_red ∷ with_green ∷ [])
  -- what lies within another can't stay
  pub none_within : ¬ IsWithout (entry 0 red) four_worlds (covered ∷ last_two)
