-- What may be kept together, as it is listed.
use Rattle.std.specs.Prelude.{◌≡◌, List, [], ◌∷◌, ◌++◌, codes}
use Rattle.pc_sheet.specs.declared.ids.Entry.{Entry}
use Rattle.pc_laws.specs.Examples.{red, green, entry, chain, two_pairs, never_red}
use Rattle.pc_parts.specs.Parts.{Part}
use Rattle.pc_accept.specs.SetExamples.{two_ends}
use Rattle.pc_world_list.specs.Chosen.{chosen_parts}
use Rattle.pc_repairs.specs.Listed.{ComesFirst, ListedPart, IsListedPart}
use Rattle.pc_repairs.specs.ListedSheet.{IsListed}
use Rattle.pc_worked_laws.specs.Several.{cell_of}

-- of the part whose first cell is the first
abbrev pub of_first : List (List Entry) → ListedPart
of_first sets = record { cell = cell_of 0; sets = sets }

abbrev pub red_end : List Entry
red_end = entry 0 red ∷ []

abbrev pub green_end : List Entry
green_end = entry 2 green ∷ []

pub record WorkedListings : Type 0 where
  -- where a = b and b = c, a = red and c = green are entered
  pub two_sets : IsListed two_ends (codes "part a\n  keep a = red\n  keep c = green\n")
  -- a = b and c = d, each entered with two values: part by part
  pub two_parts : IsListed two_pairs.sheet (codes "part a\n  keep a = red\n  keep b = green\n" ++ codes "part c\n  keep c = red\n  keep d = green\n")
  -- the rules are against the one entry
  pub nothing : IsListed never_red.sheet (codes "part a\n  keep nothing\n")
  -- a part without entries isn't listed
  pub no_part : IsListed (chain []) []
  -- the set with the oldest entry on which two differ comes first
  pub older_first : ComesFirst two_ends.entries red_end green_end
  pub not_newer : ¬ ComesFirst two_ends.entries green_end red_end
  pub not_itself : ¬ ComesFirst two_ends.entries red_end red_end
  pub turned : (part : Part) → ¬ IsListedPart two_ends part (of_first (green_end ∷ red_end ∷ []))
  -- all sets are listed
  pub left_out : (part : Part) → chosen_parts two_ends ≡ part ∷ [] → ¬ IsListedPart two_ends part (of_first (red_end ∷ []))
