-- The entries outside a set, by one walk over both.
use Rattle.std.specs.Prelude.{Bool, false, cond, List, [], ◌∷◌, drop}
use Rattle.pc_sheet.specs.declared.ids.Entry.{Entry}
use Rattle.pc_accept.specs.Sets.{is_entry}

-- its first entry is this one
abbrev pub starts_with : List Entry → Entry → Bool
starts_with [] e = false
starts_with (f ∷ fs) e = is_entry f e

-- those of the entries that the set lacks, where the set's entries stand in the same order
abbrev pub outside_by : List Entry → List Entry → List Entry
outside_by [] set = []
outside_by (e ∷ es) set = cond (starts_with set e) (outside_by es (drop 1 set)) (e ∷ outside_by es set)
