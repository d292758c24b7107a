-- The clauses of sets: that some entry stands that the set hasn't.
use Rattle.std.specs.Prelude.{List, map}
use Rattle.pc_lits.specs.declared.literal.Lit.{Lit}
use Rattle.pc_sheet.specs.Sheet.{Sheet}
use Rattle.pc_sheet.specs.Entailment.{cell_sizes}
use Rattle.pc_sheet.specs.declared.ids.Entry.{Entry}
use Rattle.pc_accept.specs.Sets.{those_outside}
use Rattle.pc_components.specs.Pairs.{entry_literal}
use Rattle.pc_world_list.specs.Worlds.{WorldView}

-- the literals of the sheet's entries that aren't in the set, in the order of the entries
abbrev pub block_for : Sheet → List Entry → List Lit
block_for sheet set = map (entry_literal (cell_sizes sheet.universe)) (those_outside sheet.entries set)

-- of each set, in the order of the sets
abbrev pub blocks_for : Sheet → List WorldView → List (List Lit)
blocks_for sheet worlds = map (λ w. block_for sheet w.entries) worlds
