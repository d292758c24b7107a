-- The generated sheet of n blocks, as a plain value.
use Rattle.std.specs.Prelude.{ℕ, zero, suc, pos, ◌+◌, ◌*◌, ◌%◌, List, [], ◌∷◌, ◌++◌, codes}
use Rattle.pc_name.specs.declared.sign.Op.TheVariants.{Eq, Ne}
use Rattle.pc_sheet.specs.Sheet.{listed, range, Universe, no_items, item, variable, constant, cell, Sum, Statement, no_statements, statement, compare, all_of, for_all, NamedStatement, Sheet}
use Rattle.pc_sheet.specs.declared.ids.SortId.{SortId}
use Rattle.pc_sheet.specs.declared.ids.Entry.{Entry}

-- ---- cells

-- the sort of that number: 0 is of blocks, 1 of slots, 2 of colors
abbrev pub sort : ℕ → SortId
sort k = record { 0 = k }

-- a block has four slots, and each slot of each block one of three colors
abbrev pub generated_universe : ℕ → Universe
generated_universe n = record {
  sorts =
      record { name = codes "block"; values = range (pos 1) (pos n) }
      ∷ record { name = codes "slot"; values = range (pos 1) (pos 4) }
      ∷ record { name = codes "color"; values = listed (codes "red" ∷ codes "green" ∷ codes "blue" ∷ []) }
      ∷ [];
  tables = [];
  families = record { name = codes "x"; sorts = sort 0 ∷ sort 1 ∷ []; result_sort = sort 2 } ∷ [];
}

-- ---- rules

-- the cell of the quantified block in the slot of that place
abbrev pub in_slot : ℕ → Sum
in_slot k = record { first = cell (record { 0 = 0 }) (item (variable 0) (item (constant (sort 1) (record { 0 = k })) no_items)); rest = [] }

-- for each block
abbrev pub each_block : Statement → Statement
each_block s = for_all (codes "b") (sort 0) s

abbrev pub same : ℕ → ℕ → Statement
same j k = compare (in_slot j) Eq (in_slot k)

-- the first three cells of a block have one color
abbrev pub chain : NamedStatement
chain = record { name = codes "chain"; states = each_block (all_of (statement (same 0 1) (statement (same 1 2) no_statements))) }

-- the third and the fourth have two
abbrev pub other : NamedStatement
other = record { name = codes "other"; states = each_block (compare (in_slot 2) Ne (in_slot 3)) }

-- ---- entries

abbrev pub entry : ℕ → ℕ → Entry
entry c v = record { cell = record { 0 = c }; value = record { 0 = v } }

-- of the block of number k + 1, whose cells are those from 4k on
abbrev pub block_entries : ℕ → List Entry
block_entries k = entry (4 * k) (suc k % 3) ∷ entry (4 * k + 2) (suc k * suc k % 3) ∷ []

-- of the first n blocks
abbrev pub generated_entries : ℕ → List Entry
generated_entries zero = []
generated_entries (suc k) = generated_entries k ++ block_entries k

abbrev pub generated_sheet : ℕ → Sheet
generated_sheet n = record { universe = generated_universe n; rules = chain ∷ other ∷ []; entries = generated_entries n }
