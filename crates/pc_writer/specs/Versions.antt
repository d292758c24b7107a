-- The law of the version in which a sheet is written.
use Rattle.std.specs.Prelude.{◌≡◌, ◌↔◌, ◌≤◌, ◌⊎◌, true, false, List, length, map, All, Contains}
use Rattle.pc_sheet.specs.Sheet.{Universe, NamedStatement, Sheet}
use Rattle.pc_sheet.specs.WellFormed.{entries_of}
use Rattle.pc_sheet.specs.declared.ids.CellId.{CellId}
use Rattle.pc_sheet.specs.declared.ids.Entry.{Entry}
use Rattle.pc_writer.specs.Counted.{rule_counts}
use Rattle.pc_writer.specs.SheetText.{also_line, enter_line, entry_lines, version}

-- some cell has two entries or more
abbrev pub HasSeveral : List Entry → Type 0
HasSeveral es = (c : CellId) × (2 ≤ length (entries_of c es))

-- each cell has one entry at most
abbrev pub HasSingle : List Entry → Type 0
HasSingle es = (c : CellId) → length (entries_of c es) ≤ 1

-- some line is an `also` line
abbrev pub HasAlso : Universe → List Entry → Type 0
HasAlso u es = (e : Entry) × Contains (entry_lines u es) (also_line u e)

-- some rule counts
abbrev pub HasCounting : List NamedStatement → Type 0
HasCounting rules = (r : NamedStatement) × Contains rules r × (rule_counts r ≡ true)

-- no rule counts
abbrev pub HasNoCounting : List NamedStatement → Type 0
HasNoCounting rules = All (λ r. rule_counts r ≡ false) rules

-- Version 2 is for two entries or more of one cell and for rules that count, and version 1 for one entry of each cell at most
-- and rules that don't. Exactly where a cell has two or more there is an `also` line, and otherwise all lines of entries are
-- `enter` lines.
pub record VersionTells (s : Sheet) : Type 0 where
  pub second : (version s ≡ 2) ↔ (HasSeveral s.entries ⊎ HasCounting s.rules)
  pub first : (version s ≡ 1) ↔ (HasSingle s.entries × HasNoCounting s.rules)
  pub later : HasSeveral s.entries ↔ HasAlso s.universe s.entries
  pub entered : HasSingle s.entries → entry_lines s.universe s.entries ≡ map (enter_line s.universe) s.entries

-- of all sheets
abbrev pub VersionsTell : Type 0
VersionsTell = (s : Sheet) → VersionTells s
