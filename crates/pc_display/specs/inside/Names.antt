-- How wide the names of families are.
use Rattle.std.specs.Prelude.{◌≡◌, ◌≤◌, ℕ, Option, slice_get}
use Rattle.pc_sheet.specs.Sheet.{Family, Universe}
use Rattle.pc_writer.specs.Spelling.{name_of}
use Rattle.pc_display.specs.Grid.{columns}
use Rattle.pc_display.specs.declared.columns.NameColumns.{NameColumns}

-- the family's name takes so many columns
pub record IsAsWide (family : Option Family) (n : ℕ) : Type 0 where
  pub exact : n ≡ columns (name_of family)
  pub few : n ≤ 8388608

-- the family is named by so many columns
abbrev pub IsNamedSo : Universe → NameColumns → Type 0
IsNamedSo u n = IsAsWide (slice_get u.families n.family.0) n.columns
