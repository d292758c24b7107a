-- Items of which each name is declared: what can be written.
use Rattle.std.specs.Prelude.{ℕ, ◌<◌, length, All}
use Rattle.pc_sheet.specs.Sheet.{Universe, Item, Items, no_items, item, variable, constant, number, cell, Sum}
use Rattle.pc_sheet.specs.Sizes.{size_of}
use Rattle.pc_name.specs.declared.sign.Sign.{Sign}

-- under that many enclosing variables
abbrev mutual
  pub IsWritable : Universe → ℕ → Item → Type 0
  IsWritable u n (variable k) = k < n
  IsWritable u n (constant s v) = v.0 < size_of u s
  IsWritable u n (number z) = Unit {0}
  IsWritable u n (cell f xs) = (f.0 < length u.families) × AreWritable u n xs

  pub AreWritable : Universe → ℕ → Items → Type 0
  AreWritable u n no_items = Unit {0}
  AreWritable u n (item x xs) = IsWritable u n x × AreWritable u n xs

abbrev pub IsWritablePart : Universe → ℕ → Sign × Item → Type 0
IsWritablePart u n x = IsWritable u n x.1

abbrev pub IsWritableSum : Universe → ℕ → Sum → Type 0
IsWritableSum u n s = IsWritable u n s.first × All (IsWritablePart u n) s.rest
