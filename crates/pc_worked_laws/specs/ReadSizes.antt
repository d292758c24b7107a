-- What formulas read of a small sheet.
use Rattle.std.specs.Prelude.{[], ◌∷◌, codes}
use Rattle.pc_sheet.specs.Sheet.{Sheet}
use Rattle.pc_laws.specs.Examples.{red, green, colored, entry, cells_and_rules, equals, is_color}
use Rattle.pc_ask.specs.Asking.{AreReadSizes}
use Rattle.pc_worked_laws.specs.PartSheets.{one_is_two}

-- a = b, where a is entered as red and b as green; c, which is entered as red; and d, which isn't entered
abbrev pub three_parts : Sheet
three_parts = cells_and_rules (colored (codes "a") ∷ colored (codes "b") ∷ colored (codes "c") ∷ colored (codes "d") ∷ [])
    (record { name = codes "ab"; states = equals 0 1 } ∷ []) (entry 0 red ∷ entry 1 green ∷ entry 2 red ∷ [])

-- how many entries, and how many ways to choose sets
pub record WorkedReadSizes : Type 0 where
  -- a = red: the entry on b, which is tied to a, counts too, and that on c doesn't
  pub one_part : AreReadSizes three_parts (is_color 0 red) 2 2
  pub of_its_cell : ¬ AreReadSizes three_parts (is_color 0 red) 1 2
  pub of_all_cells : ¬ AreReadSizes three_parts (is_color 0 red) 3 2
  -- a = c: the product of two sets and one, and not the sum
  pub two_parts : AreReadSizes three_parts (equals 0 2) 3 2
  pub by_sum : ¬ AreReadSizes three_parts (equals 0 2) 3 3
  -- c = d: what has no entry changes nothing
  pub blank_part : AreReadSizes three_parts (equals 2 3) 1 1
  -- d = red, and 1 = 2, which reads nothing: one way, and not none
  pub blank_part_alone : AreReadSizes three_parts (is_color 3 red) 0 1
  pub no_cell : AreReadSizes three_parts one_is_two 0 1
  pub no_way : ¬ AreReadSizes three_parts one_is_two 0 0
