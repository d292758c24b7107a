-- The sheets of the parts of small sheets: their maximal sets and least supports, and a part without cells that is false.
use Rattle.std.specs.Prelude.{◌≡◌, pos, List, [], ◌∷◌, map, reverse, codes}
use Rattle.pc_sheet.specs.Sheet.{number, NamedStatement, Statement, compare, Sheet}
use Rattle.pc_sheet.specs.Entailment.{IsLeastSupport}
use Rattle.pc_sheet.specs.MaximalSets.{ListsExactly, IsMaximalSet, AreRulesConsistent}
use Rattle.pc_sheet.specs.declared.ids.Entry.{Entry}
use Rattle.pc_name.specs.declared.sign.Op.TheVariants.{Eq}
use Rattle.pc_laws.specs.Examples.{red, green, colored, entry, target, cells_and_rules, equals, two_pairs}
use Rattle.pc_parts.specs.Components.{parts_of}
use Rattle.pc_parts.specs.Examples.{single}
use Rattle.pc_parts.specs.Parts.{AreParts}
use Rattle.pc_parts.specs.PartSheets.{sheet_of}

-- part by part
abbrev pub sheets_of_parts : Sheet → List Sheet
sheets_of_parts sheet = map (sheet_of sheet) (parts_of sheet)

-- a rule without a name
abbrev pub unnamed : Statement → NamedStatement
unnamed s = record { name = []; states = s }

-- ---- a = b and c = d, each entered with two values

abbrev pub first_pair : Sheet
first_pair = record { universe = two_pairs.sheet.universe; rules = unnamed (equals 0 1) ∷ []; entries = entry 0 red ∷ entry 1 green ∷ [] }

abbrev pub second_pair : Sheet
second_pair = record { universe = two_pairs.sheet.universe; rules = unnamed (equals 2 3) ∷ []; entries = entry 2 red ∷ entry 3 green ∷ [] }

-- ---- 1 = 2, of one cell: no assignment fits

abbrev pub one_is_two : Statement
one_is_two = compare (single (number (pos 1))) Eq (single (number (pos 2)))

abbrev pub false_sheet : Sheet
false_sheet = cells_and_rules (colored (codes "a") ∷ []) (record { name = codes "t"; states = one_is_two } ∷ []) []

abbrev pub free_cell : Sheet
free_cell = record false_sheet { rules = [] }

abbrev pub false_piece : Sheet
false_piece = record false_sheet { rules = unnamed one_is_two ∷ [] }

pub record WorkedPartSheets : Type 0 where
  -- each has its own rule and its own entries
  pub pairs : sheets_of_parts two_pairs.sheet ≡ first_pair ∷ second_pair ∷ []
  pub first_sets : ListsExactly (List Entry) (IsMaximalSet first_pair) ((entry 0 red ∷ []) ∷ (entry 1 green ∷ []) ∷ [])
  pub second_sets : ListsExactly (List Entry) (IsMaximalSet second_pair) ((entry 2 red ∷ []) ∷ (entry 3 green ∷ []) ∷ [])
  pub in_the_part : IsLeastSupport second_pair (entry 3 green ∷ []) (target 2 green)
  -- the part of the first cell comes first
  pub turned : ¬ AreParts two_pairs.sheet (reverse (parts_of two_pairs.sheet))
  -- the piece that reads no cell is a part behind the cell's
  pub false_parts : sheets_of_parts false_sheet ≡ free_cell ∷ false_piece ∷ []
  -- it makes the rules of the whole inconsistent, and those of the cell's part are consistent
  pub false_whole : ¬ AreRulesConsistent false_sheet
  pub false_by_itself : ¬ AreRulesConsistent false_piece
  pub other_part : AreRulesConsistent free_cell
