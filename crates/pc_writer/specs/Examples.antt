-- Four sheets, with their texts.
use Rattle.std.specs.Prelude.{◌≡◌, ℕ, pos, neg_ℤ, List, [], ◌∷◌, codes, map}
use Rattle.pc_name.specs.declared.sign.Op.TheVariants.{Eq, Ne, Lt}
use Rattle.pc_name.specs.declared.sign.Sign.TheVariants.{Plus, Minus}
use Rattle.pc_sheet.specs.Sheet.{listed, range, Family, Item, no_items, item, variable, constant, number, cell, Sum, no_more_than, no_fewer_than, Statement, no_statements, statement, compare, in_table, negation, all_of, some_of, implies, iff, for_all, counts, NamedStatement, Sheet}
use Rattle.pc_sheet.specs.declared.ids.Entry.{Entry}
use Rattle.pc_writer.specs.SheetText.{entry_lines, lines_text, rule_line, sheet_text, universe_lines}

-- a family without arguments
abbrev family : List ℕ → ℕ → Family
family name result_sort = record { name = name; sorts = []; result_sort = record { 0 = result_sort } }

-- a side of one item
abbrev single : Item → Sum
single x = record { first = x; rest = [] }

abbrev bare : ℕ → Item
bare k = cell (record { 0 = k }) no_items

-- two cells without arguments have the same value
abbrev same : ℕ → ℕ → Statement
same j k = compare (single (bare j)) Eq (single (bare k))

abbrev both : Statement → Statement → Statement
both s t = all_of (statement s (statement t no_statements))

abbrev named : List ℕ → Statement → NamedStatement
named name s = record { name = name; states = s }

abbrev entry : ℕ → ℕ → Entry
entry c v = record { cell = record { 0 = c }; value = record { 0 = v } }

-- ---- three cells of one color

abbrev pub three : Sheet
three = record {
  universe = record {
    sorts = record { name = codes "color"; values = listed (codes "red" ∷ codes "green" ∷ []) } ∷ [];
    tables = [];
    families = family (codes "a") 0 ∷ family (codes "b") 0 ∷ family (codes "c") 0 ∷ [];
  };
  rules = named (codes "ab") (same 0 1) ∷ named (codes "bc") (same 1 2) ∷ [];
  entries = entry 0 0 ∷ [];
}

abbrev pub three_lines : List (List ℕ)
three_lines =
    codes "sheet 1"
    ∷ codes "sort color = red green"
    ∷ codes "cell a : color"
    ∷ codes "cell b : color"
    ∷ codes "cell c : color"
    ∷ codes "rule ab : a = b"
    ∷ codes "rule bc : b = c"
    ∷ codes "enter a = red"
    ∷ codes "begin"
    ∷ []

-- ---- the same with two views of the last cell, between which another cell is entered

abbrev pub views : Sheet
views = record three { entries = entry 2 1 ∷ entry 0 0 ∷ entry 2 0 ∷ [] }

abbrev pub views_lines : List (List ℕ)
views_lines =
    codes "sheet 2"
    ∷ codes "sort color = red green"
    ∷ codes "cell a : color"
    ∷ codes "cell b : color"
    ∷ codes "cell c : color"
    ∷ codes "rule ab : a = b"
    ∷ codes "rule bc : b = c"
    ∷ codes "enter c = green"
    ∷ codes "enter a = red"
    ∷ codes "also c = red"
    ∷ codes "begin"
    ∷ []

-- ---- rules that count

-- a person's shift on a day
abbrev on : Item → ℕ → Statement
on x day = compare (single (cell (record { 0 = 0 }) (item x no_items))) Eq (single (constant (record { 0 = 1 }) (record { 0 = day })))

abbrev pub duties : Sheet
duties = record {
  universe = record {
    sorts = record { name = codes "p"; values = listed (codes "ann" ∷ codes "bob" ∷ codes "cho" ∷ []) } ∷ record { name = codes "d"; values = listed (codes "mon" ∷ codes "tue" ∷ []) } ∷ [];
    tables = [];
    families = record { name = codes "s"; sorts = record { 0 = 0 } ∷ []; result_sort = record { 0 = 1 } } ∷ [];
  };
  rules =
      named (codes "few") (counts (no_more_than 1) (codes "x") (record { 0 = 0 }) (on (variable 0) 0))
      ∷ named (codes "some") (negation (counts (no_fewer_than 2) (codes "x") (record { 0 = 0 }) (both (on (variable 0) 0) (counts (no_more_than 0) (codes "y") (record { 0 = 0 }) (on (variable 1) 1)))))
      ∷ [];
  entries = entry 0 0 ∷ [];
}

abbrev pub duties_lines : List (List ℕ)
duties_lines =
    codes "sheet 2"
    ∷ codes "sort p = ann bob cho"
    ∷ codes "sort d = mon tue"
    ∷ codes "cell s(p) : d"
    ∷ codes "rule few : atmost 1 x:p . s(x) = mon"
    ∷ codes "rule some : !(atleast 2 x:p . s(x) = mon & (atmost 0 y:p . s(y) = tue))"
    ∷ codes "enter s(ann) = mon"
    ∷ codes "begin"
    ∷ []

-- ---- a range, a table with rows, arguments, quantifiers, sums and nested parts

-- the family at an argument
abbrev shift : Item → Item
shift x = cell (record { 0 = 0 }) (item x no_items)

abbrev linked : Statement
linked =
    for_all (codes "x") (record { 0 = 0 }) (for_all (codes "y") (record { 0 = 0 }) (
    implies (in_table (record { 0 = 0 }) (item (variable 0) (item (variable 1) no_items))) (compare (single (shift (variable 0))) Eq (single (shift (variable 1))))))

-- a value of the range
abbrev place : ℕ → Item
place v = constant (record { 0 = 0 }) (record { 0 = v })

abbrev sums : Statement
sums = compare
    (record { first = bare 1; rest = (Minus, bare 2) ∷ (Plus, number (neg_ℤ (pos 1))) ∷ [] })
    Lt
    (record { first = shift (place 3); rest = (Plus, number (pos 1)) ∷ [] })

abbrev nested : Statement
nested = all_of (statement (both (same 1 2) (same 2 3)) (statement (same 1 3) no_statements))

abbrev flat : Statement
flat = all_of (statement (same 1 2) (statement (same 2 3) (statement (same 1 3) no_statements)))

-- the red value of the other sort
abbrev red : Item
red = constant (record { 0 = 1 }) (record { 0 = 0 })

abbrev arrows : Statement
arrows = iff
    (implies (implies (same 1 2) (same 2 3)) (same 1 3))
    (negation (some_of (statement (same 1 2) (statement (compare (single (bare 4)) Ne (single red)) no_statements))))

abbrev pub tour : Sheet
tour = record {
  universe = record {
    sorts = record { name = codes "p"; values = range (neg_ℤ (pos 1)) (pos 2) } ∷ record { name = codes "color"; values = listed (codes "red" ∷ codes "green" ∷ []) } ∷ [];
    tables = record { name = codes "pair"; sorts = record { 0 = 0 } ∷ record { 0 = 0 } ∷ []; rows = (record { 0 = 0 } ∷ record { 0 = 1 } ∷ []) ∷ (record { 0 = 1 } ∷ record { 0 = 3 } ∷ []) ∷ [] } ∷ [];
    families =
        record { name = codes "shift"; sorts = record { 0 = 0 } ∷ []; result_sort = record { 0 = 0 } }
        ∷ family (codes "a") 0
        ∷ family (codes "b") 0
        ∷ family (codes "c") 0
        ∷ family (codes "tint") 1
        ∷ [];
  };
  rules = named (codes "linked") linked ∷ named (codes "sums") sums ∷ named (codes "nested") nested ∷ named (codes "flat") flat ∷ named (codes "arrows") arrows ∷ [];
  entries = entry 7 0 ∷ entry 1 0 ∷ [];
}

abbrev pub tour_universe : List (List ℕ)
tour_universe =
    codes "sort p = -1 .. 2"
    ∷ codes "sort color = red green"
    ∷ codes "table pair(p, p)"
    ∷ codes "row pair(-1, 0)"
    ∷ codes "row pair(0, 2)"
    ∷ codes "cell shift(p) : p"
    ∷ codes "cell a : p"
    ∷ codes "cell b : p"
    ∷ codes "cell c : p"
    ∷ codes "cell tint : color"
    ∷ []

abbrev pub tour_rules : List (List ℕ)
tour_rules =
    codes "rule linked : forall x:p . forall y:p . pair(x, y) -> shift(x) = shift(y)"
    ∷ codes "rule sums : a - b + -1 < shift(2) + 1"
    ∷ codes "rule nested : (a = b & b = c) & a = c"
    ∷ codes "rule flat : a = b & b = c & a = c"
    ∷ codes "rule arrows : (a = b -> b = c) -> a = c <-> !(a = b | tint != red)"
    ∷ []

abbrev pub tour_entries : List (List ℕ)
tour_entries = codes "enter tint = red" ∷ codes "enter shift(0) = -1" ∷ []

-- the texts of the four sheets are these lines
pub record TextsAreWorked : Type 0 where
  pub of_three : sheet_text three ≡ lines_text three_lines
  pub of_views : sheet_text views ≡ lines_text views_lines
  pub of_duties : sheet_text duties ≡ lines_text duties_lines
  pub universe_of_tour : universe_lines tour.universe ≡ tour_universe
  pub rules_of_tour : map (rule_line tour.universe) tour.rules ≡ tour_rules
  pub entries_of_tour : entry_lines tour.universe tour.entries ≡ tour_entries
