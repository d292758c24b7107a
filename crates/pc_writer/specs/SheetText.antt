-- The canonical text of a sheet, line by line.
use Rattle.std.specs.Prelude.{ℕ, Bool, List, [], ◌∷◌, ◌++◌, ◌||◌, codes, length, map, nat_le, if◌then◌else◌}
use Rattle.std.specs.List.{flat_map, list_any}
use Rattle.std.specs.Fmt.{signed_decimal}
use Rattle.pc_sheet.specs.Sheet.{Values, listed, range, Sort, Table, Family, Universe, NamedStatement, Sheet}
use Rattle.pc_sheet.specs.declared.ids.ValueId.{ValueId}
use Rattle.pc_sheet.specs.WellFormed.{is_of_cell, entries_of}
use Rattle.pc_sheet.specs.declared.ids.Entry.{Entry}
use Rattle.pc_writer.specs.Spelling.{value_texts, entry_text}
use Rattle.pc_writer.specs.Counted.{has_counting}
use Rattle.pc_writer.specs.FormulaText.{parenthesized, in_parentheses, sort_name, statement_text}

-- ---- lines

-- a name behind a space
abbrev pub spaced : List ℕ → List ℕ
spaced name = codes " " ++ name

-- what stands behind a sort's `=`
abbrev pub values_text : Values → List ℕ
values_text (listed names) = flat_map spaced names
values_text (range low high) = codes " " ++ (signed_decimal low ++ (codes " .. " ++ signed_decimal high))

abbrev pub sort_line : Sort → List ℕ
sort_line s = codes "sort " ++ (s.name ++ (codes " =" ++ values_text s.values))

abbrev pub table_line : Universe → Table → List ℕ
table_line u t = codes "table " ++ (t.name ++ in_parentheses (map (sort_name u) t.sorts))

abbrev pub row_line : Universe → Table → List ValueId → List ℕ
row_line u t row = codes "row " ++ (t.name ++ parenthesized (value_texts u t.sorts row))

abbrev pub row_lines : Universe → Table → List (List ℕ)
row_lines u t = map (row_line u t) t.rows

abbrev pub family_line : Universe → Family → List ℕ
family_line u f = codes "cell " ++ (f.name ++ (in_parentheses (map (sort_name u) f.sorts) ++ (codes " : " ++ sort_name u f.result_sort)))

abbrev pub rule_line : Universe → NamedStatement → List ℕ
rule_line u r = codes "rule " ++ (r.name ++ (codes " : " ++ statement_text u [] r.states))

abbrev pub enter_line : Universe → Entry → List ℕ
enter_line u e = codes "enter " ++ entry_text u e

abbrev pub also_line : Universe → Entry → List ℕ
also_line u e = codes "also " ++ entry_text u e

-- ---- entries

-- an older entry is of its cell
abbrev pub is_later : List Entry → Entry → Bool
is_later older e = list_any (is_of_cell e.cell) older

-- the first entry of a cell is entered, and a later one stands beside it
abbrev pub entry_line : Universe → List Entry → Entry → List ℕ
entry_line u older e = if is_later older e then also_line u e else enter_line u e

-- each with what is before it, where these come first
abbrev pub each_behind : {A B : Type 0} → (List A → A → B) → List A → List A → List B
each_behind f before [] = []
each_behind f before (x ∷ xs) = f before x ∷ each_behind f (before ++ x ∷ []) xs

abbrev pub entry_lines : Universe → List Entry → List (List ℕ)
entry_lines u es = each_behind (entry_line u) [] es

-- ---- the version

-- some cell has two entries or more
abbrev pub has_several : List Entry → Bool
has_several es = list_any (λ e. nat_le 2 (length (entries_of e.cell es))) es

-- or some rule counts
abbrev pub needs_second : Sheet → Bool
needs_second s = has_several s.entries || has_counting s.rules

-- the first one in which the sheet can be written
abbrev pub version : Sheet → ℕ
version s = if needs_second s then 2 else 1

abbrev pub heading_line : Sheet → List ℕ
heading_line s = if needs_second s then codes "sheet 2" else codes "sheet 1"

-- ---- the sheet

-- all sorts, all tables, the rows table by table, and all families
abbrev pub universe_lines : Universe → List (List ℕ)
universe_lines u = map sort_line u.sorts ++ (map (table_line u) u.tables ++ (flat_map (row_lines u) u.tables ++ map (family_line u) u.families))

-- the version, the universe, all rules, all entries with the oldest first, and the end
abbrev pub sheet_lines : Sheet → List (List ℕ)
sheet_lines s =
    heading_line s ∷ (universe_lines s.universe ++ (map (rule_line s.universe) s.rules ++ (entry_lines s.universe s.entries ++ codes "begin" ∷ [])))

-- a line with its end
abbrev pub ended : List ℕ → List ℕ
ended line = line ++ 10 ∷ []

abbrev pub lines_text : List (List ℕ) → List ℕ
lines_text lines = flat_map ended lines

abbrev pub sheet_text : Sheet → List ℕ
sheet_text s = lines_text (sheet_lines s)
