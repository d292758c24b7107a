-- Small sheets with the reasons that they have, and their displays.
use Rattle.std.specs.Prelude.{◌≡◌, ℕ, pos, negsuc, Bool, true, false, ◌&&◌, List, [], ◌∷◌, ◌++◌, codes, None, Some, nat_eq, if◌then◌else◌, encode_utf8_all}
use Rattle.std.specs.List.{flat_map}
use Rattle.pc_sheet.specs.Sheet.{listed, range, Sort, Family, Sheet}
use Rattle.pc_sheet.specs.declared.ids.Entry.{Entry}
use Rattle.pc_sheet.specs.declared.ids.Target.{Target}
use Rattle.pc_display.specs.Supports.{Reasoning}
use Rattle.pc_display.specs.Show.{show_text}
use Rattle.pc_writer.specs.SheetText.{ended}
use Rattle.pc_display.specs.Grid.{grid_text}
use Rattle.pc_display.specs.Json.{json_text}

-- ---- their parts

abbrev pub color : Sort
color = record { name = codes "color"; values = listed (codes "red" ∷ codes "green" ∷ []) }

-- a cell of the first sort
abbrev pub plain_cell : List ℕ → Family
plain_cell name = record { name = name; sorts = []; result_sort = record { 0 = 0 } }

-- entries and targets by numbers of cells and values
abbrev pub entry : ℕ → ℕ → Entry
entry c v = record { cell = record { 0 = c }; value = record { 0 = v } }

abbrev pub has : ℕ → ℕ → Target
has c v = record { cell = record { 0 = c }; value = record { 0 = v }; holds = true }

abbrev pub lacks : ℕ → ℕ → Target
lacks c v = record { cell = record { 0 = c }; value = record { 0 = v }; holds = false }

-- a sheet of colored cells, with these entries
abbrev pub colored : List (List ℕ) → List Entry → Sheet
colored names es = record {
  universe = record { sorts = color ∷ []; tables = []; families = flat_map (λ name. plain_cell name ∷ []) names };
  rules = [];
  entries = es;
}

abbrev pub same_sign : Bool → Bool → Bool
same_sign true b = b
same_sign false true = false
same_sign false false = true

abbrev pub is_same : Target → Target → Bool
is_same s t = (nat_eq s.cell.0 t.cell.0 && nat_eq s.value.0 t.value.0) && same_sign s.holds t.holds

-- the reasons in a list, and none for other targets
abbrev pub listed_reasons : List (Target × List Entry) → Reasoning
listed_reasons [] t = None
listed_reasons (r ∷ rs) t = if is_same r.0 t then Some r.1 else listed_reasons rs t

abbrev pub lines : List (List ℕ) → List ℕ
lines ls = flat_map ended ls

-- ---- displays

-- a cell of a sort with one value, and nothing entered
abbrev pub one_value : Sheet
one_value = record {
  universe = record { sorts = record { name = codes "one"; values = listed (codes "v" ∷ []) } ∷ []; tables = []; families = plain_cell (codes "a") ∷ [] };
  rules = [];
  entries = [];
}

-- three equal cells, the first red and the last green
abbrev pub a_is_red : List Entry
a_is_red = entry 0 0 ∷ []

abbrev pub c_is_green : List Entry
c_is_green = entry 2 1 ∷ []

abbrev pub clash : Sheet
clash = colored (codes "a" ∷ codes "b" ∷ codes "c" ∷ []) (entry 0 0 ∷ entry 2 1 ∷ [])

abbrev pub clash_reasons : Reasoning
clash_reasons =
    listed_reasons (
    (has 0 0, a_is_red) ∷ (has 0 1, c_is_green) ∷ (has 1 0, a_is_red) ∷ (has 1 1, c_is_green) ∷ (has 2 0, a_is_red) ∷ (has 2 1, c_is_green)
    ∷ (lacks 0 0, c_is_green) ∷ (lacks 2 1, a_is_red) ∷ []
    )

-- a red cell that the rules want green
abbrev pub against_rules : Sheet
against_rules = colored (codes "a" ∷ []) (entry 0 0 ∷ [])

abbrev pub against_rules_reasons : Reasoning
against_rules_reasons = listed_reasons ((has 0 1, []) ∷ (lacks 0 0, []) ∷ [])

-- three cells, of which two that are red make the third one red
abbrev pub two_entries : Sheet
two_entries = colored (codes "a" ∷ codes "b" ∷ codes "c" ∷ []) (entry 0 0 ∷ entry 1 0 ∷ [])

abbrev pub two_entries_reasons : Reasoning
two_entries_reasons = listed_reasons ((has 0 0, entry 0 0 ∷ []) ∷ (has 1 0, entry 1 0 ∷ []) ∷ (has 2 0, entry 0 0 ∷ entry 1 0 ∷ []) ∷ [])

-- three equal cells, of which the first has two views
abbrev pub two_views : Sheet
two_views = colored (codes "a" ∷ codes "b" ∷ codes "c" ∷ []) (entry 0 0 ∷ entry 0 1 ∷ [])

abbrev pub a_is_green : List Entry
a_is_green = entry 0 1 ∷ []

abbrev pub two_views_reasons : Reasoning
two_views_reasons =
    listed_reasons (
    (has 0 0, a_is_red) ∷ (has 0 1, a_is_green) ∷ (has 1 0, a_is_red) ∷ (has 1 1, a_is_green) ∷ (has 2 0, a_is_red) ∷ (has 2 1, a_is_green)
    ∷ (lacks 0 0, a_is_green) ∷ (lacks 0 1, a_is_red) ∷ []
    )

-- a cell that is entered as green first, and then as red too, with an entry of another cell between the two
abbrev pub green_and_red : Sheet
green_and_red = colored (codes "a" ∷ codes "b" ∷ []) (entry 0 1 ∷ entry 1 0 ∷ entry 0 0 ∷ [])

-- where the rules want the first cell red, the view that it is green clashes, and the other one doesn't
abbrev pub rules_want_red : Reasoning
rules_want_red = listed_reasons ((has 0 0, []) ∷ (lacks 0 1, []) ∷ (has 1 0, entry 1 0 ∷ []) ∷ [])

-- where they contradict each other nothing is implied, so nothing clashes
abbrev pub nothing_implied : Reasoning
nothing_implied = listed_reasons []

-- a number of each person and each number from -1 to 1, where f(ann, 1) = -1 is entered
abbrev pub numbers_of_persons : Sheet
numbers_of_persons = record {
  universe = record {
    sorts = record { name = codes "person"; values = listed (codes "ann" ∷ codes "bob" ∷ []) } ∷ record { name = codes "n"; values = range (negsuc 0) (pos 1) } ∷ [];
    tables = [];
    families = record { name = codes "f"; sorts = record { 0 = 0 } ∷ record { 0 = 1 } ∷ []; result_sort = record { 0 = 1 } } ∷ [];
  };
  rules = [];
  entries = entry 2 0 ∷ [];
}

pub record DisplaysAreThese : Type 0 where
  -- what has one value only is so always
  pub always : show_text one_value (listed_reasons ((has 0 0, []) ∷ [])) ≡ lines (codes "a : -" ∷ codes "  = v always" ∷ [])
  -- two entries that clash
  pub clashing : show_text clash clash_reasons
      ≡ lines (
      codes "a : red !" ∷ codes "  = red because a = red" ∷ codes "  = green because c = green" ∷ codes "  ! against c = green"
      ∷ codes "b : -" ∷ codes "  = red because a = red" ∷ codes "  = green because c = green"
      ∷ codes "c : green !" ∷ codes "  = red because a = red" ∷ codes "  = green because c = green" ∷ codes "  ! against a = red" ∷ []
      )
  -- an entry that the rules alone are against
  pub without_rules : show_text against_rules against_rules_reasons
      ≡ lines (codes "a : red !" ∷ codes "  = green always" ∷ codes "  ! against the rules" ∷ [])
  -- two views of one cell
  pub views : show_text two_views two_views_reasons
      ≡ lines (
      codes "a : red, green !" ∷ codes "  = red because a = red" ∷ codes "  = green because a = green" ∷ codes "  ! red against a = green" ∷ codes "  ! green against a = red"
      ∷ codes "b : -" ∷ codes "  = red because a = red" ∷ codes "  = green because a = green"
      ∷ codes "c : -" ∷ codes "  = red because a = red" ∷ codes "  = green because a = green" ∷ []
      )
  -- of which the oldest one clashes with the rules alone
  pub one_view : show_text green_and_red rules_want_red
      ≡ lines (
      codes "a : green, red !" ∷ codes "  = red always" ∷ codes "  ! green against the rules" ∷ codes "b : red" ∷ codes "  = red because b = red" ∷ []
      )
  -- of which none does
  pub no_view : show_text green_and_red nothing_implied ≡ lines (codes "a : green, red" ∷ codes "b : red" ∷ [])
  -- a reason of two entries
  pub two_of_them : show_text two_entries two_entries_reasons
      ≡ lines (
      codes "a : red" ∷ codes "  = red because a = red" ∷ codes "b : red" ∷ codes "  = red because b = red" ∷ codes "c : -" ∷ codes "  = red because a = red, b = red" ∷ []
      )
  -- cells by their arguments, the first slowest, and values of a range by their numbers
  pub arguments : show_text numbers_of_persons (listed_reasons ((has 2 0, entry 2 0 ∷ []) ∷ (has 5 1, entry 2 0 ∷ []) ∷ []))
      ≡ lines (
      codes "f(ann, -1) : -" ∷ codes "f(ann, 0) : -" ∷ codes "f(ann, 1) : -1" ∷ codes "  = -1 because f(ann, 1) = -1"
      ∷ codes "f(bob, -1) : -" ∷ codes "f(bob, 0) : -" ∷ codes "f(bob, 1) : -" ∷ codes "  = 0 because f(ann, 1) = -1" ∷ []
      )

-- ---- tables

-- a name by its characters
abbrev pub spelled : List ℕ → List ℕ
spelled characters = encode_utf8_all characters

-- cells whose names have characters of one byte and column, of two columns, of none, and of more bytes than columns
abbrev pub many_widths : Sheet
many_widths = record {
  universe = record {
    sorts = record { name = codes "f"; values = listed (codes "rot" ∷ spelled (codes "grün") ∷ spelled (codes "赤") ∷ []) } ∷ [];
    tables = [];
    families = flat_map (λ name. plain_cell name ∷ []) (codes "plain" ∷ spelled (codes "wände") ∷ spelled (codes "名前") ∷ spelled (codes "café") ∷ spelled (codes "한") ∷ []);
  };
  rules = [];
  entries = entry 1 1 ∷ entry 2 2 ∷ [];
}

abbrev pub many_widths_reasons : Reasoning
many_widths_reasons = listed_reasons ((has 1 1, entry 1 1 ∷ []) ∷ (has 2 2, entry 2 2 ∷ []) ∷ (has 4 0, []) ∷ (has 4 2, entry 2 2 ∷ []) ∷ [])

pub record GridsAreThese : Type 0 where
  pub always : grid_text one_value (listed_reasons ((has 0 0, []) ∷ [])) ≡ lines (codes "a  -     v" ∷ [])
  pub clashing : grid_text clash clash_reasons ≡ lines (codes "a  red    !  red, green" ∷ codes "b  -         red, green" ∷ codes "c  green  !  red, green" ∷ [])
  pub without_rules : grid_text against_rules against_rules_reasons ≡ lines (codes "a  red  !  green" ∷ [])
  pub views : grid_text two_views two_views_reasons
      ≡ lines (codes "a  red, green  !  red, green" ∷ codes "b  -              red, green" ∷ codes "c  -              red, green" ∷ [])
  pub one_view : grid_text green_and_red rules_want_red ≡ lines (codes "a  green, red  !  red" ∷ codes "b  red            red" ∷ [])
  pub no_view : grid_text green_and_red nothing_implied ≡ lines (codes "a  green, red     -" ∷ codes "b  red            -" ∷ [])
  pub arguments : grid_text numbers_of_persons (listed_reasons ((has 2 0, entry 2 0 ∷ []) ∷ (has 5 1, entry 2 0 ∷ []) ∷ []))
      ≡ lines (
      codes "f(ann, -1)  -      -" ∷ codes "f(ann, 0)   -      -" ∷ codes "f(ann, 1)   -1     -1"
      ∷ codes "f(bob, -1)  -      -" ∷ codes "f(bob, 0)   -      -" ∷ codes "f(bob, 1)   -      0" ∷ []
      )
  -- two bytes in one column, three in two, three in one, and nine in two
  pub wide : grid_text many_widths many_widths_reasons
      ≡ spelled (lines (
      codes "plain  -        -" ∷ codes "wände  grün     grün" ∷ codes "名前   赤       赤"
      ∷ codes "café   -        -" ∷ codes "한     -        rot, 赤" ∷ []
      ))

-- ---- JSON

pub record JsonTextsAreThese : Type 0 where
  -- nothing is entered, so nothing clashes
  pub always : json_text one_value (listed_reasons ((has 0 0, []) ∷ []))
      ≡ codes "[{\"cell\":\"a\",\"conflict\":null,\"entry\":null,\"implied\":[{\"because\":[],\"value\":\"v\"}]}]"
  pub without_rules : json_text against_rules against_rules_reasons
      ≡ codes "[{\"cell\":\"a\",\"conflict\":[],\"entry\":\"red\",\"implied\":[{\"because\":[],\"value\":\"green\"}]}]"
  pub two_of_them : json_text two_entries two_entries_reasons
      ≡ codes "[{\"cell\":\"a\",\"conflict\":null,\"entry\":\"red\",\"implied\":[{\"because\":[\"a = red\"],\"value\":\"red\"}]},"
      ++ (codes "{\"cell\":\"b\",\"conflict\":null,\"entry\":\"red\",\"implied\":[{\"because\":[\"b = red\"],\"value\":\"red\"}]},"
      ++ codes "{\"cell\":\"c\",\"conflict\":null,\"entry\":null,\"implied\":[{\"because\":[\"a = red\",\"b = red\"],\"value\":\"red\"}]}]")
  pub clashing : json_text (colored (codes "a" ∷ codes "b" ∷ []) (entry 0 0 ∷ entry 1 1 ∷ [])) (listed_reasons ((has 0 0, a_is_red) ∷ (has 0 1, entry 1 1 ∷ []) ∷ (lacks 0 0, entry 1 1 ∷ []) ∷ []))
      ≡ codes "[{\"cell\":\"a\",\"conflict\":[\"b = green\"],\"entry\":\"red\",\"implied\":[{\"because\":[\"a = red\"],\"value\":\"red\"},{\"because\":[\"b = green\"],\"value\":\"green\"}]},"
      ++ codes "{\"cell\":\"b\",\"conflict\":null,\"entry\":\"green\",\"implied\":[]}]"
  -- two views of one cell: each clashes, the oldest alone, none
  pub each_view : json_text (colored (codes "a" ∷ []) (entry 0 1 ∷ entry 0 0 ∷ [])) two_views_reasons
      ≡ codes "[{\"cell\":\"a\",\"conflict\":[[\"a = red\"],[\"a = green\"]],\"entry\":[\"green\",\"red\"],"
      ++ codes "\"implied\":[{\"because\":[\"a = red\"],\"value\":\"red\"},{\"because\":[\"a = green\"],\"value\":\"green\"}]}]"
  pub one_view : json_text (colored (codes "a" ∷ []) (entry 0 1 ∷ entry 0 0 ∷ [])) rules_want_red
      ≡ codes "[{\"cell\":\"a\",\"conflict\":[[],null],\"entry\":[\"green\",\"red\"],\"implied\":[{\"because\":[],\"value\":\"red\"}]}]"
  pub no_view : json_text (colored (codes "a" ∷ []) (entry 0 1 ∷ entry 0 0 ∷ [])) nothing_implied
      ≡ codes "[{\"cell\":\"a\",\"conflict\":[null,null],\"entry\":[\"green\",\"red\"],\"implied\":[]}]"
  -- of a sheet without cells
  pub nothing : json_text (colored [] []) (listed_reasons []) ≡ codes "[]"
