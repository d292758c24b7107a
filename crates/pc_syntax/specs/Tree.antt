-- What lines say, as plain data, and what a tree stands for.
use Rattle.std.specs.Prelude.{ℕ, ℤ, Bool, List, map}
use Rattle.pc_syntax.specs.declared.tree.Declaration.{Declaration}
use Rattle.pc_syntax.specs.declared.tree.Declaration.TheVariants as declares
use Rattle.pc_syntax.specs.declared.tree.Command.{Command}
use Rattle.pc_syntax.specs.declared.tree.Command.TheVariants as asks
use Rattle.pc_syntax.specs.declared.tree.SheetTree.{SheetTree}
pub use Rattle.pc_formula.specs.Tree.{Item, integer, named, Items, no_item, one_item, items_of, Side, Formula, for_all, exists, counting, iff, implies, or, and, not, compare, in_table, Formulas, no_part, part, parts_of}
pub use Rattle.pc_formula.specs.Tree.{Value, name_value, integer_value, Cell, item_of, side_of, formula_of, value_of, cell_of}

-- what a line of a sheet declares
pub data Declared : Type 0 where
  list_sort : List ℕ → List (List ℕ) → Declared
  range_sort : List ℕ → ℤ → ℤ → Declared
  table : List ℕ → List (List ℕ) → Declared
  row : List ℕ → List Value → Declared
  cell : List ℕ → List (List ℕ) → List ℕ → Declared
  rule : List ℕ → Formula → Declared
  enter : Cell → Value → Declared
  also : Cell → Value → Declared

-- what a command asks for
pub data Asked : Type 0 where
  asks_enter : Cell → Value → Asked
  asks_also : Cell → Value → Asked
  asks_clear : Cell → Asked
  asks_clear_one : Cell → Value → Asked
  asks_rule : List ℕ → Formula → Asked
  asks_drop : List ℕ → Asked
  asks_budget : ℕ → Asked
  asks_show : Asked
  asks_grid : Asked
  asks_json : Asked
  asks_why : Cell → Value → Bool → Asked
  asks_dump : Asked
  asks_repairs : Asked
  asks_prove_repairs : Asked
  asks_whynot : Cell → Value → Asked
  asks_ask : Formula → Asked

-- what a declaration's tree stands for
abbrev pub declared_of : Declaration → Declared
declared_of (declares.ListSort n values) = list_sort n values.items
declared_of (declares.RangeSort n low high) = range_sort n low high
declared_of (declares.Table n sorts) = table n sorts.items
declared_of (declares.Row t values) = row t (map value_of values.items)
declared_of (declares.Cell n sorts result) = cell n sorts.items result
declared_of (declares.Rule r) = rule r.name (formula_of r.formula)
declared_of (declares.Enter c v) = enter (cell_of c) (value_of v)
declared_of (declares.Also c v) = also (cell_of c) (value_of v)

-- what a command's tree stands for
abbrev pub asked_of : Command → Asked
asked_of (asks.Enter c v) = asks_enter (cell_of c) (value_of v)
asked_of (asks.Also c v) = asks_also (cell_of c) (value_of v)
asked_of (asks.Clear c) = asks_clear (cell_of c)
asked_of (asks.ClearOne c v) = asks_clear_one (cell_of c) (value_of v)
asked_of (asks.AddRule r) = asks_rule r.name (formula_of r.formula)
asked_of (asks.DropRule n) = asks_drop n
asked_of (asks.Budget n) = asks_budget n
asked_of asks.Show = asks_show
asked_of asks.Grid = asks_grid
asked_of asks.Json = asks_json
asked_of (asks.Why c v holds) = asks_why (cell_of c) (value_of v) holds
asked_of asks.Dump = asks_dump
asked_of asks.Repairs = asks_repairs
asked_of asks.ProveRepairs = asks_prove_repairs
asked_of (asks.WhyNot c v) = asks_whynot (cell_of c) (value_of v)
asked_of (asks.Ask f) = asks_ask (formula_of f)

-- the numbered declarations of a sheet's tree
abbrev pub sheet_of : SheetTree → List (ℕ × Declared)
sheet_of t = map (λ p. (p.0, declared_of p.1)) t.declarations.items
