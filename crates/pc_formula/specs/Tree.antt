-- Formulas, cells and values, as plain data, and what a tree stands for.
use Rattle.std.specs.Prelude.{ℕ, ℤ, Bool, List, [], ◌∷◌, map}
use Rattle.pc_name.specs.declared.sign.Op.{Op}
use Rattle.pc_name.specs.declared.sign.Sign.{Sign}
use Rattle.pc_formula.specs.declared.tree.ValueTree.{ValueTree}
use Rattle.pc_formula.specs.declared.tree.CellTree.{CellTree}
use Rattle.pc_formula.specs.declared.tree.SideTree.{SideTree}
use Rattle.pc_formula.specs.declared.tree.ItemTree.{ItemTree}
use Rattle.pc_formula.specs.declared.tree.ItemTree.TheOpen.{ItemTree-F}
use Rattle.pc_formula.specs.declared.tree.ItemTree.TheFolds.{fold-ItemTree}
use Rattle.pc_formula.specs.declared.tree.FormulaTree.{FormulaTree}
use Rattle.pc_formula.specs.declared.tree.FormulaTree.TheOpen.{FormulaTree-F}
use Rattle.pc_formula.specs.declared.tree.FormulaTree.TheFolds.{fold-FormulaTree}

mutual
  -- an integer, or a name with its arguments
  pub data Item : Type 0 where
    integer : ℤ → Item
    named : List ℕ → Items → Item

  -- the arguments of a name
  pub data Items : Type 0 where
    no_item : Items
    one_item : Item → Items → Items

-- a list of items as arguments
abbrev pub items_of : List Item → Items
items_of [] = no_item
items_of (i ∷ is) = one_item i (items_of is)

-- a side of a comparison: its first item, and each further one with the sign before it
pub record Side : Type 0 where
  pub first : Item
  pub rest : List (Sign × Item)

mutual
  -- a formula as it is written
  pub data Formula : Type 0 where
    for_all : List ℕ → List ℕ → Formula → Formula
    exists : List ℕ → List ℕ → Formula → Formula
    -- at most, or else at least, so many values
    counting : Bool → ℤ → List ℕ → List ℕ → Formula → Formula
    iff : Formula → Formula → Formula
    implies : Formula → Formula → Formula
    or : Formulas → Formula
    and : Formulas → Formula
    not : Formula → Formula
    compare : Side → Op → Side → Formula
    in_table : List ℕ → List Item → Formula

  -- the parts of an `and` or an `or`
  pub data Formulas : Type 0 where
    no_part : Formulas
    part : Formula → Formulas → Formulas

-- a list of formulas as parts
abbrev pub parts_of : List Formula → Formulas
parts_of [] = no_part
parts_of (f ∷ fs) = part f (parts_of fs)

-- a value as it is written
pub data Value : Type 0 where
  name_value : List ℕ → Value
  integer_value : ℤ → Value

-- a cell as it is written: a family and its arguments
pub record Cell : Type 0 where
  pub name : List ℕ
  pub args : List Value

-- one level of an item, with each argument already seen as its item
abbrev pub item_step : ItemTree-F Item → Item
item_step (ItemTree-F.Number n) = integer n
item_step (ItemTree-F.Named name args) = named name (items_of args.items)

-- the item that a tree stands for
abbrev pub item_of : ItemTree → Item
item_of = fold-ItemTree Item item_step

-- an added item with the sign before it
abbrev pub added_of : Sign × ItemTree → Sign × Item
added_of p = (p.0, item_of p.1)

-- the side that a tree stands for
abbrev pub side_of : SideTree → Side
side_of t = record { first = item_of t.first; rest = map added_of t.rest.items }

-- one level of a formula, with each part already seen as its formula
abbrev pub formula_step : FormulaTree-F Formula → Formula
formula_step (FormulaTree-F.ForAll name sort body) = for_all name sort body.value
formula_step (FormulaTree-F.Exists name sort body) = exists name sort body.value
formula_step (FormulaTree-F.Count at_most bound name sort body) = counting at_most bound name sort body.value
formula_step (FormulaTree-F.Iff a b) = iff a.value b.value
formula_step (FormulaTree-F.Implies a b) = implies a.value b.value
formula_step (FormulaTree-F.Or v) = or (parts_of v.items)
formula_step (FormulaTree-F.And v) = and (parts_of v.items)
formula_step (FormulaTree-F.Not a) = not a.value
formula_step (FormulaTree-F.Compare left op right) = compare (side_of left) op (side_of right)
formula_step (FormulaTree-F.InTable name args) = in_table name (map item_of args.items)

-- the formula that a tree stands for
abbrev pub formula_of : FormulaTree → Formula
formula_of = fold-FormulaTree Formula formula_step

-- the value that a tree stands for
abbrev pub value_of : ValueTree → Value
value_of (ValueTree.Name n) = name_value n
value_of (ValueTree.Number n) = integer_value n

-- the cell that a tree stands for
abbrev pub cell_of : CellTree → Cell
cell_of t = record { name = t.name; args = map value_of t.args.items }
