-- The formula of a tree, level by level.
use Rattle.std.proofs.Common.{◌≡◌, ℕ, ◌<◌, List, [], ◌∷◌, length, refl, ◌∙◌, ap, ap₂, map, Box, Vec, Global, arith, rules}
use Rattle.pc_name.specs.declared.sign.Op.{Op}
use Rattle.pc_name.specs.declared.sign.Sign.{Sign}
use Rattle.pc_formula.specs.declared.tree.ItemTree.{ItemTree}
use Rattle.pc_formula.specs.declared.tree.ItemTree.TheVariants.{Named}
use Rattle.pc_formula.specs.declared.tree.SideTree.{SideTree}
use Rattle.pc_formula.specs.declared.tree.FormulaTree.{FormulaTree, Iff, Implies, Or, And, Not, Compare, InTable, the_lemmas}
use Rattle.pc_formula.specs.Tree.{Item, Side, named, items_of, item_of, added_of, side_of, formula_of, iff, implies, or, and, not, compare, in_table, parts_of}
use Rattle.pc_formula.specs.Grammar.{IsTableAtom}
use Rattle.pc_formula.proofs.ItemViews.{item_of-Named}

pub formula_of-Iff : (a b : Box FormulaTree Global) (f g : FormulaTree) → a.value ≡ f → b.value ≡ g → formula_of (Iff a b) ≡ iff (formula_of f) (formula_of g)
formula_of-Iff a b f g left right = search (rules, the_lemmas)

pub formula_of-Implies : (a b : Box FormulaTree Global) (f g : FormulaTree) → a.value ≡ f → b.value ≡ g → formula_of (Implies a b) ≡ implies (formula_of f) (formula_of g)
formula_of-Implies a b f g left right = search (rules, the_lemmas)

pub formula_of-Or : (v : Vec FormulaTree Global) → formula_of (Or v) ≡ or (parts_of (map formula_of v.items))
formula_of-Or v = search (rules, the_lemmas)

pub formula_of-And : (v : Vec FormulaTree Global) → formula_of (And v) ≡ and (parts_of (map formula_of v.items))
formula_of-And v = search (rules, the_lemmas)

pub formula_of-Not : (a : Box FormulaTree Global) (f : FormulaTree) → a.value ≡ f → formula_of (Not a) ≡ not (formula_of f)
formula_of-Not a f inner = search (rules, the_lemmas)

pub formula_of-Compare : (left right : SideTree) (op : Op) (l r : Side) → side_of left ≡ l → side_of right ≡ r → formula_of (Compare left op right) ≡ compare l op r
formula_of-Compare left right op l r first second =
    let seen : formula_of (Compare left op right) ≡ compare (side_of left) op (side_of right) = search (rules, the_lemmas) in
    seen ∙ ap₂ (λ a b. compare a op b) first second

pub formula_of-InTable : (name : List ℕ) (v : Vec ItemTree Global) → formula_of (InTable name v) ≡ in_table name (map item_of v.items)
formula_of-InTable name v = search (rules, the_lemmas)

-- ---- the side that is a table's atom

table_of : (s : SideTree) (table : List ℕ) (args : Vec ItemTree Global) (items : List ItemTree) (rest : List (Sign × ItemTree)) → args.items ≡ items → s.rest.items ≡ rest → s.first ≡ Named table args → length rest ≡ 0 → 0 < length items → IsTableAtom (side_of s) (formula_of (InTable table args))
table_of s table args [] rest all more first none some = absurd (omega (arith, some))
table_of s table args (i ∷ items) (r ∷ rest) all more first none some = absurd (omega (arith, none))
table_of s table args (i ∷ items) [] all more first none some = record {
  table = table;
  first = item_of i;
  others = map item_of items;
  side = ap₂ (λ (f : Item) (l : List (Sign × Item)). record { first = f; rest = l }) (ap item_of first ∙ item_of-Named table args ∙ ap (λ l. named table (items_of (map item_of l))) all) (ap (map added_of) more);
  formula = formula_of-InTable table args ∙ ap (λ l. in_table table (map item_of l)) all;
}

pub table_atom_of : (s : SideTree) (table : List ℕ) (args : Vec ItemTree Global) → s.first ≡ Named table args → length s.rest.items ≡ 0 → 0 < length args.items → IsTableAtom (side_of s) (formula_of (InTable table args))
table_atom_of s table args first none some = table_of s table args args.items s.rest.items refl refl first none some
