-- The item and the side of a tree, level by level.
use Rattle.std.proofs.Common.{◌≡◌, ℕ, ℤ, List, map, Vec, Global, rules}
use Rattle.pc_formula.specs.declared.tree.ItemTree.{ItemTree, Number, Named, the_lemmas}
use Rattle.pc_formula.specs.Tree.{item_of, integer, named, items_of}

pub item_of-Number : (z : ℤ) → item_of (Number z) ≡ integer z
item_of-Number z = search (rules, the_lemmas)

pub item_of-Named : (name : List ℕ) (v : Vec ItemTree Global) → item_of (Named name v) ≡ named name (items_of (map item_of v.items))
item_of-Named name v = search (rules, the_lemmas)
