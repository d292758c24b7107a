-- What trees of formulas stand for, by their forms.
use Rattle.std.proofs.Common.{◌≡◌, ℕ, ℤ, Bool, List, map, rules, Vec, Box, Global}
use Rattle.pc_formula.specs.Tree.{for_all, exists, counting, iff, implies, or, and, not, parts_of, formula_of}
use Rattle.pc_formula.specs.declared.tree.FormulaTree.{FormulaTree, the_lemmas}
use Rattle.pc_formula.specs.declared.tree.FormulaTree.TheVariants as trees

pub formula_of-Not : (b : Box FormulaTree Global) → formula_of (trees.Not b) ≡ not (formula_of b.value)
formula_of-Not b = search (rules, the_lemmas)

pub formula_of-And : (v : Vec FormulaTree Global) → formula_of (trees.And v) ≡ and (parts_of (map formula_of v.items))
formula_of-And v = search (rules, the_lemmas)

pub formula_of-Or : (v : Vec FormulaTree Global) → formula_of (trees.Or v) ≡ or (parts_of (map formula_of v.items))
formula_of-Or v = search (rules, the_lemmas)

pub formula_of-Implies : (a b : Box FormulaTree Global) → formula_of (trees.Implies a b) ≡ implies (formula_of a.value) (formula_of b.value)
formula_of-Implies a b = search (rules, the_lemmas)

pub formula_of-Iff : (a b : Box FormulaTree Global) → formula_of (trees.Iff a b) ≡ iff (formula_of a.value) (formula_of b.value)
formula_of-Iff a b = search (rules, the_lemmas)

pub formula_of-ForAll : (n s : List ℕ) (b : Box FormulaTree Global) → formula_of (trees.ForAll n s b) ≡ for_all n s (formula_of b.value)
formula_of-ForAll n s b = search (rules, the_lemmas)

pub formula_of-Exists : (n s : List ℕ) (b : Box FormulaTree Global) → formula_of (trees.Exists n s b) ≡ exists n s (formula_of b.value)
formula_of-Exists n s b = search (rules, the_lemmas)

pub formula_of-Count : (m : Bool) (z : ℤ) (n s : List ℕ) (b : Box FormulaTree Global) → formula_of (trees.Count m z n s b) ≡ counting m z n s (formula_of b.value)
formula_of-Count m z n s b = search (rules, the_lemmas)
