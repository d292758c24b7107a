use Rattle.std.proofs.Common.{◌≡◌, ap, ◌∙◌, sym, subst, arith, rules}
use Rattle.std.proofs.lemmas.Int.{ints}
use mir.Syntax.{w64}
use mir.Val.{SFits, to_z, of_z}
use Rattle.pc_formula.specs.Tree as tree
use Rattle.pc_elaborate.specs.Told.{variables_of, IsSideItemTold}
use Rattle.pc_elaborate.proofs.ItemTold.{tree_of-Number}
use Rattle.pc_elaborate.proofs.sides.side_item.Goals as goal

pub returns-in-Number : goal.returns-in-Number
returns-in-Number c =
    let u = c.args.book.now.universe in
    let vs = variables_of c.args.variables.now in
    let fits : SFits w64 c.in-Number.n = search rules in
    let same : c.in-Number.n ≡ to_z w64 (of_z w64 c.in-Number.n) = omega (arith, ints, fits) in
    let is : tree.item_of c.args.item.now ≡ tree.integer (to_z w64 (of_z w64 c.in-Number.n)) = ap tree.item_of c.in-Number.is ∙ tree_of-Number c.in-Number.n ∙ ap tree.integer same in
    subst (λ a. IsSideItemTold u vs c.args.several a c.number_item.result) (sym is) (c.number_item.ensures u vs c.args.several)
