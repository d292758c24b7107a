use Rattle.std.proofs.Common.{◌≡◌, ℤ, pos, neg_ℤ, ◌≤ℤ◌, Ok, arith, sym, subst}
use Rattle.std.proofs.lemmas.Int.{ints}
use mir.Syntax.{w32, w64}
use mir.Val.{to_z, of_z}
use Rattle.pc_formula.specs.Tree.{integer}
use Rattle.pc_sheet.specs.declared.formula.Term.TheVariants as terms
use Rattle.pc_elaborate.specs.declared.sides.Kind.TheVariants.{Integer}
use Rattle.pc_elaborate.specs.Told.{IsSideItemTold}
use Rattle.pc_elaborate.proofs.SideTold.{number_told}
use Rattle.pc_elaborate.proofs.sides.number_item.Goals as goal

pub returns : goal.returns
returns c =
    let fits = c.ranges.n.sfits in
    let low : neg_ℤ (pos 1000000) ≤ℤ c.args.n = omega (arith, ints) in
    let high : c.args.n ≤ℤ pos 1000000 = omega (arith, ints) in
    let same : to_z w32 (of_z w32 (to_z w64 (of_z w64 c.args.n))) ≡ c.args.n = omega (arith, ints, low, high) in
    λ u vs several. subst (λ (z : ℤ). IsSideItemTold u vs several (integer c.args.n) (Ok (terms.Number z, Integer))) (sym same) (number_told u vs several c.args.n (low, high))
