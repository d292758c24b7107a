use Rattle.std.proofs.Common.{◌≡◌, sym, ◌∙◌, ap, subst, w64, rules}
use Rattle.std.proofs.lemmas.Int.{to_z-of_z}
use mir.Val.{SFits, to_z, of_z}
use Rattle.pc_formula.specs.declared.tree.ItemTree.TheVariants.{Number}
use Rattle.pc_formula.specs.Tree.{item_of, integer}
use Rattle.pc_formula.specs.Front.{Reads}
use Rattle.pc_formula.specs.Side.{DerivesItem}
use Rattle.pc_formula.proofs.ItemViews.{item_of-Number}
use Rattle.pc_formula.proofs.Sides.{item_integer}
use Rattle.pc_formula.proofs.items.integer_item.Goals as goal

pub returns-clause-ok : goal.returns-clause-ok
returns-clause-ok c =
    let value = c.in-Some.value in
    let fits : SFits w64 c.in-Some.value = search rules in
    let seen : item_of (Number (to_z w64 (of_z w64 c.in-Some.value))) ≡ integer c.in-Some.value = item_of-Number _ ∙ ap integer (to_z-of_z w64 value fits) in
    subst (λ i. Reads DerivesItem 1 c.args.words.now i c.read_integer.new.words) (sym seen) (item_integer _ _ _ c.requires c.in-Some.ensures (c.stops_at.ensures.0 c.if-not-stops_at.false))
