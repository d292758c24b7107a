use Rattle.std.proofs.Common.{◌≡◌, ◌+◌, ◌∷◌, [], length, sum_by, ap, arith, length-append, ◌∙◌}
use Rattle.pc_lits.specs.declared.literal.Lit.{Lit}
use Rattle.pc_sheet.specs.Sheet.{Sheet}
use Rattle.pc_sheet.specs.Weight.{rule_weight, weight}
use Rattle.pc_ground.specs.GroundView.{Grounded}
use Rattle.pc_ground.proofs.PushedFew.{weighs_more}
use Rattle.pc_ground.proofs.Weighing.{all_weigh}
use Rattle.pc_ground.proofs.ground.Ground.whole_weight.Goals as goal

pub weight_with_last-requires-clause-few : goal.weight_with_last-requires-clause-few
weight_with_last-requires-clause-few c = omega (arith, c.min-before.ensures)

pub weight_with_last-requires-clause-some : goal.weight_with_last-requires-clause-some
weight_with_last-requires-clause-some c =
    let some = ap (λ (b : Sheet). length b.rules) c.requires.2 ∙ length-append c.requires.0.rules (c.requires.1 ∷ []) in
    omega (arith, some)

pub returns : goal.returns
returns c =
    let s = c.requires.0 in
    let r = c.requires.1 in
    let own = c.weight_with_last.ensures s r c.requires.2 in
    let there : sum_by length c.self.inside.clauses ≡ weight s = ap (λ (g : Grounded). sum_by length g.clauses) (c.self.view_is ∙ c.requires.3) ∙ all_weigh s in
    let all : weight c.args.book.now ≡ weight s + rule_weight s.universe r = ap weight c.requires.2 ∙ weighs_more s r in
    let many = c.literals.ensures in
    let before = c.min-before.ensures in
    omega (arith, own, there, all, many, before)
