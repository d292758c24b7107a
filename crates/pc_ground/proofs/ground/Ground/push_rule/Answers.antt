use Rattle.std.proofs.Common.{◌≡◌, ◌<◌, All, length, ap, arith, subst, sym}
use Rattle.pc_lits.specs.declared.literal.Lit.{Lit}
use Rattle.pc_ground.specs.Ground.{clauses}
use Rattle.pc_ground.specs.GroundView.{Grounded}
use Rattle.pc_ground.proofs.Many.{clauses_few, clauses_of_variables}
use Rattle.pc_ground.proofs.ground.Ground.push_rule.Goals as goal

pub returns-in-Ok-clause-few : goal.returns-in-Ok-clause-few
returns-in-Ok-clause-few c =
    let few = clauses_few c.args.book.now in
    let all : length c.push_small.new.self.clauses ≡ length (clauses c.args.book.now) = ap (λ (g : Grounded). length g.clauses) c.in-Ok.ensures.ok in
    let cells = c.few_cells.ensures in
    let told = c.whole_weight.ensures in
    let small = c.if-whole_weight-gt-MOST_WEIGHT.false in
    omega (arith, few, all, cells, told, small)

pub returns-in-Ok-clause-literals : goal.returns-in-Ok-clause-literals
returns-in-Ok-clause-literals c = subst (λ (g : Grounded). All (All (λ (l : Lit). l.variable.0 < g.variables)) g.clauses) (sym c.in-Ok.ensures.ok) (clauses_of_variables c.args.book.now)
