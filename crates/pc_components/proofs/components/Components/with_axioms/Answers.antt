use Rattle.std.proofs.Common.{◌^◌, ap, arith, length, map, ◌∙◌}
use Rattle.pc_ground.specs.GroundView.{Grounded}
use Rattle.pc_components.specs.View.{Kept}
use Rattle.pc_components.specs.inside.ClauseVariables.{variables_in}
use Rattle.pc_components.specs.inside.Turned.{turned}
use Rattle.pc_components.proofs.KeptRight.{rows_fit, variables_fit, many_named, variables_named}
use Rattle.pc_components.proofs.components.Components.with_axioms.Goals as goal

pub rows_of_axioms-requires : goal.rows_of_axioms-requires
rows_of_axioms-requires c = rows_fit (2 ^ 32) c.args.axioms.now c.requires.within

pub rows_of_variables-requires : goal.rows_of_variables-requires
rows_of_variables-requires c = variables_fit c.len.result c.variables.result (map (variables_in c.store.result.now) c.args.axioms.now) c.in_ok-variables.variables c.in_ok-variables.ensures (omega arith)

pub invariant_of-result : goal.invariant_of-result
invariant_of-result c =
    let rows = turned c.variables.result (map (variables_in c.store.result.now) c.args.axioms.now) in
    let cells = ap length c.in_ok-rows_copied.ensures in
    let axioms = ap length c.in_ok-rows_of_axioms.ensures in
    let same = ap (λ (k : Kept). length k.cells) c.self.view_is in
    let variables = many_named c.args.axioms.now c.in_ok-variables.variables rows c.in_ok-rows_of_variables.field-0 (c.in_ok-variables.ensures ∙ ap (λ n. turned n rows) c.len.ensures) c.in_ok-rows_of_variables.ensures in
    (omega (arith, cells, axioms, same, c.requires.many), omega (arith, cells, same, c.requires.many, variables))

pub returns-clause-variables : goal.returns-clause-variables
returns-clause-variables c =
    let rows = turned c.variables.result (map (variables_in c.store.result.now) c.args.axioms.now) in
    variables_named c.args.book.now c.variables.result c.args.axioms.now c.in_ok-variables.variables c.store.result.now c.in_ok-rows_of_axioms.field-0 c.in_ok-rows_of_variables.field-0
    (c.variables.ensures ∙ ap (λ (g : Grounded). g.variables) c.requires.ground) (c.store.ensures ∙ ap (λ (g : Grounded). g.clauses) c.requires.ground) (c.in_ok-variables.ensures ∙ ap (λ n. turned n rows) c.len.ensures) c.in_ok-rows_of_axioms.ensures c.in_ok-rows_of_variables.ensures
