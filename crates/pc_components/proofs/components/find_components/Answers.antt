use Rattle.std.proofs.Common.{◌<◌, ◌^◌, ap, arith, length, map, subst, ◌∙◌}
use Rattle.pc_ground.specs.GroundView.{Grounded}
use Rattle.pc_components.specs.inside.ClauseVariables.{variables_in}
use Rattle.pc_components.specs.inside.Numbers.{alone}
use Rattle.pc_components.specs.inside.Turned.{turned}
use Rattle.pc_components.proofs.KeptRight.{all_right, as_many_axioms, as_many_variables, cells_fit, axioms_fit, variables_fit}
use Rattle.pc_components.proofs.components.find_components.Goals as goal

pub invariant_of-result : goal.invariant_of-result
invariant_of-result c = (
  as_many_axioms c.args.book.now c.well_formed-2.ensures c.in_ok-numbers.numbers.parts c.variables.result c.in_ok-numbers.numbers.cells.items c.in_ok-numbers.numbers.pieces.items c.in_ok-owners.owners c.in_ok-axioms.axioms c.in_ok-variables.variables c.in_ok-cells.cells
      c.in_ok-numbers.ensures
      (c.variables.ensures ∙ ap (λ (g : Grounded). g.variables) c.requires)
      c.in_ok-owners.ensures
      c.in_ok-axioms.ensures
      (c.in_ok-variables.ensures ∙ ap (λ cs. turned c.in_ok-numbers.numbers.parts (turned c.variables.result (map (variables_in cs) c.in_ok-axioms.axioms))) (c.store.ensures ∙ ap (λ (g : Grounded). g.clauses) c.requires))
      (c.in_ok-cells.ensures ∙ ap (turned c.in_ok-numbers.numbers.parts) (c.in_ok-rows_of_each.ensures ∙ ap (map alone) c.deref.ensures.value))
      c.in_ok-rows_of_cells.field-0 c.in_ok-rows_of_axioms.field-0 c.in_ok-rows_of_variables.field-0 c.in_ok-rows_of_cells.ensures c.in_ok-rows_of_axioms.ensures c.in_ok-rows_of_variables.ensures,
  as_many_variables c.args.book.now c.well_formed-2.ensures c.in_ok-numbers.numbers.parts c.variables.result c.in_ok-numbers.numbers.cells.items c.in_ok-numbers.numbers.pieces.items c.in_ok-owners.owners c.in_ok-axioms.axioms c.in_ok-variables.variables c.in_ok-cells.cells
      c.in_ok-numbers.ensures
      (c.variables.ensures ∙ ap (λ (g : Grounded). g.variables) c.requires)
      c.in_ok-owners.ensures
      c.in_ok-axioms.ensures
      (c.in_ok-variables.ensures ∙ ap (λ cs. turned c.in_ok-numbers.numbers.parts (turned c.variables.result (map (variables_in cs) c.in_ok-axioms.axioms))) (c.store.ensures ∙ ap (λ (g : Grounded). g.clauses) c.requires))
      (c.in_ok-cells.ensures ∙ ap (turned c.in_ok-numbers.numbers.parts) (c.in_ok-rows_of_each.ensures ∙ ap (map alone) c.deref.ensures.value))
      c.in_ok-rows_of_cells.field-0 c.in_ok-rows_of_axioms.field-0 c.in_ok-rows_of_variables.field-0 c.in_ok-rows_of_cells.ensures c.in_ok-rows_of_axioms.ensures c.in_ok-rows_of_variables.ensures,
)

pub returns : goal.returns
returns c =
    all_right c.args.book.now c.well_formed-2.ensures c.in_ok-numbers.numbers.parts c.variables.result c.in_ok-numbers.numbers.cells.items c.in_ok-numbers.numbers.pieces.items c.in_ok-owners.owners c.in_ok-axioms.axioms c.in_ok-variables.variables c.in_ok-cells.cells
    c.in_ok-numbers.ensures
    (c.variables.ensures ∙ ap (λ (g : Grounded). g.variables) c.requires)
    c.in_ok-owners.ensures
    c.in_ok-axioms.ensures
    (c.in_ok-variables.ensures ∙ ap (λ cs. turned c.in_ok-numbers.numbers.parts (turned c.variables.result (map (variables_in cs) c.in_ok-axioms.axioms))) (c.store.ensures ∙ ap (λ (g : Grounded). g.clauses) c.requires))
    (c.in_ok-cells.ensures ∙ ap (turned c.in_ok-numbers.numbers.parts) (c.in_ok-rows_of_each.ensures ∙ ap (map alone) c.deref.ensures.value))
    c.in_ok-rows_of_cells.field-0 c.in_ok-rows_of_axioms.field-0 c.in_ok-rows_of_variables.field-0 c.in_ok-rows_of_cells.ensures c.in_ok-rows_of_axioms.ensures c.in_ok-rows_of_variables.ensures c.in_ok-banned.banned c.in_ok-banned.ensures

pub rows_of_cells-requires : goal.rows_of_cells-requires
rows_of_cells-requires c =
    cells_fit c.args.book.now c.in_ok-numbers.numbers.parts c.in_ok-numbers.numbers.cells.items c.in_ok-numbers.numbers.pieces.items c.in_ok-cells.cells c.in_ok-numbers.ensures
    (c.in_ok-cells.ensures ∙ ap (turned c.in_ok-numbers.numbers.parts) (c.in_ok-rows_of_each.ensures ∙ ap (map alone) c.deref.ensures.value)) (let l = c.few_cells.ensures in omega (arith, l))

pub rows_of_axioms-requires : goal.rows_of_axioms-requires
rows_of_axioms-requires c =
    axioms_fit c.args.book.now c.well_formed-2.ensures c.in_ok-numbers.numbers.parts c.in_ok-owners.owners c.in_ok-axioms.axioms c.in_ok-owners.ensures c.in_ok-axioms.ensures
    (subst (λ (g : Grounded). length g.clauses < 2 ^ 32) c.requires c.few_axioms.ensures)

pub rows_of_variables-requires : goal.rows_of_variables-requires
rows_of_variables-requires c =
    variables_fit c.in_ok-numbers.numbers.parts c.variables.result (map (variables_in (c.store.result.now)) c.in_ok-axioms.axioms) c.in_ok-variables.variables c.in_ok-variables.ensures (omega arith)
