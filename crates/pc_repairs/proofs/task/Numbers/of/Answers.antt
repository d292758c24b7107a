use Rattle.std.proofs.Common.{List, ◌<◌, ◌^◌, length, map, ap, ◌∙◌, subst}
use Rattle.std.specs.List.{range_with_len}
use Rattle.pc_lits.specs.declared.literal.Lit.{Lit}
use Rattle.pc_ground.specs.GroundView.{Grounded}
use Rattle.pc_theory.specs.WholeSpendings.{variable_of}
use Rattle.pc_repairs.proofs.task.Numbers.of.Goals as goal

pub returns : goal.returns
returns c = record {
  formed = c.well_formed-2.ensures;
  ground_is = c.requires;
  few = subst (λ (g : Grounded). length g.clauses < 2 ^ 32) c.requires c.few_axioms.ensures;
  all = record {
    axioms_are = c.in_ok-axioms.ensures ∙ ap (range_with_len 0) (c.len.ensures ∙ ap (λ (cs : List (List Lit)). length cs) c.store.ensures ∙ ap (λ (g : Grounded). length g.clauses) c.requires);
    variables_are = c.in_ok-variables.ensures ∙ ap (λ n. map variable_of (range_with_len 0 n)) (c.variables.ensures ∙ ap (λ (g : Grounded). g.variables) c.requires);
    cells_are = c.in_ok-cells.ensures ∙ ap (range_with_len 0) c.cells.ensures.exact;
  };
}
