use Rattle.std.proofs.Common.{◌<◌, ◌^◌, List, All, length, ap, sym, ◌∙◌, subst}
use Rattle.std.specs.List.{AllZip}
use Rattle.pc_lits.specs.declared.literal.Lit.{Lit}
use Rattle.pc_axiom_names.specs.Listed.{NameLists}
use Rattle.pc_ground.specs.GroundView.{Grounded}
use Rattle.pc_kept.specs.ByPolarity.{AreKeptByPolarity}
use Rattle.pc_kept.proofs.ByParts.{many_variables, stored_of, as_many, within, each_kept, rows_within, rows_many}
use Rattle.pc_kept.proofs.components.kept_components.Goals as goal

pub chosen-requires-clause-stored : goal.chosen-requires-clause-stored
chosen-requires-clause-stored c =
    stored_of c.args.book.now c.store.result.now c.names.result.now (c.store.ensures ∙ ap (λ (g : Grounded). g.clauses) c.requires.ground) (c.names.ensures ∙ ap (λ (g : Grounded). g.names) c.requires.ground)
    (subst (λ (cs : List (List Lit)). length cs < 2 ^ 32) (sym c.store.ensures) c.requires.few)

pub chosen-requires-clause-variables : goal.chosen-requires-clause-variables
chosen-requires-clause-variables c =
    ap (λ (ns : NameLists). length ns.variables) (c.names.ensures ∙ ap (λ (g : Grounded). g.names) c.requires.ground) ∙ many_variables c.args.book.now
    ∙ sym (c.variables-variables.ensures ∙ ap (λ (g : Grounded). g.variables) c.requires.ground)

pub chosen-requires-clause-many : goal.chosen-requires-clause-many
chosen-requires-clause-many c = as_many c.args.book.now c.args.whole.now c.requires.whole

pub chosen-requires-clause-within : goal.chosen-requires-clause-within
chosen-requires-clause-within c =
    subst (λ (cs : List (List Lit)). All (All (λ k. k < length cs)) c.args.whole.now.axioms) (sym (c.store.ensures ∙ ap (λ (g : Grounded). g.clauses) c.requires.ground)) (within c.args.book.now c.args.whole.now c.requires.whole)

pub with_axioms-requires-clause-many : goal.with_axioms-requires-clause-many
with_axioms-requires-clause-many c =
    rows_many c.args.book.now c.args.whole.now c.requires.whole c.in_ok-rows.field-0.banned c.in_ok-rows.field-0.rows
    (each_kept c.args.book.now c.args.whole.now c.requires.whole c.kept_by_what_is_stored.ensures c.count_of_pairs.result c.store.result.now c.names.result.now c.count_of_pairs.ensures (c.store.ensures ∙ ap (λ (g : Grounded). g.clauses) c.requires.ground)
    (c.names.ensures ∙ ap (λ (g : Grounded). g.names) c.requires.ground) c.in_ok-rows.field-0.banned c.in_ok-rows.field-0.rows c.in_ok-rows.ensures.kept c.in_ok-rows.ensures.unnamed)

pub with_axioms-requires-clause-within : goal.with_axioms-requires-clause-within
with_axioms-requires-clause-within c =
    rows_within c.args.book.now c.args.whole.now c.requires.whole c.in_ok-rows.field-0.banned c.in_ok-rows.field-0.rows
    (each_kept c.args.book.now c.args.whole.now c.requires.whole c.kept_by_what_is_stored.ensures c.count_of_pairs.result c.store.result.now c.names.result.now c.count_of_pairs.ensures (c.store.ensures ∙ ap (λ (g : Grounded). g.clauses) c.requires.ground)
    (c.names.ensures ∙ ap (λ (g : Grounded). g.names) c.requires.ground) c.in_ok-rows.field-0.banned c.in_ok-rows.field-0.rows c.in_ok-rows.ensures.kept c.in_ok-rows.ensures.unnamed)
    (subst (λ (g : Grounded). length g.clauses < 2 ^ 32) c.requires.ground c.requires.few)

pub returns : goal.returns
returns c =
    let rows =
    each_kept c.args.book.now c.args.whole.now c.requires.whole c.kept_by_what_is_stored.ensures c.count_of_pairs.result c.store.result.now c.names.result.now c.count_of_pairs.ensures (c.store.ensures ∙ ap (λ (g : Grounded). g.clauses) c.requires.ground)
    (c.names.ensures ∙ ap (λ (g : Grounded). g.names) c.requires.ground) c.in_ok-rows.field-0.banned c.in_ok-rows.field-0.rows c.in_ok-rows.ensures.kept c.in_ok-rows.ensures.unnamed
    in
    record {
      cells = c.in_ok-kept.ensures.cells;
      numbers = c.in_ok-kept.ensures.numbers;
      axioms = subst (λ b. AllZip (AreKeptByPolarity c.args.book.now b) c.args.whole.now.axioms c.in_ok-kept.kept.axioms) (sym c.in_ok-kept.ensures.banned)
          (subst (AllZip (AreKeptByPolarity c.args.book.now c.in_ok-rows.field-0.banned) c.args.whole.now.axioms) (sym c.in_ok-kept.ensures.axioms) rows);
      variables = c.in_ok-kept.ensures.variables;
    }
