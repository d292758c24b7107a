use Rattle.std.proofs.Common.{◌+◌, ◌-◌, [], length, get_or, ap, refl, sym, subst, ◌∙◌, arith}
use Rattle.pc_axiom_names.specs.Listed.{NameLists}
use Rattle.pc_ground.specs.GroundView.{Grounded}
use Rattle.pc_ground.specs.Grounded.{grounded}
use Rattle.pc_ground.specs.Pushed.{IsOwnOf}
use Rattle.pc_ground.specs.contracts.ground.Ground.{the_view}
use Rattle.pc_ground.proofs.PushedFew.{clauses_within, few_names, few_symbols, few_variables, last_nodes, last_sorted, whole_made}
use Rattle.pc_ground.proofs.ground.Ground.push_small.Goals as goal

pub count_nodes-nodes-requires-clause-sorted : goal.count_nodes-nodes-requires-clause-sorted
count_nodes-nodes-requires-clause-sorted c =
    let base = c.requires.base in
    let rules = c.rules-rules.result.now in
    let x = c.index-rules-rules.result in
    ([], last_sorted base.0 base.1 c.args.book.now base.2 rules (length rules - 1) c.rules-rules.ensures refl (get_or rules (length rules - 1) x) x refl c.well_formed-2.ensures)

pub count_nodes-nodes-requires-clause-fits : goal.count_nodes-nodes-requires-clause-fits
count_nodes-nodes-requires-clause-fits c =
    let base = c.requires.base in
    let rules = c.rules-rules.result.now in
    let x = c.index-rules-rules.result in
    let nodes = last_nodes base.0 base.1 c.args.book.now base.2 rules (length rules - 1) c.rules-rules.ensures refl (get_or rules (length rules - 1) x) x refl in
    let few = few_variables base.0 base.1 c.args.book.now base.2 c.well_formed-2.ensures in
    let small = c.requires.small in
    omega (arith, few, small, nodes)

pub append-requires-clause-variables : goal.append-requires-clause-variables
append-requires-clause-variables c =
    let base = c.requires.base in
    let few = few_symbols base.0 base.1 c.args.book.now base.2 c.well_formed-2.ensures in
    let same = ap (λ (n : NameLists). length n.variables) (c.in_ok-draft.ensures base.0 base.1 base.2).names in
    let small = c.requires.small in
    omega (arith, few, same, small)

pub append-requires-clause-axioms : goal.append-requires-clause-axioms
append-requires-clause-axioms c =
    let base = c.requires.base in
    let few = few_names base.0 base.1 c.args.book.now base.2 c.well_formed-2.ensures in
    let same = ap (λ (n : NameLists). length n.axioms) (c.in_ok-draft.ensures base.0 base.1 base.2).names in
    let small = c.requires.small in
    let cells = c.few_cells.ensures in
    omega (arith, few, same, small, cells)

pub overflow_add-self : goal.overflow_add-self
overflow_add-self c =
    let base = c.requires.base in
    let rules = c.rules-rules.result.now in
    let x = c.index-rules-rules.result in
    let nodes = last_nodes base.0 base.1 c.args.book.now base.2 rules (length rules - 1) c.rules-rules.ensures refl (get_or rules (length rules - 1) x) x refl in
    let counted = c.count_nodes-nodes.ensures in
    let few = few_variables base.0 base.1 c.args.book.now base.2 c.well_formed-2.ensures in
    let small = c.requires.small in
    let variables = ap (λ (g : Grounded). g.variables) (c.self.view_is ∙ base.3) in
    omega (arith, few, small, nodes, counted, variables)

pub invariant_of-self : goal.invariant_of-self
invariant_of-self c =
    let base = c.requires.base in
    let own : IsOwnOf (the_view c.self.inside) base.0.universe (length base.0.rules) base.1 c.in_ok-draft.draft = subst (λ (g : Grounded). IsOwnOf g base.0.universe (length base.0.rules) base.1 c.in_ok-draft.draft) (sym c.self.view_is) (c.in_ok-draft.ensures base.0 base.1 base.2) in
    let few = clauses_within base.0 base.1 (the_view c.self.inside) (c.self.view_is ∙ base.3) c.in_ok-draft.draft own c.args.book.now base.2 c.append.new.clauses c.in-Ok.ensures.clauses in
    let small = c.requires.small in
    let cells = c.few_cells.ensures in
    omega (arith, few, small, cells)

pub returns-in-Ok-clause-ok : goal.returns-in-Ok-clause-ok
returns-in-Ok-clause-ok c =
    let base = c.requires.base in
    let rules = c.rules-rules.result.now in
    let x = c.index-rules-rules.result in
    let own : IsOwnOf (the_view c.self.inside) base.0.universe (length base.0.rules) base.1 c.in_ok-draft.draft = subst (λ (g : Grounded). IsOwnOf g base.0.universe (length base.0.rules) base.1 c.in_ok-draft.draft) (sym c.self.view_is) (c.in_ok-draft.ensures base.0 base.1 base.2) in
    let counted = c.count_nodes-nodes.ensures ∙ last_nodes base.0 base.1 c.args.book.now base.2 rules (length rules - 1) c.rules-rules.ensures refl (get_or rules (length rules - 1) x) x refl in
    whole_made base.0 base.1 (the_view c.self.inside) (c.self.view_is ∙ base.3) c.in_ok-draft.draft own
    c.append.new.clauses (c.self.inside.variables + c.count_nodes-nodes.result) c.append.new.names c.append.new.owners.items c.append.new.reads
    c.in-Ok.ensures.clauses (ap (λ n. c.self.inside.variables + n) counted) c.in-Ok.ensures.names c.in-Ok.ensures.owners c.in-Ok.ensures.reads ∙ ap grounded (sym base.2)
