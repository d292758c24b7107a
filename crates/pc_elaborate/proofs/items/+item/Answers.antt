use Rattle.std.proofs.Common.{◌≡◌, ℕ, ◌<◌, ◌≤◌, length, map, get_or, ap, ◌∙◌, sym, arith, rules}
use Rattle.std.proofs.lemmas.List.{get_or_default, length-map}
use Rattle.std.proofs.lemmas.Int.{ints}
use mir.Syntax.{w64}
use mir.Val.{SFits, to_z, of_z}
use Rattle.std.proofs.lemmas.Bool.Decides.{nat_tests}
use Rattle.std.proofs.lemmas.Result.{err_from_is_err_and}
use Rattle.pc_formula.specs.Tree as tree
use Rattle.pc_sheet.specs.declared.ids.SortId.{SortId}
use Rattle.pc_elaborate.specs.Told.{variables_of}
use Rattle.pc_elaborate.proofs.Unique.{names_are_unique}
use Rattle.pc_elaborate.proofs.ItemTold.{no_application, wrong_arity, wrong_arguments, application_told, family_below, no_argument_yet, one_argument_more, one_argument_fails, every_argument, integer_argument, named_argument, named_argument_sort, tree_of-Named, tree_of-Number}
use Rattle.pc_elaborate.proofs.items.+item.Goals as goal

pub application-returns-in_err-family : goal.application-returns-in_err-family
application-returns-in_err-family t c =
    let some : 0 < length (map tree.item_of c.args.args.now) = omega (arith, length-map c.args.args.now tree.item_of, c.requires.some) in
    let e = no_application c.args.book.now.universe (names_are_unique c.args.book.now.universe c.well_formed-2.ensures.universe.different) (variables_of c.args.variables.now) c.args.name.now (map tree.item_of c.args.args.now) c.in_err-family.field-0.0 some c.in_err-family.ensures in
    let p = err_from_is_err_and c.from_residual.result c.from_residual.ensures.1 in
    rw (p.1, p.2) e

pub application-argument_sorts-sorts-requires : goal.application-argument_sorts-sorts-requires
application-argument_sorts-sorts-requires t c = family_below c.args.book.now.universe c.args.name.now c.in_ok-family.family c.in_ok-family.ensures

pub application-returns-then-args-sorts : goal.application-returns-then-args-sorts
application-returns-then-args-sorts t c =
    let some : 0 < length (map tree.item_of c.args.args.now) = omega (arith, length-map c.args.args.now tree.item_of, c.requires.some) in
    let differ : length (map tree.item_of c.args.args.now) ≡ length c.argument_sorts-sorts.result.now → ⊥ = λ same. let n = length-map c.args.args.now tree.item_of in omega (arith, n, same, c.if-args-sorts.true) in
    wrong_arity c.args.book.now.universe (names_are_unique c.args.book.now.universe c.well_formed-2.ensures.universe.different) (variables_of c.args.variables.now) c.args.name.now (map tree.item_of c.args.args.now) c.in_ok-family.family c.argument_sorts-sorts.result.now some c.in_ok-family.ensures c.argument_sorts-sorts.ensures.takes differ

pub application-returns-in_err-args : goal.application-returns-in_err-args
application-returns-in_err-args t c =
    let some : 0 < length (map tree.item_of c.args.args.now) = omega (arith, length-map c.args.args.now tree.item_of, c.requires.some) in
    let same : length (map tree.item_of c.args.args.now) ≡ length c.argument_sorts-sorts.result.now = let n = length-map c.args.args.now tree.item_of in omega (arith, n, c.if-args-sorts.false) in
    let e = wrong_arguments c.args.book.now.universe (names_are_unique c.args.book.now.universe c.well_formed-2.ensures.universe.different) (variables_of c.args.variables.now) c.args.name.now (map tree.item_of c.args.args.now) c.in_ok-family.family c.argument_sorts-sorts.result.now c.in_err-args.field-0.0 some c.in_ok-family.ensures c.argument_sorts-sorts.ensures.takes same c.in_err-args.ensures in
    let p = err_from_is_err_and c.from_residual-in_err-args.result c.from_residual-in_err-args.ensures.1 in
    rw (p.1, p.2) e

pub application-result_sort-requires : goal.application-result_sort-requires
application-result_sort-requires t c = family_below c.args.book.now.universe c.args.name.now c.in_ok-family.family c.in_ok-family.ensures

pub application-returns : goal.application-returns
application-returns t c =
    application_told c.args.book.now.universe (variables_of c.args.variables.now) c.in_ok-family.family c.in_ok-args.args c.result_sort.result c.argument_sorts-sorts.result.now c.argument_sorts-sorts.ensures.takes c.result_sort.ensures c.args.name.now (tree.items_of (map tree.item_of c.args.args.now))
    c.well_formed-2.ensures.universe c.in_ok-family.ensures c.in_ok-args.ensures.0 c.in_ok-args.ensures.1

pub argument-returns-then-ne : goal.argument-returns-then-ne
argument-returns-then-ne t c =
    let is : tree.item_of c.args.arg.now ≡ tree.named c.in-Named.name (tree.items_of (map tree.item_of c.deref.result.now)) =
    ap tree.item_of c.in-Named.is ∙ tree_of-Named c.in-Named.name c.in-Named.args ∙ ap (λ xs. tree.named c.in-Named.name (tree.items_of (map tree.item_of xs))) (sym c.deref.ensures.value) in
    let differ : c.in_ok-term-in-Named.found.0 ≡ c.args.sort.0 → ⊥ = grind (arith, nat_tests) in
    named_argument_sort c.args.book.now.universe (names_are_unique c.args.book.now.universe c.well_formed-in-Named.ensures.universe.different) (variables_of c.args.variables.now) c.requires.scope c.args.sort c.in_ok-term-in-Named.found (tree.item_of c.args.arg.now) c.in-Named.name (tree.items_of (map tree.item_of c.deref.result.now)) c.in_ok-term-in-Named.term is c.in_ok-term-in-Named.ensures differ

pub argument-returns-in_ok-value-in-Number : goal.argument-returns-in_ok-value-in-Number
argument-returns-in_ok-value-in-Number t c =
    let fits : SFits w64 c.in-Number.n = search rules in
    let same : c.in-Number.n ≡ to_z w64 (of_z w64 c.in-Number.n) = omega (arith, ints, fits) in
    let is : tree.item_of c.args.arg.now ≡ tree.integer (to_z w64 (of_z w64 c.in-Number.n)) = ap tree.item_of c.in-Number.is ∙ tree_of-Number c.in-Number.n ∙ ap tree.integer same in
    integer_argument c.args.book.now.universe (variables_of c.args.variables.now) c.args.sort (tree.item_of c.args.arg.now) (to_z w64 (of_z w64 c.in-Number.n)) c.in_ok-value-in-Number.value is c.in_ok-value-in-Number.ensures

pub argument-returns-else-ne : goal.argument-returns-else-ne
argument-returns-else-ne t c =
    let is : tree.item_of c.args.arg.now ≡ tree.named c.in-Named.name (tree.items_of (map tree.item_of c.deref.result.now)) =
    ap tree.item_of c.in-Named.is ∙ tree_of-Named c.in-Named.name c.in-Named.args ∙ ap (λ xs. tree.named c.in-Named.name (tree.items_of (map tree.item_of xs))) (sym c.deref.ensures.value) in
    let same : c.in_ok-term-in-Named.found.0 ≡ c.args.sort.0 = grind (arith, nat_tests) in
    named_argument c.args.book.now.universe (names_are_unique c.args.book.now.universe c.well_formed-in-Named.ensures.universe.different) (variables_of c.args.variables.now) c.args.sort c.in_ok-term-in-Named.found (tree.item_of c.args.arg.now) c.in-Named.name (tree.items_of (map tree.item_of c.deref.result.now)) c.in_ok-term-in-Named.term is c.in_ok-term-in-Named.ensures (ap (λ (n : ℕ). record { 0 = n }) same)

pub arguments-loop-i-init : goal.arguments-loop-i-init
arguments-loop-i-init t c = no_argument_yet c.args.book.now.universe (variables_of c.args.variables.now) c.args.sorts.now c.args.args.now c.new-terms.result.items c.new-terms.ensures.items

pub arguments-returns-in_err-argument : goal.arguments-returns-in_err-argument
arguments-returns-in_err-argument t c =
    let count = c.requires.count in
    let below : c.loop-i.i < length c.args.sorts.now = omega (arith, count, c.loop-i-test.true) in
    let d : SortId = record { 0 = 0 } in
    let s = get_or c.args.sorts.now c.loop-i.i d in
    let si = get_or_default c.args.sorts.now c.loop-i.i d s below in
    let e = one_argument_fails c.args.book.now.universe (variables_of c.args.variables.now) c.args.sorts.now c.args.args.now c.loop-i.i s c.index-args-i.result below count si c.index-args-i.is c.loop-i.terms.items c.in_err-argument.field-0.0 c.loop-i.invariant c.in_err-argument.ensures in
    let p = err_from_is_err_and c.from_residual.result c.from_residual.ensures.1 in
    rw (p.1, p.2) e

pub arguments-loop-i-preserved : goal.arguments-loop-i-preserved
arguments-loop-i-preserved t c =
    let count = c.requires.count in
    let below : c.loop-i.i < length c.args.sorts.now = omega (arith, count, c.loop-i-test.true) in
    let d : SortId = record { 0 = 0 } in
    let s = get_or c.args.sorts.now c.loop-i.i d in
    let si = get_or_default c.args.sorts.now c.loop-i.i d s below in
    one_argument_more c.args.book.now.universe (variables_of c.args.variables.now) c.args.sorts.now c.args.args.now c.loop-i.i s c.index-args-i.result below count si c.index-args-i.is c.loop-i.terms.items c.push.new.self.items c.in_ok-argument.field-0 c.loop-i.invariant c.in_ok-push.ensures.items c.in_ok-argument.ensures

pub arguments-returns : goal.arguments-returns
arguments-returns t c =
    let l : length c.args.args.now ≤ c.loop-i.i = omega arith in
    every_argument c.args.book.now.universe (variables_of c.args.variables.now) c.args.sorts.now c.args.args.now c.loop-i.i c.loop-i.terms l c.requires.count c.loop-i.invariant
