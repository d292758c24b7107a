use Rattle.std.proofs.Common.{◌≤◌, ◌+◌, List, length, map, All, sym, subst, rules}
use Rattle.std.proofs.lemmas.Result.{err_from_is_err_and}
use Rattle.pc_syntax.specs.Tree as tree
use Rattle.pc_sheet.specs.Sizes.{product, size_of}
use Rattle.pc_sheet.specs.Entailment.{cell_sizes}
use Rattle.pc_sheet.specs.WellFormed.{IsDeclaredSort}
use Rattle.pc_sheet.specs.declared.ids.SortId.{SortId}
use Rattle.pc_sortcheck.specs.DeclarationFaults.{IsDeclarationFault}
use Rattle.pc_sortcheck.proofs.Faults.{handed_on}
use Rattle.pc_sortcheck.proofs.DeclaredFamilies.{few_sorts, all_declared, result_at_fault, no_cells, family_formed, family_declared}
use Rattle.pc_sortcheck.proofs.cells.declare_cell.Goals as goal

pub returns-in_err-test_family : goal.returns-in_err-test_family
returns-in_err-test_family c =
    let p = err_from_is_err_and c.from_residual.result c.from_residual.ensures.1 in
    rw p.1 (handed_on (IsDeclarationFault c.args.book.now (tree.cell c.args.name.now c.args.sorts.now c.args.result_sort.now)) c.in_err-test_family.field-0.0 p.0 p.2 (c.in_err-test_family.ensures c.args.result_sort.now))

pub returns-in_err-result_sort : goal.returns-in_err-result_sort
returns-in_err-result_sort c =
    let p = err_from_is_err_and c.from_residual-in_err-result_sort.result c.from_residual-in_err-result_sort.ensures.1 in
    let fault = result_at_fault c.args.book.now c.args.name.now c.args.sorts.now c.args.result_sort.now c.in_ok-test_family.ensures c.in_ok-sorts.sorts.items c.in_ok-sorts.ensures c.in_err-result_sort.field-0.0 c.in_err-result_sort.ensures.told in
    rw p.1 (handed_on (IsDeclarationFault c.args.book.now (tree.cell c.args.name.now c.args.sorts.now c.args.result_sort.now)) c.in_err-result_sort.field-0.0 p.0 p.2 fault)

pub has_room_for_cells-requires-clause-arity : goal.has_room_for_cells-requires-clause-arity
has_room_for_cells-requires-clause-arity c =
    subst (λ (ss : List SortId). length ss ≤ 4) (sym c.deref.ensures.value) (few_sorts c.args.book.now c.args.name.now c.args.sorts.now c.args.result_sort.now c.in_ok-test_family.ensures c.in_ok-sorts.sorts.items c.in_ok-sorts.ensures)

pub has_room_for_cells-requires-clause-declared : goal.has_room_for_cells-requires-clause-declared
has_room_for_cells-requires-clause-declared c =
    subst (All (IsDeclaredSort c.args.book.now.universe)) (sym c.deref.ensures.value) (all_declared c.args.book.now c.args.name.now c.args.sorts.now c.args.result_sort.now c.in_ok-test_family.ensures c.in_ok-sorts.sorts.items c.in_ok-sorts.ensures)

pub returns-then-not-has_room_for_cells : goal.returns-then-not-has_room_for_cells
returns-then-not-has_room_for_cells c =
    no_cells c.args.book.now c.args.name.now c.args.sorts.now c.args.result_sort.now c.in_ok-test_family.ensures c.in_ok-sorts.sorts.items c.in_ok-sorts.ensures c.in_ok-result_sort.result_sort c.in_ok-result_sort.ensures.told
    (λ room. let there = subst (λ (ss : List SortId). length (cell_sizes c.args.book.now.universe) + product (map (size_of c.args.book.now.universe) ss) ≤ 4096) (sym c.deref.ensures.value) room in let y = c.has_room_for_cells.ensures.1 there in search rules)

pub add_family-requires : goal.add_family-requires
add_family-requires c =
    let room = subst (λ (ss : List SortId). length (cell_sizes c.args.book.now.universe) + product (map (size_of c.args.book.now.universe) ss) ≤ 4096) c.deref.ensures.value (c.has_room_for_cells.ensures.0 (search rules)) in
    family_formed c.args.book.now c.args.name.now c.args.sorts.now c.args.result_sort.now c.in_ok-test_family.ensures c.in_ok-sorts.sorts.items c.in_ok-sorts.ensures c.in_ok-result_sort.result_sort c.in_ok-result_sort.ensures.told
    c.in_ok-name.name c.in_ok-name.ensures.cases c.keeps_form.ensures c.requires c.is_name.ensures room

pub returns : goal.returns
returns c =
    let room = subst (λ (ss : List SortId). length (cell_sizes c.args.book.now.universe) + product (map (size_of c.args.book.now.universe) ss) ≤ 4096) c.deref.ensures.value (c.has_room_for_cells.ensures.0 (search rules)) in
    let formed = family_formed c.args.book.now c.args.name.now c.args.sorts.now c.args.result_sort.now c.in_ok-test_family.ensures c.in_ok-sorts.sorts.items c.in_ok-sorts.ensures c.in_ok-result_sort.result_sort c.in_ok-result_sort.ensures.told
    c.in_ok-name.name c.in_ok-name.ensures.cases c.keeps_form.ensures c.requires c.is_name.ensures room in
    family_declared c.args.book.now c.args.name.now c.args.sorts.now c.args.result_sort.now c.in_ok-test_family.ensures c.in_ok-sorts.sorts.items c.in_ok-sorts.ensures c.in_ok-result_sort.result_sort c.in_ok-result_sort.ensures.told
    c.add_family.new.self c.in_ok-name.name c.in_ok-name.ensures.cases c.in_ok-add_family.ensures.ok formed
