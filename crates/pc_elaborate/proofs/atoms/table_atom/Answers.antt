use Rattle.std.proofs.Common.{◌≡◌, ◌<◌, ◌≤◌, length, map, ap, arith}
use Rattle.std.proofs.lemmas.List.{length-map}
use Rattle.std.proofs.lemmas.Result.{err_from_is_err_and}
use Rattle.pc_formula.specs.Tree as tree
use Rattle.pc_sheet.specs.Views.{item_of, items_of}
use Rattle.pc_sheet.specs.WellSorted.{reads_in_items}
use Rattle.pc_elaborate.specs.Told.{variables_of}
use Rattle.pc_elaborate.proofs.Unique.{names_are_unique}
use Rattle.pc_elaborate.proofs.AtomTold.{arity_fails, arguments_fail, table_reads_fail, table_told}
use Rattle.pc_elaborate.proofs.atoms.table_atom.Goals as goal

pub returns-then-args-sorts : goal.returns-then-args-sorts
returns-then-args-sorts c =
    let differ : length (map tree.item_of c.args.args.now) ≡ length c.table_sorts-sorts.result.now → ⊥ = λ same. let n = length-map c.args.args.now tree.item_of in omega (arith, n, same, c.if-args-sorts.true) in
    arity_fails c.args.book.now.universe (variables_of c.args.variables.now) c.args.name.now (map tree.item_of c.args.args.now) c.in_ok-table.table c.table_sorts-sorts.result.now c.in_ok-table.ensures.told c.table_sorts-sorts.ensures.takes differ

pub returns-in_err-args : goal.returns-in_err-args
returns-in_err-args c =
    let same : length (map tree.item_of c.args.args.now) ≡ length c.table_sorts-sorts.result.now = let n = length-map c.args.args.now tree.item_of in omega (arith, n, c.if-args-sorts.false) in
    let e = arguments_fail c.args.book.now.universe (variables_of c.args.variables.now) c.args.name.now (map tree.item_of c.args.args.now) c.in_ok-table.table c.table_sorts-sorts.result.now c.in_ok-table.ensures.told c.table_sorts-sorts.ensures.takes same c.in_err-args.field-0.0 c.in_err-args.ensures in
    let p = err_from_is_err_and c.from_residual-in_err-args.result c.from_residual-in_err-args.ensures.1 in
    rw (p.1, p.2) e

pub returns-then-reads_in_terms-gt-MOST_READS : goal.returns-then-reads_in_terms-gt-MOST_READS
returns-then-reads_in_terms-gt-MOST_READS c =
    let same : length (map tree.item_of c.args.args.now) ≡ length c.table_sorts-sorts.result.now = let n = length-map c.args.args.now tree.item_of in omega (arith, n, c.if-args-sorts.false) in
    let reads = ap (λ ts. reads_in_items (items_of (map item_of ts))) c.deref.ensures.value in
    let many : 16 < reads_in_items (items_of (map item_of c.in_ok-args.args.items)) = omega (arith, reads, c.reads_in_terms.ensures, c.if-reads_in_terms-gt-MOST_READS.true) in
    table_reads_fail c.args.book.now.universe (variables_of c.args.variables.now) c.args.name.now (map tree.item_of c.args.args.now) c.in_ok-table.table c.table_sorts-sorts.result.now c.in_ok-table.ensures.told c.table_sorts-sorts.ensures.takes same (names_are_unique c.args.book.now.universe c.well_formed-2.ensures.universe.different) c.requires c.in_ok-args.args c.in_ok-args.ensures many

pub returns : goal.returns
returns c =
    let same : length (map tree.item_of c.args.args.now) ≡ length c.table_sorts-sorts.result.now = let n = length-map c.args.args.now tree.item_of in omega (arith, n, c.if-args-sorts.false) in
    let reads = ap (λ ts. reads_in_items (items_of (map item_of ts))) c.deref.ensures.value in
    let few : reads_in_items (items_of (map item_of c.in_ok-args.args.items)) ≤ 16 = omega (arith, reads, c.reads_in_terms.ensures, c.if-reads_in_terms-gt-MOST_READS.false) in
    table_told c.args.book.now.universe (variables_of c.args.variables.now) c.args.name.now (map tree.item_of c.args.args.now) c.in_ok-table.table c.table_sorts-sorts.result.now c.in_ok-table.ensures.told c.table_sorts-sorts.ensures.takes same (names_are_unique c.args.book.now.universe c.well_formed-2.ensures.universe.different) c.requires c.in_ok-args.args c.in_ok-args.ensures few
