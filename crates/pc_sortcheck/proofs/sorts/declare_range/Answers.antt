use mir.Val.{to_z, of_z}
use Rattle.std.proofs.Common.{◌≡◌, arith, w32, w64}
use Rattle.std.proofs.lemmas.Int.{ints, to_z-of_z}
use Rattle.std.proofs.lemmas.Result.{err_from_is_err_and}
use Rattle.pc_syntax.specs.Tree as tree
use Rattle.pc_sortcheck.specs.DeclarationFaults.{IsDeclarationFault}
use Rattle.pc_sortcheck.proofs.DeclaredSorts.{range_formed, range_declared, range_at_fault, range_fits_so}
use Rattle.pc_sortcheck.proofs.Faults.{handed_on}
use Rattle.pc_sortcheck.proofs.sorts.declare_range.Goals as goal

pub returns-in_err-test_range : goal.returns-in_err-test_range
returns-in_err-test_range c =
    let p = err_from_is_err_and c.from_residual.result c.from_residual.ensures.1 in
    let fault = range_at_fault c.args.book.now c.args.name.now c.args.low c.args.high (to_z w64 (of_z w64 c.args.low)) (to_z w64 (of_z w64 c.args.high)) c.in_err-test_range.field-0.0 (to_z-of_z w64 c.args.low c.ranges.low) (to_z-of_z w64 c.args.high c.ranges.high) c.in_err-test_range.ensures in
    rw p.1 (handed_on (IsDeclarationFault c.args.book.now (tree.range_sort c.args.name.now c.args.low c.args.high)) c.in_err-test_range.field-0.0 p.0 p.2 fault)

pub add_range-requires : goal.add_range-requires
add_range-requires c =
    let fits = range_fits_so c.args.book.now c.args.name.now c.args.low c.args.high (to_z w64 (of_z w64 c.args.low)) (to_z w64 (of_z w64 c.args.high)) (to_z-of_z w64 c.args.low c.ranges.low) (to_z-of_z w64 c.args.high c.ranges.high) c.in_ok-test_range.ensures in
    let low : to_z w32 (of_z w32 c.bound-low.result) ≡ c.args.low = omega (arith, ints) in
    let high : to_z w32 (of_z w32 c.bound-high.result) ≡ c.args.high = omega (arith, ints) in
    range_formed c.args.book.now c.args.name.now c.args.low c.args.high c.in_ok-name.name (to_z w32 (of_z w32 c.bound-low.result)) (to_z w32 (of_z w32 c.bound-high.result)) c.in_ok-name.ensures.cases low high c.keeps_form.ensures c.requires c.is_name.ensures fits

pub returns : goal.returns
returns c =
    let fits = range_fits_so c.args.book.now c.args.name.now c.args.low c.args.high (to_z w64 (of_z w64 c.args.low)) (to_z w64 (of_z w64 c.args.high)) (to_z-of_z w64 c.args.low c.ranges.low) (to_z-of_z w64 c.args.high c.ranges.high) c.in_ok-test_range.ensures in
    let low : to_z w32 (of_z w32 c.bound-low.result) ≡ c.args.low = omega (arith, ints) in
    let high : to_z w32 (of_z w32 c.bound-high.result) ≡ c.args.high = omega (arith, ints) in
    let formed = range_formed c.args.book.now c.args.name.now c.args.low c.args.high c.in_ok-name.name (to_z w32 (of_z w32 c.bound-low.result)) (to_z w32 (of_z w32 c.bound-high.result)) c.in_ok-name.ensures.cases low high c.keeps_form.ensures c.requires c.is_name.ensures fits in
    range_declared c.args.book.now c.args.name.now c.args.low c.args.high c.add_range.new.self c.in_ok-name.name (to_z w32 (of_z w32 c.bound-low.result)) (to_z w32 (of_z w32 c.bound-high.result)) c.in_ok-name.ensures.cases low high c.in_ok-add_range.ensures.ok formed
