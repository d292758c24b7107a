use Rattle.std.proofs.Common.{◌≡◌, ℕ, List, refl, ap, arith}
use Rattle.pc_sheet.specs.Cells.{values_below}
use Rattle.pc_sheet.specs.Sizes.{size_of}
use Rattle.pc_sheet.specs.declared.ids.ValueId.{ValueId}
use Rattle.std.specs.List.{flat_map}
use Rattle.pc_writer.specs.Spelling.{sort_of}
use Rattle.pc_writer.proofs.InTurn.{Writes-nil, Writes-same}
use Rattle.pc_display.specs.Show.{reason_of, value_line}
use Rattle.pc_display.proofs.Below.{cut_within, one_more_written}
use Rattle.pc_display.proofs.SheetLemmas.{values_end}
use Rattle.pc_display.proofs.display.write_value_lines.Goals as goal

pub write_if_implied-requires-clause-value : goal.write_if_implied-requires-clause-value
write_if_implied-requires-clause-value g c =
    let sheet = g.V.Supports.sheet c.args.view.now in
    omega (arith, values_end sheet c.book.result.now c.args.cell c.values_of-value-end.result c.book.ensures c.requires.cell c.values_of-value-end.ensures.exact)

pub loop-value-init : goal.loop-value-init
loop-value-init g c = λ reason is. Writes-nil g.O.Sink.given g.O.Sink.faults c.args.out.now tt

pub loop-value-preserved : goal.loop-value-preserved
loop-value-preserved g c = λ reason is.
    let u = (g.V.Supports.sheet c.args.view.now).universe in
    let line : ValueId → List ℕ = λ v. value_line u (sort_of u c.args.cell) v (reason_of reason c.args.cell v) in
    one_more_written values_below (λ n. record { 0 = n }) (λ n. refl) line c.loop-value.value (c.loop-value.invariant reason is) (c.in_ok-write_if_implied.ensures reason is)

pub returns-in_err-write_if_implied : goal.returns-in_err-write_if_implied
returns-in_err-write_if_implied g c = λ reason is.
    let sheet = g.V.Supports.sheet c.args.view.now in
    let u = sheet.universe in
    let line : ValueId → List ℕ = λ v. value_line u (sort_of u c.args.cell) v (reason_of reason c.args.cell v) in
    let end = values_end sheet c.book.result.now c.args.cell c.values_of-value-end.result c.book.ensures c.requires.cell c.values_of-value-end.ensures.exact in
    cut_within values_below (λ n. record { 0 = n }) (λ n. refl) line c.loop-value.value (c.loop-value.invariant reason is) (size_of u (sort_of u c.args.cell)) c.from_residual.result (omega (arith, end)) c.from_residual.ensures.0 (c.in_err-write_if_implied.ensures reason is)

pub returns : goal.returns
returns g c = λ reason is.
    let sheet = g.V.Supports.sheet c.args.view.now in
    let u = sheet.universe in
    let line : ValueId → List ℕ = λ v. value_line u (sort_of u c.args.cell) v (reason_of reason c.args.cell v) in
    let end = values_end sheet c.book.result.now c.args.cell c.values_of-value-end.result c.book.ensures c.requires.cell c.values_of-value-end.ensures.exact in
    let whole : c.loop-value.value ≡ size_of u (sort_of u c.args.cell) = omega (arith, end) in
    Writes-same (ap (λ n. flat_map line (values_below n)) whole) (c.loop-value.invariant reason is)
