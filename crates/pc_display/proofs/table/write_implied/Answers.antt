use Rattle.std.proofs.Common.{◌≡◌, arith, refl, sym, ◌∙◌, ap}
use Rattle.pc_sheet.specs.Sizes.{size_of}
use Rattle.pc_writer.specs.Spelling.{sort_of}
use Rattle.pc_writer.proofs.InTurn.{Writes-nil, Writes-then, Writes-same}
use Rattle.pc_display.specs.Show.{listed_texts}
use Rattle.pc_display.proofs.ImpliedSoFar.{any_more, so_far, value_cut, value_written}
use Rattle.pc_display.proofs.Joining.{listed_none, listed_some}
use Rattle.pc_display.proofs.SheetLemmas.{values_end}
use Rattle.pc_display.proofs.table.write_implied.Goals as goal

pub write_next_implied-requires-clause-value : goal.write_next_implied-requires-clause-value
write_next_implied-requires-clause-value g c =
    let sheet = g.V.Supports.sheet c.args.view.now in
    omega (arith, values_end sheet c.book.result.now c.args.cell c.values_of-value-end.result c.book.ensures c.requires c.values_of-value-end.ensures.exact)

pub loop-value-init : goal.loop-value-init
loop-value-init g c = λ reason is. (refl, Writes-nil g.O.Sink.given g.O.Sink.faults c.args.out.now tt)

pub loop-value-preserved : goal.loop-value-preserved
loop-value-preserved g c = λ reason is.
    let u = (g.V.Supports.sheet c.args.view.now).universe in
    let before = c.loop-value.invariant reason is in (
      any_more u reason c.args.cell c.loop-value.value c.loop-value.some c.in_ok-some.some before.0 (c.in_ok-some.ensures.more reason is),
      value_written u reason c.args.cell c.loop-value.value c.loop-value.some before.0 before.1 tt (c.in_ok-some.ensures.text reason is),
    )

pub returns-in_err-some : goal.returns-in_err-some
returns-in_err-some g c = λ reason is.
    let sheet = g.V.Supports.sheet c.args.view.now in
    let u = sheet.universe in
    let end = values_end sheet c.book.result.now c.args.cell c.values_of-value-end.result c.book.ensures c.requires c.values_of-value-end.ensures.exact in
    let before = c.loop-value.invariant reason is in
    value_cut u reason c.args.cell c.loop-value.value c.loop-value.some before.0 before.1 (size_of u (sort_of u c.args.cell)) c.from_residual.result (omega (arith, end)) c.from_residual.ensures.0 (c.in_err-some.ensures.text reason is)

pub returns-then-some : goal.returns-then-some
returns-then-some g c = λ reason is.
    let sheet = g.V.Supports.sheet c.args.view.now in
    let u = sheet.universe in
    let end = values_end sheet c.book.result.now c.args.cell c.values_of-value-end.result c.book.ensures c.requires c.values_of-value-end.ensures.exact in
    let whole : c.loop-value.value ≡ size_of u (sort_of u c.args.cell) = omega (arith, end) in
    let before = c.loop-value.invariant reason is in
    Writes-same (listed_some (so_far u reason c.args.cell c.loop-value.value) (sym c.if-some.true ∙ before.0) ∙ ap (λ n. listed_texts (so_far u reason c.args.cell n)) whole) before.1

pub returns-else-some : goal.returns-else-some
returns-else-some g c = λ reason is.
    let sheet = g.V.Supports.sheet c.args.view.now in
    let u = sheet.universe in
    let end = values_end sheet c.book.result.now c.args.cell c.values_of-value-end.result c.book.ensures c.requires c.values_of-value-end.ensures.exact in
    let whole : c.loop-value.value ≡ size_of u (sort_of u c.args.cell) = omega (arith, end) in
    let before = c.loop-value.invariant reason is in
    Writes-same (listed_none (so_far u reason c.args.cell c.loop-value.value) (sym c.if-some.false ∙ before.0) ∙ ap (λ n. listed_texts (so_far u reason c.args.cell n)) whole) (Writes-then before.1 c.write_text.ensures)
