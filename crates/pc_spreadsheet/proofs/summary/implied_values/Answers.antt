use Rattle.std.proofs.Common.{◌≡◌, ℕ, subst, arith, map}
use Rattle.pc_sheet.specs.Sizes.{size_of}
use Rattle.pc_sheet.specs.Cells.{values_below}
use Rattle.pc_sheet.specs.Entailment.{IsImplied}
use Rattle.pc_writer.specs.Spelling.{sort_of}
use Rattle.pc_display.proofs.SheetLemmas.{values_end}
use Rattle.pc_spreadsheet.specs.Summary.{IsCount, that_has}
use Rattle.pc_spreadsheet.proofs.Summing.{no_values, next_value}
use Rattle.pc_spreadsheet.proofs.summary.implied_values.Goals as goal

pub loop-value-init : goal.loop-value-init
loop-value-init c = record { counted = no_values c.args.session.now.sheet c.args.cell; few = omega arith }

pub implied-count-requires-clause-value : goal.implied-count-requires-clause-value
implied-count-requires-clause-value c =
    let sheet = c.args.session.now.sheet in
    omega (arith, values_end sheet c.book.result.now c.args.cell c.values_of-value-end.result c.book.ensures c.requires c.values_of-value-end.ensures.exact)

pub loop-value-preserved : goal.loop-value-preserved
loop-value-preserved c = record {
  counted = next_value c.args.session.now.sheet c.args.cell c.loop-value.value c.loop-value.count c.implied-count.result c.loop-value.invariant.counted c.implied-count.ensures.exact;
  few = omega (arith, c.loop-value.invariant.few, c.implied-count.ensures.few);
}

pub returns-clause-exact : goal.returns-clause-exact
returns-clause-exact c =
    let sheet = c.args.session.now.sheet in
    let end = values_end sheet c.book.result.now c.args.cell c.values_of-value-end.result c.book.ensures c.requires c.values_of-value-end.ensures.exact in
    let whole : c.loop-value.value ≡ size_of sheet.universe (sort_of sheet.universe c.args.cell) = omega (arith, end) in
    subst (λ (n : ℕ). IsCount (IsImplied sheet) (map (that_has c.args.cell) (values_below n)) c.loop-value.count) whole c.loop-value.invariant.counted

pub returns-clause-few : goal.returns-clause-few
returns-clause-few c = omega (arith, c.loop-value.invariant.few, c.values_of-value-end.ensures.few)
