use Rattle.std.proofs.Common.{◌∙◌, ap, arith, codes, sym}
use Rattle.std.proofs.lemmas.List.{length-map, take_all}
use Rattle.pc_writer.specs.Spelling.{joined, value_text}
use Rattle.pc_display.specs.Grid.{columns}
use Rattle.pc_display.specs.Show.{entered_texts}
use Rattle.pc_display.proofs.LineLemmas.{no_entry, value_at}
use Rattle.pc_display.proofs.Spelled.{entered_utf8}
use Rattle.pc_display.proofs.Widths.{columns_nil, next_columns}
use Rattle.pc_display.proofs.columns.values_columns.Goals as goal

pub loop-i-init : goal.loop-i-init
loop-i-init c = (sym columns_nil, omega arith)

pub overflow_add-total-in-loop-i : goal.overflow_add-total-in-loop-i
overflow_add-total-in-loop-i c = omega (arith, c.requires.few, c.loop-i.invariant.1, c.separator_columns.ensures.few, c.value_columns.ensures.few)

pub loop-i-preserved : goal.loop-i-preserved
loop-i-preserved c =
    let u = c.args.book.now.universe in
    let texts = entered_texts u c.args.sort c.args.entries.now in
    let is = value_at u c.args.sort c.args.entries.now c.loop-i.i no_entry (omega arith) in
    let next = next_columns texts c.loop-i.i _ (entered_utf8 u c.requires.formed.universe c.args.sort c.args.entries.now c.requires.values) is in (
      omega (arith, next, c.loop-i.invariant.0, c.separator_columns.ensures.exact, c.value_columns.ensures.exact),
      omega (arith, c.loop-i.invariant.1, c.separator_columns.ensures.few, c.value_columns.ensures.few),
    )

pub returns : goal.returns
returns c =
    let u = c.args.book.now.universe in
    let texts = entered_texts u c.args.sort c.args.entries.now in
    c.loop-i.invariant.0 ∙ ap (λ ts. columns (joined (codes ", ") ts)) (take_all c.loop-i.i texts (omega (arith, length-map c.args.entries.now (λ e. value_text u c.args.sort e.value))))
