use Rattle.std.proofs.Common.{codes, arith}
use Rattle.pc_writer.proofs.Joined.{cut_in_separator, cut_in_text, one_more_text}
use Rattle.pc_display.specs.Show.{entered_texts}
use Rattle.pc_display.proofs.LineLemmas.{no_entry, value_at}
use Rattle.pc_display.proofs.lines.write_values.Goals as goal

pub returns-in_err-write_separator : goal.returns-in_err-write_separator
returns-in_err-write_separator g c =
    let u = c.args.book.now.universe in
    let is = value_at u c.args.sort c.args.entries.now c.loop-i.i no_entry (omega arith) in
    cut_in_separator (codes ", ") (entered_texts u c.args.sort c.args.entries.now) c.loop-i.i _ is c.loop-i.invariant c.from_residual.result c.from_residual.ensures.0 c.in_err-write_separator.ensures

pub returns-in_err-write_value : goal.returns-in_err-write_value
returns-in_err-write_value g c =
    let u = c.args.book.now.universe in
    let is = value_at u c.args.sort c.args.entries.now c.loop-i.i no_entry (omega arith) in
    cut_in_text (codes ", ") (entered_texts u c.args.sort c.args.entries.now) c.loop-i.i _ is c.loop-i.invariant c.in_ok-write_separator.ensures c.from_residual-in_err-write_value.result c.from_residual-in_err-write_value.ensures.0 c.in_err-write_value.ensures

pub loop-i-preserved : goal.loop-i-preserved
loop-i-preserved g c =
    let u = c.args.book.now.universe in
    let is = value_at u c.args.sort c.args.entries.now c.loop-i.i no_entry (omega arith) in
    one_more_text (codes ", ") (entered_texts u c.args.sort c.args.entries.now) c.loop-i.i _ is c.loop-i.invariant c.in_ok-write_separator.ensures c.in_ok-write_value.ensures
