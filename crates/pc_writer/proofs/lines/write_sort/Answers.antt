use Rattle.std.proofs.Common.{ap}
use Rattle.pc_writer.specs.SheetText.{values_text}
use Rattle.pc_writer.proofs.Universe.{values_declared}
use Rattle.pc_writer.proofs.InTurn.{Writes-then, Writes-cut, Writes-same}
use Rattle.pc_writer.proofs.lines.write_sort.Goals as goal

pub returns-in_err-write_text : goal.returns-in_err-write_text
returns-in_err-write_text g c =
    Writes-cut c.from_residual.result _ c.from_residual.ensures.0 c.in_err-write_text.ensures

pub returns-in_err-write_sort_name : goal.returns-in_err-write_sort_name
returns-in_err-write_sort_name g c =
    Writes-then c.in_ok-write_text.ensures (Writes-cut c.from_residual-in_err-write_sort_name.result _ c.from_residual-in_err-write_sort_name.ensures.0 c.in_err-write_sort_name.ensures)

pub returns-in_err-write_text-2 : goal.returns-in_err-write_text-2
returns-in_err-write_text-2 g c =
    Writes-then c.in_ok-write_text.ensures (Writes-then c.in_ok-write_sort_name.ensures (Writes-cut c.from_residual-in_err-write_text-2.result _ c.from_residual-in_err-write_text-2.ensures.0 c.in_err-write_text-2.ensures))

pub returns : goal.returns
returns g c =
    Writes-then c.in_ok-write_text.ensures (Writes-then c.in_ok-write_sort_name.ensures (Writes-then c.in_ok-write_text-2.ensures (Writes-same (ap values_text (values_declared c.args.book.now.universe c.args.sort c.requires.sort)) c.write_values.ensures)))
