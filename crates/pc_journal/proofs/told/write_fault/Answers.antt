use Rattle.std.proofs.Common.{codes, decimal, ◌++◌}
use Rattle.pc_writer.proofs.InTurn.{Writes-then, Writes-cut}
use Rattle.pc_journal.proofs.told.write_fault.Goals as goal

pub returns-in_err-write_text : goal.returns-in_err-write_text
returns-in_err-write_text g c =
    Writes-cut c.from_residual.result (c.args.place.now ++ ((codes " line " ++ decimal c.args.line) ++ codes "\n")) c.from_residual.ensures.0 c.in_err-write_text.ensures

pub returns-in_err-write_text-2 : goal.returns-in_err-write_text-2
returns-in_err-write_text-2 g c =
    Writes-then c.in_ok-write_text.ensures (Writes-cut c.from_residual-in_err-write_text-2.result ((codes " line " ++ decimal c.args.line) ++ codes "\n") c.from_residual-in_err-write_text-2.ensures.0 c.in_err-write_text-2.ensures)

pub returns-in_err-write_number : goal.returns-in_err-write_number
returns-in_err-write_number g c =
    Writes-then c.in_ok-write_text.ensures (Writes-then c.in_ok-write_text-2.ensures (Writes-cut c.from_residual-in_err-write_number.result (codes "\n") c.from_residual-in_err-write_number.ensures.0 c.in_err-write_number.ensures))

pub returns : goal.returns
returns g c = Writes-then c.in_ok-write_text.ensures (Writes-then c.in_ok-write_text-2.ensures (Writes-then c.in_ok-write_number.ensures c.write_text-3.ensures))
