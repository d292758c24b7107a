use Rattle.std.proofs.Common.{codes, decimal, ◌++◌}
use Rattle.pc_writer.proofs.InTurn.{Writes-then, Writes-cut}
use Rattle.pc_journal.proofs.told.write_differ.Goals as goal

pub returns-in_err-write_number : goal.returns-in_err-write_number
returns-in_err-write_number g c =
    Writes-cut c.from_residual.result ((codes " number " ++ decimal c.args.number) ++ codes "\n") c.from_residual.ensures.0 c.in_err-write_number.ensures

pub returns-in_err-write_number-2 : goal.returns-in_err-write_number-2
returns-in_err-write_number-2 g c =
    Writes-then c.in_ok-write_number.ensures (Writes-cut c.from_residual-in_err-write_number-2.result (codes "\n") c.from_residual-in_err-write_number-2.ensures.0 c.in_err-write_number-2.ensures)

pub returns : goal.returns
returns g c = Writes-then c.in_ok-write_number.ensures (Writes-then c.in_ok-write_number-2.ensures c.write_text.ensures)
