use Rattle.std.proofs.Common.{codes, decimal, ◌++◌}
use Rattle.pc_writer.proofs.InTurn.{Writes-then, Writes-cut}
use Rattle.pc_refusals.proofs.refusal.write_counts.Goals as goal

pub returns-in_err-write_number : goal.returns-in_err-write_number
returns-in_err-write_number g c =
    Writes-cut c.from_residual.result (codes " learned=" ++ (decimal c.args.counts.learned ++ (codes " calls=" ++ decimal c.args.counts.calls))) c.from_residual.ensures.0 c.in_err-write_number.ensures

pub returns-in_err-write_number-2 : goal.returns-in_err-write_number-2
returns-in_err-write_number-2 g c =
    Writes-then c.in_ok-write_number.ensures (Writes-cut c.from_residual-in_err-write_number-2.result (codes " calls=" ++ decimal c.args.counts.calls) c.from_residual-in_err-write_number-2.ensures.0 c.in_err-write_number-2.ensures)

pub returns : goal.returns
returns g c = Writes-then c.in_ok-write_number.ensures (Writes-then c.in_ok-write_number-2.ensures c.write_number-3.ensures)
