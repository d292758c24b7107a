use Rattle.pc_writer.proofs.InTurn.{Writes-then, Writes-cut}
use Rattle.pc_writer.proofs.lines.write_also.Goals as goal

pub returns-in_err-write_text : goal.returns-in_err-write_text
returns-in_err-write_text g c =
    Writes-cut c.from_residual.result _ c.from_residual.ensures.0 c.in_err-write_text.ensures

pub returns : goal.returns
returns g c =
    Writes-then c.in_ok-write_text.ensures c.write_entry.ensures
