use Rattle.std.proofs.Common.{◌∙◌}
use Rattle.pc_writer.proofs.InTurn.{Writes-then, Writes-cut, Writes-same}
use Rattle.pc_writer.proofs.formula.write_comparison.Goals as goal

pub returns-in_err-write_side : goal.returns-in_err-write_side
returns-in_err-write_side g c =
    Writes-cut c.from_residual.result _ c.from_residual.ensures.0 c.in_err-write_side.ensures

pub returns-in_err-write_text : goal.returns-in_err-write_text
returns-in_err-write_text g c =
    Writes-then c.in_ok-write_side.ensures (Writes-cut c.from_residual-in_err-write_text.result _ c.from_residual-in_err-write_text.ensures.0 (Writes-same (c.as_bytes.ensures.value ∙ c.op_text.ensures) c.in_err-write_text.ensures))

pub returns : goal.returns
returns g c =
    Writes-then c.in_ok-write_side.ensures (Writes-then (Writes-same (c.as_bytes.ensures.value ∙ c.op_text.ensures) c.in_ok-write_text.ensures) c.write_side-2.ensures)
