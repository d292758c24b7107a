use Rattle.std.proofs.Common.{◌∙◌}
use Rattle.pc_writer.proofs.InTurn.{Writes-then, Writes-cut, Writes-same}
use Rattle.pc_writer.proofs.lines.write_rule.Goals as goal

pub returns-in_err-write_text : goal.returns-in_err-write_text
returns-in_err-write_text g c =
    Writes-cut c.from_residual.result _ c.from_residual.ensures.0 c.in_err-write_text.ensures

pub returns-in_err-write_text-2 : goal.returns-in_err-write_text-2
returns-in_err-write_text-2 g c =
    Writes-then c.in_ok-write_text.ensures (Writes-cut c.from_residual-in_err-write_text-2.result _ c.from_residual-in_err-write_text-2.ensures.0 (Writes-same (c.as_bytes.ensures.value ∙ c.as_str.ensures.text) c.in_err-write_text-2.ensures))

pub returns-in_err-write_text-3 : goal.returns-in_err-write_text-3
returns-in_err-write_text-3 g c =
    Writes-then c.in_ok-write_text.ensures (Writes-then (Writes-same (c.as_bytes.ensures.value ∙ c.as_str.ensures.text) c.in_ok-write_text-2.ensures) (Writes-cut c.from_residual-in_err-write_text-3.result _ c.from_residual-in_err-write_text-3.ensures.0 c.in_err-write_text-3.ensures))

pub returns : goal.returns
returns g c =
    Writes-then c.in_ok-write_text.ensures (Writes-then (Writes-same (c.as_bytes.ensures.value ∙ c.as_str.ensures.text) c.in_ok-write_text-2.ensures) (Writes-then c.in_ok-write_text-3.ensures c.write_formula.ensures))
