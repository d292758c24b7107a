use Rattle.std.proofs.Common.{◌∷◌, []}
use Rattle.pc_writer.proofs.InTurn.{Writes-then, Writes-cut}
use Rattle.pc_cert_text.proofs.claim.write_against_rule.Goals as goal

pub returns-in_err-write_against_name : goal.returns-in_err-write_against_name
returns-in_err-write_against_name g c = Writes-cut c.from_residual.result (10 ∷ []) c.from_residual.ensures.0 c.in_err-write_against_name.ensures

pub returns : goal.returns
returns g c = Writes-then c.in_ok-write_against_name.ensures c.write_text.ensures
