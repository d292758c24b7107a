use Rattle.std.proofs.Common.{◌∷◌, []}
use Rattle.pc_writer.proofs.InTurn.{Writes-then, Writes-cut}
use Rattle.pc_cert_text.proofs.claim.write_target_line.Goals as goal

pub returns-in_err-write_worded_target : goal.returns-in_err-write_worded_target
returns-in_err-write_worded_target g c = Writes-cut c.from_residual.result (10 ∷ []) c.from_residual.ensures.0 c.in_err-write_worded_target.ensures

pub returns : goal.returns
returns g c = Writes-then c.in_ok-write_worded_target.ensures c.write_text.ensures
