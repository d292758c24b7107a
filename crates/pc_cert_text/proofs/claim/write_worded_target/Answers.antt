use Rattle.pc_writer.proofs.InTurn.{Writes-then, Writes-cut}
use Rattle.pc_cert_text.specs.CertificateText.{target_text}
use Rattle.pc_cert_text.proofs.claim.write_worded_target.Goals as goal

pub returns-in_err-write_text : goal.returns-in_err-write_text
returns-in_err-write_text g c = Writes-cut c.from_residual.result (target_text c.args.book.now.universe c.args.target) c.from_residual.ensures.0 c.in_err-write_text.ensures

pub returns : goal.returns
returns g c = Writes-then c.in_ok-write_text.ensures c.write_target.ensures
