use Rattle.pc_writer.proofs.InTurn.{Writes-then, Writes-cut}
use Rattle.pc_cert_text.specs.CertificateText.{name_of_rule_at}
use Rattle.pc_cert_text.proofs.claim.write_against_name.Goals as goal

pub returns-in_err-write_text : goal.returns-in_err-write_text
returns-in_err-write_text g c = Writes-cut c.from_residual.result (name_of_rule_at c.args.book.now c.args.rule) c.from_residual.ensures.0 c.in_err-write_text.ensures

pub returns : goal.returns
returns g c = Writes-then c.in_ok-write_text.ensures c.write_rule_name.ensures
