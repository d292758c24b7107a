use Rattle.std.proofs.Common.{◌++◌, arith}
use Rattle.pc_accept.specs.Accepts.{against}
use Rattle.pc_log.specs.Spans.{lines_of_span}
use Rattle.pc_reason.specs.Derivation.{entries_from}
use Rattle.pc_writer.proofs.InTurn.{Writes-then, Writes-cut}
use Rattle.pc_writer.specs.SheetText.{ended}
use Rattle.pc_cert_text.specs.CertificateText.{claim_text, uses_text, values_text}
use Rattle.pc_cert_text.specs.inside.Steps.{ending_text}
use Rattle.pc_cert_text.proofs.SetLemmas.{on_rule}
use Rattle.pc_cert_text.proofs.certificate.write_against.Goals as goal

pub write_grounds-requires : goal.write_grounds-requires
write_grounds-requires g c = record {
  uses = c.requires.written.uses;
  values = c.requires.written.values;
  kept = c.requires.lies;
  lines = record { sets = 0; few = omega arith; named = c.requires.named; written = c.requires.written.lines };
}

pub returns-in_err-write_text : goal.returns-in_err-write_text
returns-in_err-write_text g c =
    let p = c.args.proof in
    let u = c.args.asked.now.universe in
    on_rule c.args.asked.now p.names.now c.args.rule c.args.support.now c.args.shown.now p.log.now p.span c.requires
    (Writes-cut c.from_residual.result
    (ended (claim_text c.args.asked.now (against c.args.rule)) ++ (uses_text u c.args.support.now ++ (values_text u (entries_from 0 c.args.shown.now) ++ ending_text c.args.asked.now p.names.now (lines_of_span p.log.now p.span))))
    c.from_residual.ensures.0 c.in_err-write_text.ensures)

pub returns-in_err-write_against_rule : goal.returns-in_err-write_against_rule
returns-in_err-write_against_rule g c =
    let p = c.args.proof in
    let u = c.args.asked.now.universe in
    on_rule c.args.asked.now p.names.now c.args.rule c.args.support.now c.args.shown.now p.log.now p.span c.requires
    (Writes-then c.in_ok-write_text.ensures
    (Writes-cut c.from_residual-in_err-write_against_rule.result
    (uses_text u c.args.support.now ++ (values_text u (entries_from 0 c.args.shown.now) ++ ending_text c.args.asked.now p.names.now (lines_of_span p.log.now p.span)))
    c.from_residual-in_err-write_against_rule.ensures.0 c.in_err-write_against_rule.ensures))

pub returns : goal.returns
returns g c =
    let p = c.args.proof in
    on_rule c.args.asked.now p.names.now c.args.rule c.args.support.now c.args.shown.now p.log.now p.span c.requires
    (Writes-then c.in_ok-write_text.ensures (Writes-then c.in_ok-write_against_rule.ensures c.write_grounds.ensures))
