use Rattle.std.proofs.Common.{◌++◌, List, map, All, sym, ap, subst}
use Rattle.pc_accept.specs.Writable.{IsSetOf}
use Rattle.pc_world_list.specs.SetCertificates.{claim_on_sets, given_of}
use Rattle.pc_log.specs.Lines.{LogLine}
use Rattle.pc_log.specs.Spans.{lines_of_span}
use Rattle.pc_world_list.specs.Worlds.{WorldView}
use Rattle.pc_writer.proofs.InTurn.{Writes-then, Writes-cut, Writes-same}
use Rattle.pc_writer.specs.SheetText.{ended}
use Rattle.pc_cert_text.specs.CertificateText.{claim_text, sets_text}
use Rattle.pc_cert_text.specs.inside.Steps.{AreNamedAndOfSheet, ending_text}
use Rattle.pc_cert_text.proofs.SetLemmas.{certified_lines, on_sets, same_lines}
use Rattle.pc_cert_text.proofs.certificate.write_sets.Goals as goal

pub returns-in_err-write_text : goal.returns-in_err-write_text
returns-in_err-write_text g c =
    let p = c.args.proof.now in
    on_sets c.args.book.now c.args.names.now p c.requires
    (Writes-cut c.from_residual.result
    (ended (claim_text c.args.book.now (claim_on_sets p.claim)) ++ (sets_text c.args.book.now.universe (map given_of p.worlds) ++ ending_text c.args.book.now c.args.names.now (lines_of_span p.lines p.span)))
    c.from_residual.ensures.0 c.in_err-write_text.ensures)

pub returns-in_err-write_sets_claim : goal.returns-in_err-write_sets_claim
returns-in_err-write_sets_claim g c =
    let p = c.args.proof.now in
    let claim = ap (λ x. ended (claim_text c.args.book.now (claim_on_sets x))) c.claim.ensures in
    on_sets c.args.book.now c.args.names.now p c.requires
    (Writes-then c.in_ok-write_text.ensures
    (Writes-cut c.from_residual-in_err-write_sets_claim.result (sets_text c.args.book.now.universe (map given_of p.worlds) ++ ending_text c.args.book.now c.args.names.now (lines_of_span p.lines p.span))
    c.from_residual-in_err-write_sets_claim.ensures.0 (Writes-same claim c.in_err-write_sets_claim.ensures)))

pub write_worlds-requires : goal.write_worlds-requires
write_worlds-requires g c = subst (λ (worlds : List WorldView). All (IsSetOf c.args.book.now) (map given_of worlds)) (sym c.sets.ensures) c.requires.written.sets

pub returns-in_err-write_worlds : goal.returns-in_err-write_worlds
returns-in_err-write_worlds g c =
    let p = c.args.proof.now in
    let claim = ap (λ x. ended (claim_text c.args.book.now (claim_on_sets x))) c.claim.ensures in
    let sets = ap (λ (worlds : List WorldView). sets_text c.args.book.now.universe (map given_of worlds)) c.sets.ensures in
    on_sets c.args.book.now c.args.names.now p c.requires
    (Writes-then c.in_ok-write_text.ensures
    (Writes-then (Writes-same claim c.in_ok-write_sets_claim.ensures)
    (Writes-cut c.from_residual-in_err-write_worlds.result (ending_text c.args.book.now c.args.names.now (lines_of_span p.lines p.span)) c.from_residual-in_err-write_worlds.ensures.0 (Writes-same sets c.in_err-write_worlds.ensures))))

pub write_ending-requires-clause-lines : goal.write_ending-requires-clause-lines
write_ending-requires-clause-lines g c =
    subst (λ (ls : List LogLine). AreNamedAndOfSheet c.args.book.now c.args.names.now ls) (sym (same_lines _ _ _ _ c.proof-derived.ensures.lines c.proof-derived.ensures.span)) (certified_lines c.args.book.now c.args.names.now c.args.proof.now c.requires)

pub returns : goal.returns
returns g c =
    let p = c.args.proof.now in
    let claim = ap (λ x. ended (claim_text c.args.book.now (claim_on_sets x))) c.claim.ensures in
    let sets = ap (λ (worlds : List WorldView). sets_text c.args.book.now.universe (map given_of worlds)) c.sets.ensures in
    let ending = ap (ending_text c.args.book.now c.args.names.now) (same_lines _ _ _ _ c.proof-derived.ensures.lines c.proof-derived.ensures.span) in
    on_sets c.args.book.now c.args.names.now p c.requires
    (Writes-then c.in_ok-write_text.ensures
    (Writes-then (Writes-same claim c.in_ok-write_sets_claim.ensures) (Writes-then (Writes-same sets c.in_ok-write_worlds.ensures) (Writes-same ending c.write_ending.ensures))))
