use Rattle.std.proofs.Common.{◌∙◌, map, arith}
use Rattle.std.proofs.lemmas.List.{length-map}
use Rattle.pc_world_list.specs.SetCertificates.{given_of}
use Rattle.pc_writer.proofs.InPieces.{cut_in_piece, one_more_piece, all_pieces}
use Rattle.pc_cert_text.specs.CertificateText.{set_text}
use Rattle.pc_cert_text.proofs.SetLemmas.{given_at, set_can_be_written}
use Rattle.pc_cert_text.proofs.sets.write_worlds.Goals as goal

pub write_set-requires : goal.write_set-requires
write_set-requires g c =
    let worlds = c.args.sets.now in
    let at = given_at worlds c.loop-i.i c.entries.result.now c.values.result.now (omega (arith, c.loop-i-test.true, c.len-i-end.ensures)) c.entries.ensures.exact (c.values.ensures ∙ c.shown.ensures.exact) in
    let is = set_can_be_written c.args.book.now worlds c.loop-i.i c.entries.result.now c.values.result.now c.requires at in
    record { uses = is.uses; values = is.values }

pub returns-in_err-write_set : goal.returns-in_err-write_set
returns-in_err-write_set g c =
    let worlds = c.args.sets.now in
    let at = given_at worlds c.loop-i.i c.entries.result.now c.values.result.now (omega (arith, c.loop-i-test.true, c.len-i-end.ensures)) c.entries.ensures.exact (c.values.ensures ∙ c.shown.ensures.exact) in
    cut_in_piece (set_text c.args.book.now.universe) (map given_of worlds) c.loop-i.i _ at c.loop-i.invariant c.from_residual.result c.from_residual.ensures.0 c.in_err-write_set.ensures

pub loop-i-preserved : goal.loop-i-preserved
loop-i-preserved g c =
    let worlds = c.args.sets.now in
    let at = given_at worlds c.loop-i.i c.entries.result.now c.values.result.now (omega (arith, c.loop-i-test.true, c.len-i-end.ensures)) c.entries.ensures.exact (c.values.ensures ∙ c.shown.ensures.exact) in
    one_more_piece (set_text c.args.book.now.universe) (map given_of worlds) c.loop-i.i _ at c.loop-i.invariant c.in_ok-write_set.ensures

pub returns : goal.returns
returns g c =
    let worlds = c.args.sets.now in
    all_pieces (set_text c.args.book.now.universe) (map given_of worlds) c.loop-i.i (omega (arith, length-map worlds given_of, c.loop-i-test.false, c.len-i-end.ensures)) c.loop-i.invariant
