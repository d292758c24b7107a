use Rattle.std.proofs.lemmas.Option.{slice_get-get_or}
use Rattle.pc_writer.proofs.InPieces.{cut_in_piece}
use Rattle.pc_cert_text.specs.inside.Steps.{hint_text}
use Rattle.pc_cert_text.proofs.hint.write_hints.Goals as goal

pub returns-in_err-write_hint : goal.returns-in_err-write_hint
returns-in_err-write_hint g c =
    cut_in_piece (hint_text c.args.lines) c.args.hints.now c.loop-hint.hint-index _ (slice_get-get_or c.args.hints.now c.loop-hint.hint-index _ c.loop-hint-test.true) c.loop-hint.invariant
    c.from_residual.result c.from_residual.ensures.0 c.in_err-write_hint.ensures
