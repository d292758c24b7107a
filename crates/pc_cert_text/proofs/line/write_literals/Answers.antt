use Rattle.std.proofs.lemmas.Option.{slice_get-get_or}
use Rattle.pc_writer.proofs.InPieces.{cut_in_piece}
use Rattle.pc_cert_text.specs.inside.Steps.{spaced_literal_text}
use Rattle.pc_cert_text.proofs.line.write_literals.Goals as goal

pub returns-in_err-write_spaced_literal : goal.returns-in_err-write_spaced_literal
returns-in_err-write_spaced_literal g c =
    cut_in_piece (spaced_literal_text c.args.book.now c.args.names.now) c.args.clause.now c.loop-literal.literal-index _ (slice_get-get_or c.args.clause.now c.loop-literal.literal-index _ c.loop-literal-test.true) c.loop-literal.invariant
    c.from_residual.result c.from_residual.ensures.0 c.in_err-write_spaced_literal.ensures
