use Rattle.std.proofs.Common.{Some, ap, sym, ◌∙◌}
use Rattle.std.proofs.lemmas.Option.{slice_get-get_or}
use Rattle.pc_writer.proofs.InPieces.{cut_in_piece}
use Rattle.pc_repairs.specs.Listed.{keep_line}
use Rattle.pc_repairs.specs.Listings.{aged_set}
use Rattle.pc_repairs.specs.declared.ordering.Aged.{Aged}
use Rattle.pc_repairs.proofs.listing.write_sets.Goals as goal

pub returns-in_err-write_set : goal.returns-in_err-write_set
returns-in_err-write_set g c =
    let a = c.aged-item.result in
    cut_in_piece (λ (x : Aged). keep_line c.args.book.now.universe (aged_set x)) c.args.sets.now c.loop-aged.aged-index a (slice_get-get_or c.args.sets.now c.loop-aged.aged-index a c.loop-aged-test.true ∙ ap (λ x. Some x) (sym c.aged-item.is)) c.loop-aged.invariant
    c.from_residual.result c.from_residual.ensures.0 c.in_err-write_set.ensures
