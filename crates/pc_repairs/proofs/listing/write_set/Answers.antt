use Rattle.std.proofs.Common.{Err, [], ◌∷◌, refl}
use Rattle.pc_writer.proofs.InTurn.{Writes-then, Writes-cut}
use Rattle.pc_repairs.specs.Listed.{keep_text}
use Rattle.pc_repairs.proofs.listing.write_set.Goals as goal

pub returns-in_err-write_text : goal.returns-in_err-write_text
returns-in_err-write_text g c =
    let u = c.args.book.now.universe in
    Writes-cut c.from_residual.result (10 ∷ []) c.from_residual.ensures.0
    (Writes-cut {T = Unit {0}} {U = Unit {0}} (Err c.in_err-write_text.field-0.0) (keep_text u c.args.set.now) refl c.in_err-write_text.ensures)

pub returns-in_err-write_kept : goal.returns-in_err-write_kept
returns-in_err-write_kept g c = Writes-cut c.from_residual-in_err-write_kept.result (10 ∷ []) c.from_residual-in_err-write_kept.ensures.0 (Writes-then c.in_ok-write_text.ensures c.in_err-write_kept.ensures)

pub returns : goal.returns
returns g c = Writes-then (Writes-then c.in_ok-write_text.ensures c.in_ok-write_kept.ensures) c.write_text-2.ensures
