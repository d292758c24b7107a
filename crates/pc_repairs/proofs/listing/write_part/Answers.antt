use Rattle.std.proofs.Common.{Err, [], ◌∷◌, List, map, ap, refl, sym, ◌∙◌}
use Rattle.std.specs.List.{flat_map}
use Rattle.pc_writer.specs.Spelling.{cell_text}
use Rattle.pc_writer.proofs.InTurn.{Writes-then, Writes-cut, Writes-same}
use Rattle.pc_repairs.specs.Listed.{keep_line}
use Rattle.pc_repairs.specs.Listings.{aged_set}
use Rattle.pc_repairs.specs.declared.ordering.Aged.{Aged}
use Rattle.pc_repairs.proofs.Written.{flat_mapped}
use Rattle.pc_repairs.proofs.listing.write_part.Goals as goal

pub returns-in_err-write_text : goal.returns-in_err-write_text
returns-in_err-write_text g c =
    let u = c.args.book.now.universe in
    let rest = flat_map (keep_line u) (map aged_set c.args.part.now.sets.items) in
    Writes-cut c.from_residual.result rest c.from_residual.ensures.0
    (Writes-cut {T = Unit {0}} {U = Unit {0}} (Err c.in_err-write_text.field-0.0) (10 ∷ []) refl (Writes-cut {T = Unit {0}} {U = Unit {0}} (Err c.in_err-write_text.field-0.0) (cell_text u c.args.part.now.cell) refl c.in_err-write_text.ensures))

pub returns-in_err-write_cell : goal.returns-in_err-write_cell
returns-in_err-write_cell g c =
    let u = c.args.book.now.universe in
    let rest = flat_map (keep_line u) (map aged_set c.args.part.now.sets.items) in
    Writes-cut c.from_residual-in_err-write_cell.result rest c.from_residual-in_err-write_cell.ensures.0
    (Writes-cut {T = Unit {0}} {U = Unit {0}} (Err c.in_err-write_cell.field-0.0) (10 ∷ []) refl (Writes-then c.in_ok-write_text.ensures c.in_err-write_cell.ensures))

pub returns-in_err-write_text-2 : goal.returns-in_err-write_text-2
returns-in_err-write_text-2 g c =
    let u = c.args.book.now.universe in
    let rest = flat_map (keep_line u) (map aged_set c.args.part.now.sets.items) in
    Writes-cut c.from_residual-in_err-write_text-2.result rest c.from_residual-in_err-write_text-2.ensures.0 (Writes-then (Writes-then c.in_ok-write_text.ensures c.in_ok-write_cell.ensures) c.in_err-write_text-2.ensures)

pub returns : goal.returns
returns g c =
    Writes-then (Writes-then (Writes-then c.in_ok-write_text.ensures c.in_ok-write_cell.ensures) c.in_ok-write_text-2.ensures)
    (Writes-same (ap (λ (as_listed : List Aged). flat_map (λ a. keep_line c.args.book.now.universe (aged_set a)) as_listed) c.deref.ensures.value ∙ sym (flat_mapped (keep_line c.args.book.now.universe) aged_set c.args.part.now.sets.items)) c.write_sets.ensures)
