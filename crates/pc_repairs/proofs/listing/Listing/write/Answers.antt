use Rattle.std.proofs.Common.{◌≡◌, List, Some, All, length, map, slice_get, arith, ap, sym, ◌∙◌}
use Rattle.std.proofs.lemmas.Option.{slice_get-get_or}
use Rattle.pc_lemmas.proofs.Elements.{all_unmapped}
use Rattle.pc_sheet.specs.WellFormed.{IsEntryOf}
use Rattle.pc_theory.proofs.Lists.{map_at}
use Rattle.pc_writer.proofs.InPieces.{all_pieces, cut_in_piece}
use Rattle.pc_writer.proofs.InTurn.{Writes-same}
use Rattle.pc_repairs.specs.Listed.{part_lines}
use Rattle.pc_repairs.specs.Listings.{aged_set, part_listed}
use Rattle.pc_repairs.specs.declared.listing.ListingPart.{ListingPart}
use Rattle.pc_repairs.proofs.ListedParts.{cell_within, entries_within, listed_at}
use Rattle.pc_repairs.proofs.Written.{flat_mapped}
use Rattle.pc_repairs.proofs.listing.Listing.write.Goals as goal

pub write_part-requires-clause-cell : goal.write_part-requires-clause-cell
write_part-requires-clause-cell g c =
    let book = c.args.book.now in
    let items = c.args.self.now.parts.items in
    let i = c.loop-part.part-index in
    let r = c.part-item.result in
    let at : slice_get items i ≡ Some r = ap (λ (xs : List ListingPart). slice_get xs i) (sym c.deref-part-items.ensures.value) ∙ (slice_get-get_or c.deref-part-items.result.now i r c.loop-part-test.true ∙ ap (λ x. Some x) (sym c.part-item.is)) in
    let h = listed_at book (map part_listed items) c.requires i (part_listed r) (map_at part_listed items i r at) in
    cell_within book h.0 h.1 h.2 c.well_formed-2.ensures (part_listed r) h.3

pub write_part-requires-clause-sets : goal.write_part-requires-clause-sets
write_part-requires-clause-sets g c =
    let book = c.args.book.now in
    let items = c.args.self.now.parts.items in
    let i = c.loop-part.part-index in
    let r = c.part-item.result in
    let at : slice_get items i ≡ Some r = ap (λ (xs : List ListingPart). slice_get xs i) (sym c.deref-part-items.ensures.value) ∙ (slice_get-get_or c.deref-part-items.result.now i r c.loop-part-test.true ∙ ap (λ x. Some x) (sym c.part-item.is)) in
    let h = listed_at book (map part_listed items) c.requires i (part_listed r) (map_at part_listed items i r at) in
    all_unmapped (λ s. All (IsEntryOf book.universe) s) aged_set r.sets.items (entries_within book h.0 h.1 h.2 c.well_formed-2.ensures (part_listed r) h.3)

pub returns-in_err-write_part : goal.returns-in_err-write_part
returns-in_err-write_part g c =
    let u = c.args.book.now.universe in
    let items = c.args.self.now.parts.items in
    let i = c.loop-part.part-index in
    let r = c.part-item.result in
    let at : slice_get items i ≡ Some r = ap (λ (xs : List ListingPart). slice_get xs i) (sym c.deref-part-items.ensures.value) ∙ (slice_get-get_or c.deref-part-items.result.now i r c.loop-part-test.true ∙ ap (λ x. Some x) (sym c.part-item.is)) in
    Writes-same (sym (flat_mapped (part_lines u) part_listed items)) (cut_in_piece (λ (p : ListingPart). part_lines u (part_listed p)) items i r at c.loop-part.invariant c.from_residual.result c.from_residual.ensures.0 c.in_err-write_part.ensures)

pub returns : goal.returns
returns g c =
    let u = c.args.book.now.universe in
    let items = c.args.self.now.parts.items in
    Writes-same (sym (flat_mapped (part_lines u) part_listed items))
    (all_pieces (λ (p : ListingPart). part_lines u (part_listed p)) items c.loop-part.part-index (omega (arith, c.loop-part-test.false, ap length c.deref-part-items.ensures.value)) c.loop-part.invariant)
