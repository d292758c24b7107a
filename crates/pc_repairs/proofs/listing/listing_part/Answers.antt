use Rattle.std.proofs.Common.{List, All, AllPairs, map, sym, subst}
use Rattle.pc_sheet.specs.Entailment.{IsSublist}
use Rattle.pc_sheet.specs.declared.ids.Entry.{Entry}
use Rattle.pc_parts.specs.PartSheets.{sheet_of}
use Rattle.pc_repairs.specs.Listed.{ComesFirst}
use Rattle.pc_repairs.specs.Listings.{aged_set}
use Rattle.pc_repairs.proofs.Exact.{are_apart}
use Rattle.pc_repairs.proofs.ListedParts.{listed_part, some_cells, sublists_of}
use Rattle.pc_repairs.proofs.listing.listing_part.Goals as goal

pub in_order-requires-clause-sublists : goal.in_order-requires-clause-sublists
in_order-requires-clause-sublists c =
    let r = c.requires in subst (λ (es : List Entry). All (λ w. IsSublist es w.entries) c.args.part.sets.now) (sym c.entries.ensures.items) (sublists_of c.args.book.now r.0 r.1 r.2 c.args.part r.3)

pub in_order-requires-clause-apart : goal.in_order-requires-clause-apart
in_order-requires-clause-apart c = let r = c.requires in are_apart (sheet_of c.args.book.now r.0) c.args.part.sets.now r.3.exact

pub bounds-part-0 : goal.bounds-part-0
bounds-part-0 c = let r = c.requires in some_cells c.args.book.now r.0 r.1 r.2 c.args.part r.3

pub returns : goal.returns
returns c p k at is = listed_part c.args.book.now p k at c.args.part is c.in_ok-sets.sets.items (record { 0 = 0 }) c.in_ok-sets.ensures.worlds
    (subst (λ (es : List Entry). AllPairs (ComesFirst es) (map aged_set c.in_ok-sets.sets.items)) c.entries.ensures.items c.in_ok-sets.ensures.order)
