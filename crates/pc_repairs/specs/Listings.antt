-- What a listing in memory lists.
use Rattle.std.specs.Prelude.{List, map}
use Rattle.pc_sheet.specs.declared.ids.Entry.{Entry}
use Rattle.pc_repairs.specs.Listed.{ListedPart}
use Rattle.pc_repairs.specs.declared.ordering.Aged.{Aged}
use Rattle.pc_repairs.specs.declared.listing.ListingPart.{ListingPart}
use Rattle.pc_repairs.specs.declared.listing.Listing.{Listing}

abbrev pub aged_set : Aged → List Entry
aged_set a = a.entries.now

abbrev pub part_listed : ListingPart → ListedPart
part_listed p = record { cell = p.cell; sets = map aged_set p.sets.items }

abbrev pub listed_in : Listing → List ListedPart
listed_in l = map part_listed l.parts.items
