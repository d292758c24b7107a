-- What is listed of a sheet.
use Rattle.std.specs.Prelude.{◌≡◌, ℕ, List}
use Rattle.std.specs.List.{AllZip}
use Rattle.pc_sheet.specs.Sheet.{Sheet}
use Rattle.pc_world_list.specs.Chosen.{chosen_parts}
use Rattle.pc_repairs.specs.Listed.{ListedPart, IsListedPart, listing_text}

-- each part that has an entry on its cells, in the order of parts
abbrev pub IsListing : Sheet → List ListedPart → Type 0
IsListing sheet listing = AllZip (IsListedPart sheet) (chosen_parts sheet) listing

-- the listing of the sheet
abbrev pub IsListed : Sheet → List ℕ → Type 0
IsListed sheet text = (listing : List ListedPart) × IsListing sheet listing × (text ≡ listing_text sheet.universe listing)
