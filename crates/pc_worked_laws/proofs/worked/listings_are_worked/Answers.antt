use Rattle.pc_worked_laws.proofs.ListingsHold.{worked_listings}
use Rattle.pc_worked_laws.proofs.worked.listings_are_worked.Goals as goal

pub returns : goal.returns
returns c = worked_listings
