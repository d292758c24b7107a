use Rattle.pc_afresh_laws.proofs.Listings.{listings_are_one}
use Rattle.pc_afresh_laws.proofs.law.listings_are_one.Goals as goal

pub returns : goal.returns
returns c = listings_are_one
