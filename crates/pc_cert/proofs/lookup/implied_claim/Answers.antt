use Rattle.std.proofs.Common.{None, Some}
use Rattle.pc_cert.specs.Trees.{pair_of}
use Rattle.pc_cert.proofs.Images.{implied_is}
use Rattle.pc_cert.proofs.lookup.implied_claim.Goals as goal

pub returns-in_default : goal.returns-in_default
returns-in_default c = implied_is c.args.book.now (pair_of c.args.pair.now) c.args.holds None c.in_default.ensures

pub returns : goal.returns
returns c = implied_is c.args.book.now (pair_of c.args.pair.now) c.args.holds (Some c.in-Some.target) c.in-Some.ensures
