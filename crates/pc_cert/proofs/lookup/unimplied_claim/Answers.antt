use Rattle.std.proofs.Common.{None, Some}
use Rattle.pc_cert.specs.Trees.{pair_of}
use Rattle.pc_cert.proofs.Images.{unimplied_is}
use Rattle.pc_cert.proofs.lookup.unimplied_claim.Goals as goal

pub returns-in_default : goal.returns-in_default
returns-in_default c = unimplied_is c.args.book.now (pair_of c.args.pair.now) None c.in_default.ensures

pub returns : goal.returns
returns c = unimplied_is c.args.book.now (pair_of c.args.pair.now) (Some c.in-Some.target) c.in-Some.ensures
