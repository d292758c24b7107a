use Rattle.std.proofs.Common.{None, Some}
use Rattle.pc_cert.specs.Trees.{pair_of}
use Rattle.pc_cert.proofs.Images.{target_is}
use Rattle.pc_cert.proofs.lookup.named_target.Goals as goal

pub returns-in_default : goal.returns-in_default
returns-in_default c = target_is c.args.book.now.universe (pair_of c.args.pair.now) c.args.holds None c.in_default.ensures

pub returns : goal.returns
returns c = target_is c.args.book.now.universe (pair_of c.args.pair.now) c.args.holds (Some c.in-Some.entry) c.in-Some.ensures
