use Rattle.pc_cert.specs.Claims.{IsPairNamed}
use Rattle.pc_cert.specs.Trees.{pair_of}
use Rattle.pc_cert.proofs.EachNamed.{starts, one_more, stopped, finished}
use Rattle.pc_cert.proofs.entries.named_entries.Goals as goal

pub loop-pair-init : goal.loop-pair-init
loop-pair-init c = starts (IsPairNamed c.args.book.now.universe) c.new-entries.result.items c.new-entries.ensures.items

pub loop-pair-preserved : goal.loop-pair-preserved
loop-pair-preserved c = one_more (IsPairNamed c.args.book.now.universe) pair_of c.args.pairs.now c.loop-pair.pair-index c.pair-item.result c.loop-pair-test.true c.pair-item.is c.loop-pair.entries.items c.in-Some.entry c.push.new.self.items c.in_ok-push.ensures.items c.loop-pair.invariant c.in-Some.ensures

pub returns-in_default : goal.returns-in_default
returns-in_default c = stopped (IsPairNamed c.args.book.now.universe) pair_of c.args.pairs.now c.loop-pair.pair-index c.pair-item.result c.loop-pair-test.true c.pair-item.is c.in_default.ensures

pub returns : goal.returns
returns c = finished (IsPairNamed c.args.book.now.universe) pair_of c.args.pairs.now c.loop-pair.pair-index c.loop-pair-test.false c.loop-pair.entries.items c.loop-pair.invariant
