use Rattle.std.proofs.Common.{arith, sym, subst}
use Rattle.pc_name.specs.Names.{IsName}
use Rattle.pc_sortcheck.proofs.Lists.{all_more, all_taken}
use Rattle.pc_sortcheck.proofs.names.are_names.Goals as goal

pub loop-name-preserved : goal.loop-name-preserved
loop-name-preserved c = all_more IsName c.args.names.now c.loop-name.name-index c.name-item.result c.as_str.result.now c.loop-name.invariant c.name-item.is c.loop-name-test.true c.as_str.ensures.text (subst IsName (sym c.as_str.ensures.text) c.as_str.ensures.name)

pub returns : goal.returns
returns c = all_taken IsName c.args.names.now c.loop-name.name-index (omega arith) c.loop-name.invariant
