use Rattle.std.proofs.Common.{arith}
use Rattle.pc_lits.proofs.StampLemmas.{shown-blank}
use Rattle.pc_lits.proofs.values.Values.new.Goals as goal

pub returns : goal.returns
returns c = rw (c.in_ok-cells.ensures.items_if_clones_equal (λ y same. same)) (shown-blank 1 c.args.variables _ (omega arith))
