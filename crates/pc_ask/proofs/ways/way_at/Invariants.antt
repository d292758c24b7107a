use Rattle.pc_ask.specs.inside.Ways.{IsLaidFrom}
use Rattle.pc_ask.proofs.ways.way_at.Given as goal

abbrev pub invariant-loop-left : goal.invariant-loop-left
invariant-loop-left l = IsLaidFrom l.fitting l.parts l.number l.left l.rest l.values.items

abbrev pub decreases-loop-left : goal.decreases-loop-left
decreases-loop-left l = l.left
