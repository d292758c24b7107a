use Rattle.std.proofs.Common.{◌≡◌}
use Rattle.pc_ask.proofs.Numbered.{cut_ways}
use Rattle.pc_ask.proofs.ways.count_ways.Given as goal

abbrev pub invariant-loop-part : goal.invariant-loop-part
invariant-loop-part l = l.count ≡ cut_ways l.parts l.part-index
