use Rattle.std.proofs.Common.{Contains, take}
use Rattle.pc_sortcheck.proofs.names.is_among.Given as goal

abbrev pub invariant-loop-other : goal.invariant-loop-other
invariant-loop-other l = ¬ Contains (take l.other-index l.names) l.name
