use Rattle.std.proofs.Common.{take}
use Rattle.pc_lits.specs.Scan.{IsScanned}
use Rattle.pc_lits.proofs.scan.left_of.Given as goal

abbrev pub invariant-loop-lit : goal.invariant-loop-lit
invariant-loop-lit l = IsScanned l.values (take l.lit-index l.clause) l.left
