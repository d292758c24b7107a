use Rattle.std.proofs.Common.{◌≡◌, take, length}
use Rattle.pc_checker.specs.inside.Parts.{AreMarked}
use Rattle.pc_checker.proofs.derivation.mark.Given as goal

abbrev pub invariant-loop-lit : goal.invariant-loop-lit
invariant-loop-lit l = record {
  marks : AreMarked l.sign (take l.lit-index l.lits) l.values;
  room : length l.values ≡ length l.initial.values;
}
