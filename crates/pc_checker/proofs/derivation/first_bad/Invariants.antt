use Rattle.std.proofs.Common.{◌≡◌, length}
use Rattle.pc_checker.specs.inside.Parts.{AreGoodBelow}
use Rattle.pc_checker.proofs.derivation.first_bad.Given as goal

abbrev pub invariant-loop-place : goal.invariant-loop-place
invariant-loop-place l = record {
  good : AreGoodBelow l.clauses l.axioms l.lines l.place;
  room : length l.values ≡ length l.initial.values;
}
