use Rattle.std.proofs.Common.{◌≡◌, ℕ, ◌<◌, get_or, length}
use Rattle.pc_cert.specs.Views.{set_of}
use Rattle.pc_cert.specs.declared.cert.SaidSet.{SaidSet}
use Rattle.pc_checker.specs.Verdicts.{AreApart}
use Rattle.pc_checker.proofs.sets.is_apart_from.Given as goal

abbrev pub invariant-loop-earlier : goal.invariant-loop-earlier
invariant-loop-earlier l = record {
  apart : (k : ℕ) (d : SaidSet) → k < l.earlier → AreApart (set_of (get_or l.sets k d)) (set_of (get_or l.sets l.place d));
  room : length l.marks ≡ length l.fn.marks;
}
