use Rattle.std.proofs.Common.{ℕ, ◌<◌, ◌/◌}
use Rattle.pc_support.proofs.WordLemmas.{IsWordWithin}
use Rattle.pc_support.proofs.words.are_within.Given as goal

abbrev pub invariant-loop-at : goal.invariant-loop-at
invariant-loop-at l = (at : ℕ) → l.from / 64 < at → at < l.at → IsWordWithin l.part l.words at 0
