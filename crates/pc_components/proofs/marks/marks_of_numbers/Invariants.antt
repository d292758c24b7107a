use Rattle.std.proofs.Common.{◌≡◌, ◌==◌, ◌++◌, drop, map}
use Rattle.pc_components.proofs.marks.marks_of_numbers.Given as goal

abbrev pub invariant-loop-other : goal.invariant-loop-other
invariant-loop-other l = l.marks.items ++ map (λ n. n == l.number) (drop l.other-index l.numbers) ≡ map (λ n. n == l.number) l.numbers
