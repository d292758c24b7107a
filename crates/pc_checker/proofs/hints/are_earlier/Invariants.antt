use Rattle.std.proofs.Common.{All, take}
use Rattle.pc_checker.specs.inside.Numbers.{IsNumberUpTo}
use Rattle.pc_checker.proofs.hints.are_earlier.Given as goal

abbrev pub invariant-loop-number : goal.invariant-loop-number
invariant-loop-number l = All (IsNumberUpTo l.place) (take l.number-index l.numbers)
