use Rattle.std.proofs.Common.{◌≡◌, map, take}
use Rattle.pc_checker.specs.Drafts.{lit_of}
use Rattle.pc_checker.proofs.draft.signed.Given as goal

abbrev pub invariant-loop-number : goal.invariant-loop-number
invariant-loop-number l = l.lits.items ≡ map (lit_of l.sign) (take l.number-index l.numbers)
