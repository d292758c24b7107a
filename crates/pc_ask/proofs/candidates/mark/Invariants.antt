use Rattle.std.proofs.Common.{◌≡◌, ℕ, ◌+◌, ◌-◌, length}
use Rattle.pc_ask.specs.inside.Reading.{has_mark}
use Rattle.pc_ask.proofs.candidates.mark.Given as goal

abbrev pub invariant-room : goal.invariant-room
invariant-room l = (c : ℕ) → has_mark l.marks.items c ≡ has_mark l.fn.marks.items c

abbrev pub decreases-room : goal.decreases-room
decreases-room l = l.cell + 1 - length l.marks.items
