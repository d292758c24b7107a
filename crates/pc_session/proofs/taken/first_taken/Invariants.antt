use Rattle.std.proofs.Common.{◌≡◌, ℕ, ◌<◌, false, get_or}
use Rattle.pc_sheet.specs.declared.ids.Entry.{Entry}
use Rattle.pc_session.specs.inside.Taken.{takes}
use Rattle.pc_session.proofs.taken.first_taken.Given as goal

abbrev pub invariant-loop-entry : goal.invariant-loop-entry
invariant-loop-entry l = (k : ℕ) (d : Entry) → k < l.entry-index → takes l.taken (get_or l.entries k d) ≡ false
