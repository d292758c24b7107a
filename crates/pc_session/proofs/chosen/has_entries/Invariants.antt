use Rattle.std.proofs.Common.{◌≡◌, ℕ, ◌<◌, false, get_or}
use Rattle.pc_sheet.specs.declared.ids.Entry.{Entry}
use Rattle.pc_parts.specs.Parts.{Part}
use Rattle.pc_parts.specs.PartSheets.{is_on}
use Rattle.pc_theory.specs.Theories.{rules_alone, IsPartNumbered}
use Rattle.pc_session.proofs.chosen.has_entries.Given as goal

abbrev pub invariant-loop-entry : goal.invariant-loop-entry
invariant-loop-entry l = (p : Part) → IsPartNumbered (rules_alone l.book) l.part p → (k : ℕ) (d : Entry) → k < l.entry-index → is_on p.cells (get_or l.entries k d) ≡ false
