use Rattle.std.proofs.Common.{List, take}
use Rattle.pc_sheet.specs.declared.ids.Entry.{Entry}
use Rattle.pc_accept.specs.Sets.{block_of}
use Rattle.pc_checker.specs.Drafts.{AreWritten}
use Rattle.pc_checker.specs.Entered.{AreUsesMarked}
use Rattle.pc_checker.proofs.sets.write_unmarked.Given as goal

abbrev pub invariant-loop-entry : goal.invariant-loop-entry
invariant-loop-entry l = (used : List Entry) → AreUsesMarked used l.marks → AreWritten l.fn.draft l.draft (block_of (take l.entry-index l.entries) used)
