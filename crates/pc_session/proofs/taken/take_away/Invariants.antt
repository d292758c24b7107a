use Rattle.std.proofs.Common.{◌≡◌, [], length}
use Rattle.pc_justify_laws.specs.Edits.{edited}
use Rattle.pc_parts.specs.Parts.{Part}
use Rattle.pc_search.specs.Parts.{AreWorldsOf}
use Rattle.pc_session.specs.inside.Taken.{takes}
use Rattle.pc_session.proofs.taken.take_away.Given as goal

abbrev pub invariant-loop-entry : goal.invariant-loop-entry
invariant-loop-entry l = record {
  book : edited l.book (takes l.taken) [] ≡ edited l.initial.book (takes l.taken) [];
  worlds : (p : Part) → AreWorldsOf l.initial.book p l.initial.worlds → AreWorldsOf l.book p l.worlds;
}

abbrev pub decreases-loop-entry : goal.decreases-loop-entry
decreases-loop-entry l = length l.book.entries
