-- What is found by narrowing.
use Rattle.std.specs.Prelude.{◌≡◌, List, Option, None, Some, slice_get}
use Rattle.pc_log.specs.Lines.{LogLine}
use Rattle.pc_accept.specs.Sets.{those_in}
use Rattle.pc_ask.specs.declared.narrowing.Choosing.{Choosing}
use Rattle.pc_ask.specs.declared.narrowing.Narrowed.{Narrowed}
use Rattle.pc_ask.specs.declared.finding.Found.{Found}
use Rattle.pc_ask.specs.inside.Choices.{ways_of, HasNone, IsNarrowedTo}

-- the kept entries, oldest first, with the witness's assignment and line
pub record IsFoundOf (c : Choosing) (n : Narrowed) (found : Found) : Type 0 where
  pub support_is : found.support.items ≡ those_in c.task.book.now.entries n.kept.items
  pub shown_is : slice_get (ways_of c) n.witness.way ≡ Some found.shown
  pub last_is : found.last ≡ n.witness.line

abbrev pub FindSays : Choosing → List LogLine → Option Found → Type 0
FindSays c log None = HasNone c
FindSays c log (Some found) = (n : Narrowed) × IsNarrowedTo c 0 log n × IsFoundOf c n found
