-- What a run is: all that is said of it, over any devices.
use Rattle.std.specs.Prelude.{◌≡◌, ◌⊎◌, ℕ, List}
use Rattle.pc_refusals.specs.declared.status.Status.{Status}
use Rattle.pc_refusals.specs.Events.{Outside, ShelfWords, SourceWords, SinkWords, outside_of}
use Rattle.pc_spreadsheet.specs.Allowed.{Notes}
use Rattle.pc_replay.specs.Course.{Runs, RunsAsAsked}
use Rattle.pc_theorem.specs.Theorem.{KeepsItsWord}
use Rattle.pc_theorem.specs.Journals.{KeepsJournals}
use Rattle.pc_theorem.specs.Demonstrations.{Demonstrates}
use Rattle.pc_theorem.specs.Devices.{AreUsedAsAsked}

-- what a run is worth, in the words of sheets alone, by the three pages
pub record IsWorth (words : List (List ℕ)) (status : Status) (before after : Outside) : Type 0 where
  pub word : KeepsItsWord words status before after
  pub journals : KeepsJournals words status before after
  pub demo : Demonstrates words status before after

-- what devices tell of themselves, and which they are before and after
module _ {I H O : Type 0} (h : ShelfWords H) (i : SourceWords I) (o : SinkWords O) (shelf shelf' : H) (input input' : I) (output output' : O) where
  abbrev pub before : Outside
  before = outside_of h i o shelf input output

  abbrev pub after : Outside
  after = outside_of h i o shelf' input' output'

  -- the input and the shelf are as they were
  abbrev pub AreLeft : Type 0
  AreLeft = (input' ≡ input) × (shelf' ≡ shelf)

  -- A run with these words: what it is worth; what the pages are silent about, each event, status, refusal and spending; that it went as the words
  -- ask, or left the input and the shelf as they were; and how it used its devices, whether or not they tell their bytes.
  pub record IsRunOf (words : List (List ℕ)) (status : Status) (notes noted : Notes) : Type 0 where
    pub worth : IsWorth words status before after
    pub runs : Runs words status notes noted before after
    pub as_asked : RunsAsAsked words status notes noted before after ⊎ AreLeft
    pub devices : AreUsedAsAsked words status h.kept h.faults i.faults o.faults shelf shelf' input input' output output'
