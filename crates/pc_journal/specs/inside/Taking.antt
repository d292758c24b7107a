-- What is taken of an input that should be a journal's text.
use Rattle.std.specs.Prelude.{ℕ, List, Result, Ok, Err}
use Rattle.std.specs.declared.option.Option.{Option}
use Rattle.pc_collab.specs.declared.TheConstants.{JOURNAL_LIMIT}
use Rattle.pc_collab.specs.Journal.{Post}
use Rattle.pc_collab.specs.Reading.{IsTextOf, ReadGives}
use Rattle.pc_refusals.specs.declared.status.Status.{Status}
use Rattle.pc_refusals.specs.Inputs.{TakesAll, StopsInput, TellsInputStop}
use Rattle.pc_journal.specs.declared.taking.JournalStop.{JournalStop}
use Rattle.pc_journal.specs.declared.taking.JournalStop.TheVariants.{Input, Text}
use Rattle.pc_journal.specs.Told.{from_input, TellsFault}

-- all of the input was taken, and this was read of it
pub record TakesText (source source' : Option (List ℕ)) (P : List ℕ → Type 0) : Type 0 where
  pub text : List ℕ
  pub takes : TakesAll JOURNAL_LIMIT text source source'
  pub reads : P text

-- a journal was taken, or what the input has is none, or the taking stopped
abbrev pub JournalGives : Result (List Post) JournalStop → Option (List ℕ) → Option (List ℕ) → Type 0
JournalGives (Ok posts) source source' = TakesText source source' (λ text. IsTextOf text posts)
JournalGives (Err (Input stop)) source source' = StopsInput JOURNAL_LIMIT stop source source'
JournalGives (Err (Text fault)) source source' = TakesText source source' (λ text. ReadGives text (Err fault))

-- what is told of it
abbrev pub TellsStop : JournalStop → Status → Option (List ℕ) → Option (List ℕ) → Type 0
TellsStop (Input stop) result sink sink' = TellsInputStop stop result sink sink'
TellsStop (Text fault) result sink sink' = TellsFault from_input fault result sink sink'
