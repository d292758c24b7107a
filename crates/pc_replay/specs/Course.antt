-- What a run does, by its words.
use Rattle.std.specs.Prelude.{◌≡◌, ℕ, ◌≤◌, List, [], codes}
use Rattle.pc_words.specs.Words.{Mode, replays, edits, checks, merges, posts, demonstrates, Request, FitsWords, FitNothing}
use Rattle.pc_port.specs.declared.TheConstants.{CHUNK}
use Rattle.pc_refusals.specs.declared.status.Status.{Status}
use Rattle.pc_refusals.specs.declared.status.Status.TheVariants.{Usage}
use Rattle.pc_refusals.specs.Endings.{memory_text}
use Rattle.pc_writer.specs.SheetText.{ended}
use Rattle.pc_refusals.specs.Events.{Outside, Event}
use Rattle.pc_refusals.specs.Stages.{Stage, needs, ends_with}
use Rattle.pc_refusals.specs.Runs.{Ran}
use Rattle.pc_transcript.specs.Course.{Replay, Edit}
use Rattle.pc_judge.specs.Course.{Check}
use Rattle.pc_journal.specs.Course.{Merge, Posts}
use Rattle.pc_demo.specs.Course.{Demo}
use Rattle.pc_spreadsheet.specs.Tasks.{Starts}
use Rattle.pc_spreadsheet.specs.Allowed.{Notes, Allows, RefusesText}

-- which words fit
abbrev pub usage_text : List ℕ
usage_text = ended (codes "usage: predicalc replay / edit FILE / check FILE / merge FILE / posts FILE / demo N [--budget K]")

-- the course in a mode
abbrev pub CourseIn : Mode → ℕ → Notes → (List Event → Stage → Notes → Type 0)
CourseIn replays budget notes = Replay (Starts budget) (RefusesText budget) Allows notes
CourseIn (edits file) budget notes = Edit (Starts budget) (RefusesText budget) Allows file notes
CourseIn (checks file) budget notes = λ events stage notes'. Check file events stage × (notes' ≡ notes)
CourseIn (merges file) budget notes = λ events stage notes'. Merge file events stage tt × (notes' ≡ notes)
CourseIn (posts file) budget notes = Posts (Starts budget) (RefusesText budget) Allows file notes
CourseIn (demonstrates blocks) budget notes = Demo blocks budget notes

-- the words don't fit; or memory is needed to read words that do; or it goes as they ask
pub data Course (words : List (List ℕ)) (notes : Notes) (events : List Event) : Stage → Notes → Type 0 where
  without_fit : FitNothing words → events ≡ [] → Course words notes events (ends_with usage_text Usage) notes
  needs_memory : ¬ FitNothing words → events ≡ [] → Course words notes events (needs memory_text) notes
  as_asked : {stage : Stage} {notes' : Notes} (request : Request) → FitsWords words request → CourseIn request.mode request.budget notes events stage notes' → Course words notes events stage notes'

-- command lines may be read ahead
abbrev pub most_ahead : Mode → ℕ
most_ahead replays = CHUNK
most_ahead (edits file) = CHUNK
most_ahead mode = 0

-- no more is read ahead than in the mode that the words ask for
abbrev pub IsMostAhead : List (List ℕ) → ℕ → Type 0
IsMostAhead words most = (request : Request) → FitsWords words request → most ≤ most_ahead request.mode

-- what a run with these words did
abbrev pub Runs : List (List ℕ) → Status → Notes → Notes → Outside → Outside → Type 0
Runs words status notes notes' before after = (most : ℕ) × IsMostAhead words most × Ran (Course words notes) most status notes' before after

-- it went as these words ask
abbrev pub RunsAsAsked : List (List ℕ) → Status → Notes → Notes → Outside → Outside → Type 0
RunsAsAsked words status notes notes' before after = (request : Request) × FitsWords words request × Ran (CourseIn request.mode request.budget notes) (most_ahead request.mode) status notes' before after
