-- The courses of the runs that merge journals and that answer a journal's posts: what happens where every device obeys and memory is there, and
-- what comes next.
use Rattle.std.specs.Prelude.{◌≡◌, ◌≤◌, ℕ, List, [], ◌∷◌, ◌++◌, length, map}
use Rattle.pc_collab.specs.declared.TheConstants.{JOURNAL_LIMIT}
use Rattle.pc_collab.specs.Journal.{Post}
use Rattle.pc_collab.specs.Reading.{IsTextOf, LineFault, IsFirstFaultOfJournal}
use Rattle.pc_collab.specs.Merge.{IsMerge, DifferFirstAt}
use Rattle.pc_collab.specs.Text.{journal_text}
use Rattle.pc_lines.specs.Lines.{line_text_of}
use Rattle.pc_lines.specs.declared.TheConstants.{SHEET_LIMIT}
use Rattle.pc_refusals.specs.declared.refusal.SheetRefusal.{SheetRefusal}
use Rattle.pc_refusals.specs.declared.status.Status.TheVariants.{Done, SheetRefused}
use Rattle.pc_refusals.specs.Refusals.{sheet_refusal_text}
use Rattle.pc_refusals.specs.Endings.{memory_text, sheet_memory_text}
use Rattle.pc_refusals.specs.Events.{Event, took, took_rest, gave, told}
use Rattle.pc_refusals.specs.Stages.{rest_within, sheet_file, Stage, takes, needs, tells, ends_with, ends}
use Rattle.pc_transcript.specs.Answer.{Answer, answer_text}
use Rattle.pc_transcript.specs.Transcript.{Transcript, Legal, lines, status_of}
use Rattle.pc_journal.specs.Told.{from_file, from_input, refused_text, differ_text}
use Rattle.pc_journal.specs.PostLines.{lines_of_posts}

-- ---- what both begin with

-- The shelf's file, and then it goes on from its text. Where there is no memory for the file, this line is told.
pub data FromFile {N : Type 0} (lack : List ℕ) (file : List ℕ) (Rest : List ℕ → List Event → Stage → N → Type 0) (notes : N) (events : List Event) : Stage → N → Type 0 where
  needs_file_memory : events ≡ [] → FromFile lack file Rest notes events (needs lack) notes
  awaits_file : events ≡ [] → FromFile lack file Rest notes events (takes (sheet_file file)) notes
  has_file : {stage : Stage} {notes' : N} (text : List ℕ) (more : List Event) → length text ≤ SHEET_LIMIT → Rest text more stage notes' → events ≡ gave file text ∷ more → FromFile lack file Rest notes events stage notes'

-- all of the input, which is a journal's text or is told not to be, and then it goes on from the journal's posts
pub data FromInput {N : Type 0} (Rest : List Post → List Event → Stage → N → Type 0) (notes : N) (events : List Event) : Stage → N → Type 0 where
  awaits_journal : events ≡ [] → FromInput Rest notes events (takes (rest_within JOURNAL_LIMIT)) notes
  needs_memory : (some : List ℕ) → length some ≤ JOURNAL_LIMIT → events ≡ took some ∷ [] → FromInput Rest notes events (needs memory_text) notes
  is_refused : (text : List ℕ) (line : ℕ) (fault : LineFault) → length text ≤ JOURNAL_LIMIT → IsFirstFaultOfJournal text line fault → events ≡ took_rest text ∷ [] → FromInput Rest notes events (ends_with (refused_text from_input fault line) SheetRefused) notes
  has_journal : {stage : Stage} {notes' : N} (text : List ℕ) (posts : List Post) (more : List Event) → length text ≤ JOURNAL_LIMIT → IsTextOf text posts → Rest posts more stage notes' → events ≡ took_rest text ∷ more → FromInput Rest notes events stage notes'

-- ---- the mode `merge`

-- from two journals on
pub data MergeBoth (a b : List Post) (events : List Event) : Stage → Unit {0} → Type 0 where
  needs_memory_for_both : events ≡ [] → MergeBoth a b events (needs memory_text) tt
  differs : (author number : ℕ) → DifferFirstAt a b author number → events ≡ [] → MergeBoth a b events (ends_with (differ_text author number) SheetRefused) tt
  is_merged : (merged : List Post) → IsMerge a b merged → events ≡ [] → MergeBoth a b events (ends_with (journal_text merged) Done) tt

-- from the file's text on
pub data MergeText (text : List ℕ) (events : List Event) : Stage → Unit {0} → Type 0 where
  needs_memory_for_text : events ≡ [] → MergeText text events (needs memory_text) tt
  text_is_refused : (line : ℕ) (fault : LineFault) → IsFirstFaultOfJournal text line fault → events ≡ [] → MergeText text events (ends_with (refused_text from_file fault line) SheetRefused) tt
  text_is_journal : {stage : Stage} (a : List Post) → IsTextOf text a → FromInput (MergeBoth a) tt events stage tt → MergeText text events stage tt

-- the file's journal, then the input's, and then their merge; no notes are taken
abbrev pub Merge : List ℕ → List Event → Stage → Unit {0} → Type 0
Merge file = FromFile memory_text file MergeText tt

-- ---- the mode `posts`

-- the answers are told one by one
abbrev pub answers_told : Transcript → List Event
answers_told transcript = map (λ pair. told (answer_text pair.1)) transcript

-- what may answer a line
module _ {S : Type 0} (Allows : S → List ℕ → Answer → S → Type 0) where
  -- Of these lines so many are answered, from the start on, and the next one is to be; or all are answered.
  pub data AnswersHeld (start : S) (held : List (List ℕ)) (events : List Event) : Stage → S → Type 0 where
    has_answer : {end : S} (t : Transcript) (mid : S) (line : List ℕ) (rest : List (List ℕ)) (answer : Answer) → Legal Allows start t mid → held ≡ lines t ++ line ∷ rest → Allows mid (line_text_of line) answer end
        → events ≡ answers_told t → AnswersHeld start held events (tells (answer_text answer)) end
    has_all : {end : S} (t : Transcript) → Legal Allows start t end → lines t ≡ held → events ≡ answers_told t → AnswersHeld start held events (ends (status_of t)) end

  -- the lines of a journal's posts
  abbrev pub AnswersPosts : S → List Post → List Event → Stage → S → Type 0
  AnswersPosts start posts events stage end = AnswersHeld start (lines_of_posts posts) events stage end

-- which texts are sheets, which refusal another text has with what follows it, and what may answer a line
module _ {S N : Type 0} (IsSheet : List ℕ → S → Type 0) (Refuses : List ℕ → SheetRefusal → List ℕ → N → N → Type 0) (Allows : S × N → List ℕ → Answer → S × N → Type 0) where
  -- from the file's text on
  pub data PostText (notes : N) (text : List ℕ) (events : List Event) : Stage → N → Type 0 where
    needs_sheet_memory : events ≡ [] → PostText notes text events (needs sheet_memory_text) notes
    sheet_is_refused : {notes' : N} (why : SheetRefusal) (more : List ℕ) → Refuses text why more notes notes' → events ≡ [] → PostText notes text events (ends_with (sheet_refusal_text why ++ more) SheetRefused) notes'
    has_sheet : {stage : Stage} {notes' : N} (start end : S) → IsSheet text start → FromInput (AnswersPosts Allows (start, notes)) (start, notes) events stage (end, notes') → PostText notes text events stage notes'

  -- the file's sheet, and then the posts of the input's journal, each answered as a command line
  abbrev pub Posts : List ℕ → N → List Event → Stage → N → Type 0
  Posts file notes = FromFile sheet_memory_text file (PostText notes) notes
