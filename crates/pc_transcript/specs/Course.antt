-- The courses of runs that answer command lines, over any machine: what happens where every device obeys and memory is there, and what comes next.
use Rattle.std.specs.Prelude.{◌≡◌, ℕ, ◌<◌, ◌≤◌, ◌⊎◌, List, [], ◌∷◌, ◌++◌, length, All}
use Rattle.std.specs.List.{flat_map}
use Rattle.pc_lines.specs.Lines.{HasNoEnd, IsWholeLine, IsOpenLine, lines_of, line_text_of}
use Rattle.pc_lines.specs.declared.TheConstants.{SHEET_LIMIT}
use Rattle.pc_refusals.specs.declared.refusal.SheetRefusal.{SheetRefusal}
use Rattle.pc_refusals.specs.declared.status.Status.TheVariants.{SheetRefused}
use Rattle.pc_refusals.specs.Refusals.{sheet_refusal_text}
use Rattle.pc_refusals.specs.Endings.{sheet_memory_text}
use Rattle.pc_refusals.specs.Events.{Event, took, took_rest, gave, told}
use Rattle.pc_refusals.specs.Stages.{sheet_line, line_within, no_line_within, sheet_file, Stage, takes, needs, tells, ends_with, ends, IsLine}
use Rattle.pc_transcript.specs.declared.TheConstants.{LINE_LIMIT, MAX_LINES}
use Rattle.pc_transcript.specs.Answer.{Answer, answer_text}
use Rattle.pc_transcript.specs.Transcript.{Transcript, Legal, lines, input_of, status_of}
use Rattle.pc_transcript.specs.SheetPart.{IsBeginLine, IsEarlier, joined_lines}
use Rattle.pc_transcript.specs.SheetTaking.{IsSheetFront}

-- each line is taken, and then its answer is told
abbrev pub events_of : Transcript → List Event
events_of transcript = flat_map (λ pair. took pair.0 ∷ told (answer_text pair.1) ∷ []) transcript

-- a line is taken, and where it has no line feed the input is at its end
abbrev pub IsLineTaken : List ℕ → List Event → Type 0
IsLineTaken line events = (IsWholeLine LINE_LIMIT line × (events ≡ took line ∷ [])) ⊎ (IsOpenLine LINE_LIMIT line × (0 < length line) × (events ≡ took_rest line ∷ []))

-- the sheet's part of the input is taken, up to and with its first line that is `begin`, or to the end of the input
pub record IsSheetTaken (text : List ℕ) (events : List Event) : Type 0 where
  pub earlier : List (List ℕ)
  pub last : List ℕ
  pub is : text ≡ joined_lines earlier ++ last
  pub others : All IsEarlier earlier
  pub ends : (IsWholeLine SHEET_LIMIT last × IsBeginLine last × (events ≡ took text ∷ [])) ⊎ (HasNoEnd last × (events ≡ took_rest text ∷ []))
  pub small : length text ≤ SHEET_LIMIT

-- what may answer a line
module _ {S : Type 0} (Allows : S → List ℕ → Answer → S → Type 0) where
  -- Of the command lines so many whole ones are answered, from the start on, and a further one may come, or none; or one is to be answered; or
  -- the lines are those of all the input.
  pub data AnswersLines (start : S) (events : List Event) : Stage → S → Type 0 where
    awaits_line : {end : S} (t : Transcript) → Legal Allows start t end → All (IsWholeLine LINE_LIMIT) (lines t) → length t < MAX_LINES → events ≡ events_of t → AnswersLines start events (takes (line_within LINE_LIMIT)) end
    awaits_end : {end : S} (t : Transcript) → Legal Allows start t end → All (IsWholeLine LINE_LIMIT) (lines t) → length t ≡ MAX_LINES → events ≡ events_of t → AnswersLines start events (takes (no_line_within LINE_LIMIT)) end
    has_answer : {end : S} (t : Transcript) (mid : S) (line : List ℕ) (taken : List Event) (answer : Answer) → Legal Allows start t mid → All (IsWholeLine LINE_LIMIT) (lines t) → length t < MAX_LINES
        → IsLineTaken line taken → Allows mid (line_text_of line) answer end → events ≡ events_of t ++ taken → AnswersLines start events (tells (answer_text answer)) end
    has_all : {end : S} (t : Transcript) → Legal Allows start t end → All (IsLine LINE_LIMIT) (lines t) → lines t ≡ lines_of (input_of t) → length t ≤ MAX_LINES → events ≡ events_of t ++ took_rest [] ∷ [] → AnswersLines start events (ends (status_of t)) end

-- which texts are sheets, which refusal another text has with what follows it, and what may answer a line
module _ {S N : Type 0} (IsSheet : List ℕ → S → Type 0) (Refuses : List ℕ → SheetRefusal → List ℕ → N → N → Type 0) (Allows : S × N → List ℕ → Answer → S × N → Type 0) where
  -- from a sheet's text on
  pub data FromSheet (text : List ℕ) (notes : N) (events : List Event) : Stage → N → Type 0 where
    needs_memory : events ≡ [] → FromSheet text notes events (needs sheet_memory_text) notes
    is_refused : {notes' : N} (why : SheetRefusal) (more : List ℕ) → Refuses text why more notes notes' → events ≡ [] → FromSheet text notes events (ends_with (sheet_refusal_text why ++ more) SheetRefused) notes'
    answers : {stage : Stage} {notes' : N} (start end : S) → IsSheet text start → AnswersLines Allows (start, notes) events stage (end, notes') → FromSheet text notes events stage notes'

  -- from the sheet's part of the input on
  pub data FromInput (notes : N) (events : List Event) : Stage → N → Type 0 where
    awaits_sheet : (earlier : List (List ℕ)) → All IsEarlier earlier → length (joined_lines earlier) ≤ SHEET_LIMIT → events ≡ took (joined_lines earlier) ∷ [] → FromInput notes events (takes (sheet_line (joined_lines earlier))) notes
    keeps_sheet : (text : List ℕ) → IsSheetFront text → length text ≤ SHEET_LIMIT → events ≡ took text ∷ [] → FromInput notes events (needs sheet_memory_text) notes
    has_sheet : {stage : Stage} {notes' : N} (text : List ℕ) (taken more : List Event) → IsSheetTaken text taken → FromSheet text notes more stage notes' → events ≡ taken ++ more → FromInput notes events stage notes'

  -- the mode `replay`: room for a line, and then the input
  pub data Replay (notes : N) (events : List Event) : Stage → N → Type 0 where
    needs_room : events ≡ [] → Replay notes events (needs sheet_memory_text) notes
    from_input : {stage : Stage} {notes' : N} → FromInput notes events stage notes' → Replay notes events stage notes'

  -- the mode `edit`: the shelf's file, and then the command lines of the input
  pub data Edit (file : List ℕ) (notes : N) (events : List Event) : Stage → N → Type 0 where
    needs_memory : events ≡ [] → Edit file notes events (needs sheet_memory_text) notes
    awaits_file : events ≡ [] → Edit file notes events (takes (sheet_file file)) notes
    has_file : {stage : Stage} {notes' : N} (text : List ℕ) (more : List Event) → length text ≤ SHEET_LIMIT → FromSheet text notes more stage notes' → events ≡ gave file text ∷ more → Edit file notes events stage notes'
