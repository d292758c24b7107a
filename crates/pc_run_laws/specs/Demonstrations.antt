-- What a demonstration says by its status: what was to be printed, how much of it was, and what was noted.
use Rattle.std.specs.Prelude.{◌≡◌, ℕ, suc, ◌<◌, ◌⊎◌, List, [], ◌++◌, codes}
use Rattle.pc_gen.specs.Text.{generated_text}
use Rattle.pc_refusals.specs.declared.refusal.SheetRefusal.{SheetRefusal}
use Rattle.pc_refusals.specs.declared.status.Status.{Status}
use Rattle.pc_refusals.specs.declared.status.Status.TheVariants.{SheetRefused, WriteFault, Memory}
use Rattle.pc_refusals.specs.Refusals.{sheet_refusal_text}
use Rattle.pc_refusals.specs.Endings.{Printing, printed, sheet_memory_text, IsPrinted}
use Rattle.pc_refusals.specs.Events.{Outside}
use Rattle.pc_transcript.specs.Answer.{Answer}
use Rattle.pc_transcript.specs.Transcript.{Transcript, status_of}
use Rattle.pc_spreadsheet.specs.Tasks.{State}
use Rattle.pc_spreadsheet.specs.Allowed.{Notes, Allows, RefusesText}
use Rattle.pc_demo.specs.Demonstration.{Clears, told_of, told_in, Loads}
use Rattle.pc_demo.specs.Summing.{clear_line, SumsUp}

-- It came to its end in this status, and this was to be printed: that memory is wanting, or that the sheet is refused; or the counts of
-- the loaded sheet, what is told of each answer, and the counts after.
pub data Goes (blocks budget : ℕ) (notes notes' : Notes) (text : Printing) : Status → Type 0 where
  lacks_memory : notes' ≡ notes → text ≡ printed [] sheet_memory_text → Goes blocks budget notes notes' text Memory
  is_refused : (why : SheetRefusal) (more : List ℕ) → RefusesText budget (generated_text blocks) why more notes notes' → text ≡ printed [] (sheet_refusal_text why ++ more) → Goes blocks budget notes notes' text SheetRefused
  completes : (start end : State) (loaded cleared : List ℕ) (t : Transcript) → Loads blocks budget start loaded → Clears blocks (start, notes) (end, notes') t → SumsUp (codes "cleared") end.sheet cleared
      → text ≡ printed (loaded ++ told_in t) cleared → Goes blocks budget notes notes' text (status_of t)

-- it was cut off at the counts of the loaded sheet, at what is told of an answer, or at what would have ended it
pub data IsCutOff (blocks budget : ℕ) (notes notes' : Notes) (text : Printing) : Type 0 where
  at_loaded : (start : State) (loaded : List ℕ) → Loads blocks budget start loaded → notes' ≡ notes → text ≡ printed [] loaded → IsCutOff blocks budget notes notes' text
  at_answer : (start end : State) (loaded : List ℕ) (done : ℕ) (mid : State × Notes) (t : Transcript) (answer : Answer) → Loads blocks budget start loaded → done < blocks → Clears done (start, notes) mid t → Allows mid (clear_line (suc done)) answer (end, notes')
      → text ≡ printed (loaded ++ told_in t) (told_of answer) → IsCutOff blocks budget notes notes' text
  at_last : (status : Status) → Goes blocks budget notes notes' text status → IsCutOff blocks budget notes notes' text

-- how it went, how much of it was printed, and that nothing else outside changed
pub record Demonstrated (blocks budget : ℕ) (status : Status) (notes notes' : Notes) (a b : Outside) : Type 0 where
  pub text : Printing
  pub course : Goes blocks budget notes notes' text status ⊎ ((status ≡ WriteFault) × IsCutOff blocks budget notes notes' text)
  pub written : IsPrinted status a.output b.output text
  pub else_same : b ≡ record a { output = b.output; output_faults = b.output_faults }
