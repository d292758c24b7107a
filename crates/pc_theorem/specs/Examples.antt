-- Runs that keep their word, and runs and answers that would not.
use Rattle.std.specs.Prelude.{◌≡◌, ◌≢◌, ℕ, ◌<◌, List, [], ◌∷◌, ◌++◌, length, codes, Any, Some}
use Rattle.std.specs.Str.Lines.{lines}
use Rattle.pc_port.specs.Shelf.{Files}
use Rattle.pc_lines.specs.Lines.{lines_of, line_text_of}
use Rattle.pc_token.specs.Line.{IsOneName}
use Rattle.pc_syntax.specs.Tree.{asks_clear, asks_show, Cell}
use Rattle.pc_syntax.specs.Command.{IsCommandReading, asks, TakesNoMemory}
use Rattle.pc_sheet.specs.Sheet.{Sheet}
use Rattle.pc_sheet.specs.Entailment.{cell_sizes, IsImplied}
use Rattle.pc_sheet.specs.MaximalSets.{AreRulesConsistent}
use Rattle.pc_sheet.specs.WellFormed.{IsWellFormed}
use Rattle.pc_sheet.specs.declared.ids.Entry.{Entry}
use Rattle.pc_sheet.specs.declared.ids.Target.{Target}
use Rattle.pc_laws.specs.Examples.{equal_cells}
use Rattle.pc_sortcheck.specs.Declaring.{ReadsAs}
use Rattle.pc_writer.specs.SheetText.{sheet_text, ended}
use Rattle.pc_display.specs.Show.{IsShown}
use Rattle.pc_refusals.specs.declared.refusal.Counts.{Counts}
use Rattle.pc_refusals.specs.declared.refusal.Refusal.{Refusal}
use Rattle.pc_refusals.specs.declared.refusal.Refusal.TheVariants.{Spent}
use Rattle.pc_refusals.specs.declared.status.Status.{Status}
use Rattle.pc_refusals.specs.declared.status.Status.TheVariants.{Done, SomeRefused, SheetRefused, CertRefused}
use Rattle.pc_refusals.specs.Events.{Outside}
use Rattle.pc_transcript.specs.Answer.{silent, accepted, shown, refused, no_memory}
use Rattle.pc_words.specs.Words.{usual_budget}
use Rattle.pc_spreadsheet.specs.Refused.{IsRefused}
use Rattle.pc_spreadsheet.specs.Tasks.{State, Task, shows, why_page, IsTask, state_after}
use Rattle.pc_afresh_laws.specs.Afresh.{IsOpen}
use Rattle.pc_theorem.specs.Certificates.{IsValueLine}
use Rattle.pc_theorem.specs.Theorem.{Explains, Answers, KeepsItsWord}
use Rattle.pc_theorem.specs.Journals.{KeepsJournals}
use Rattle.pc_theorem.specs.Demonstrations.{Demonstrates}

-- what is outside where the shelf keeps these files, the input has this left, and the output was given this
abbrev pub told_outside : Files → List ℕ → List ℕ → Outside
told_outside files input output = record { kept = Some files; asked = []; shelf_faults = 0; input = Some input; input_faults = 0; output = Some output; output_faults = 0 }

-- from such an outside, where nothing was given to the output, a run with these words that printed this
abbrev pub Keeps : List (List ℕ) → Files → List ℕ → List ℕ → Status → Type 0
Keeps words files input printed status = KeepsItsWord words status (told_outside files input []) (told_outside files [] printed)

-- the same over journals
abbrev pub KeepsPosts : List (List ℕ) → Files → List ℕ → List ℕ → Status → Type 0
KeepsPosts words files input printed status = KeepsJournals words status (told_outside files input []) (told_outside files [] printed)

-- the same of a demonstration
abbrev pub Demonstrated : List (List ℕ) → Files → List ℕ → List ℕ → Status → Type 0
Demonstrated words files input printed status = Demonstrates words status (told_outside files input []) (told_outside files [] printed)

-- the words `merge f`
abbrev pub merge_words : List (List ℕ)
merge_words = codes "merge" ∷ codes "f" ∷ []

-- the words `edit f`
abbrev pub edit_words : List (List ℕ)
edit_words = codes "edit" ∷ codes "f" ∷ []

-- the words `demo 1`
abbrev pub demo_words : List (List ℕ)
demo_words = codes "demo" ∷ codes "1" ∷ []

pub record WorkedWords : Type 0 where
  -- a journal of one post, merged with an empty one, is that journal
  pub merged : KeepsPosts merge_words ((codes "f", codes "post 1 1 7 : show\n") ∷ []) [] (codes "post 1 1 7 : show\n") Done
  -- on the canonical text of a sheet `show` is answered by the sheet's display
  pub displayed : (sheet : Sheet) (display : List ℕ) → IsOpen sheet → IsShown sheet display → Keeps edit_words ((codes "f", sheet_text sheet) ∷ []) (codes "show\n") display Done
  -- and a line `why` behind it by what explains its target
  pub explained : (sheet : Sheet) (t : Target) (display text line input : List ℕ) → IsOpen sheet → IsShown sheet display → IsTask (record { sheet = sheet; budget = usual_budget }) (line_text_of line) (shows (why_page t)) → Explains sheet t text
      → lines_of input ≡ codes "show\n" ∷ line ∷ [] → Keeps edit_words ((codes "f", sheet_text sheet) ∷ []) input (display ++ text) Done

pub record BrokenWords : Type 0 where
  -- a certificate is accepted for a file that isn't there
  pub no_file : ¬ Keeps (codes "check" ∷ codes "f" ∷ []) [] [] (ended (codes "accepted")) Done
  -- an input without a sheet is a session
  pub no_sheet : ¬ Keeps (codes "replay" ∷ []) [] [] [] Done
  -- what is refused is told as accepted, whatever the file is
  pub told_as_accepted : (files : Files) → ¬ Keeps (codes "check" ∷ codes "f" ∷ []) files [] (ended (codes "accepted")) CertRefused
  -- that there is no merge isn't told
  pub untold : (files : Files) → ¬ KeepsPosts merge_words files [] [] SheetRefused
  -- a post is lost
  pub lost_post : ¬ KeepsPosts merge_words ((codes "f", codes "post 1 1 7 : show\n") ∷ []) [] [] Done
  -- a command is answered though there is none, or refused
  pub no_line : (files : Files) → ¬ Keeps edit_words files [] (ended (codes "ok")) Done
  pub none_refused : (files : Files) → ¬ Keeps edit_words files [] [] SomeRefused
  -- a sheet is refused, and that isn't told
  pub quietly_refused : (files : Files) → ¬ Keeps edit_words files [] [] SheetRefused
  -- what may be kept together is answered as an edit is
  pub ok_for_repairs : (files : Files) → ¬ Keeps edit_words files (codes "repairs\n") (ended (codes "ok")) Done
  -- on the canonical text of a sheet `show` is answered by another text than the display, as one that lacks a value
  pub other_shown : (sheet : Sheet) (display printed : List ℕ) → IsOpen sheet → IsShown sheet display → printed ≢ display → ¬ Keeps edit_words ((codes "f", sheet_text sheet) ∷ []) (codes "show\n") printed Done
  -- a sheet is loaded that no assignment fits
  pub loaded_inconsistent : (sheet : Sheet) (text input printed : List ℕ) → ReadsAs text sheet → ¬ AreRulesConsistent sheet → ¬ Keeps edit_words ((codes "f", text) ∷ []) input printed Done
  -- a demonstration is refused for its rules, or tells nothing
  pub refused_demo : (files : Files) → ¬ Demonstrated demo_words files [] (ended (codes "sheet refused 13 inconsistent")) SheetRefused
  pub silent_demo : (files : Files) → ¬ Demonstrated demo_words files [] [] Done

pub record BrokenAnswers : Type 0 where
  -- `show` is answered by another text than the display, as one that lacks a value
  pub other_display : (state next : State) (line text display : List ℕ) → IsCommandReading line (asks asks_show) → IsShown state.sheet display → text ≢ display → ¬ Answers state line (shown text) next
  -- memory is wanting for `show`
  pub memory_for_show : (state next : State) (line : List ℕ) → IsOneName line (codes "show") → ¬ Answers state line no_memory next
  -- a target that is implied is told not to be
  pub told_not_implied : (state next : State) (line : List ℕ) (t : Target) → IsWellFormed state.sheet → IsTask state line (shows (why_page t)) → IsImplied state.sheet t → ¬ Answers state line (shown (ended (codes "not implied"))) next
  -- why it is implied is told by a text without an assignment
  pub unassigned : (state next : State) (line text : List ℕ) (t : Target) → IsWellFormed state.sheet → IsTask state line (shows (why_page t)) → IsImplied state.sheet t → 0 < length (cell_sizes state.sheet.universe)
      → ((e : Entry) → ¬ Any (λ line. IsValueLine state.sheet line e) (lines text)) → ¬ Answers state line (shown text) next
  -- the usual budget is spent at once where one of two cells is cleared
  pub spent_at_once : (next : State) (line more : List ℕ) (c : Cell) (counts : Counts) → IsCommandReading line (asks (asks_clear c)) → ¬ Answers (record { sheet = equal_cells; budget = usual_budget }) line (refused (Spent counts) more) next

-- By the verdicts of lines, of which each has one.
pub record BrokenVerdicts : Type 0 where
  -- nothing is told where something is asked
  pub silent_of_task : (state next : State) (line : List ℕ) (task : Task) → IsWellFormed state.sheet → IsTask state line task → ¬ Answers state line silent next
  -- an edit is answered by `ok`, and another state follows than that after it
  pub edit_undone : (state next : State) (line : List ℕ) (edit : Task) → IsWellFormed state.sheet → IsTask state line edit → next ≢ state_after state edit → ¬ Answers state line accepted next
  -- what can't be done is answered by `ok`
  pub done_though_refused : (state next : State) (line : List ℕ) (why : Refusal) → IsWellFormed state.sheet → IsRefused state line why → ¬ Answers state line accepted next
  -- what can be done is refused, but not for the budget
  pub doable_refused : (state next : State) (line more : List ℕ) (task : Task) (why : Refusal) → IsWellFormed state.sheet → IsTask state line task → ((counts : Counts) → why ≢ Spent counts) → ¬ Answers state line (refused why more) next
  -- what can't be done is refused for another cause than its own
  pub other_cause : (state next : State) (line more : List ℕ) (why other : Refusal) → IsWellFormed state.sheet → IsRefused state line why → other ≢ why → ((counts : Counts) → other ≢ Spent counts) → ¬ Answers state line (refused other more) next
  -- fewer literals are placed than the budget allows, or more
  pub spent_early : (state next : State) (line more : List ℕ) (counts : Counts) → counts.placed ≢ state.budget → ¬ Answers state line (refused (Spent counts) more) next
  -- memory is wanting for a line that takes none
  pub want_of_none : (state next : State) (line : List ℕ) → TakesNoMemory line → ¬ Answers state line no_memory next
  -- a page, a refusal or want of memory changes the state
  pub changed_by_page : (state next : State) (line text : List ℕ) → next ≢ state → ¬ Answers state line (shown text) next
  pub changed_by_refusal : (state next : State) (line more : List ℕ) (why : Refusal) → next ≢ state → ¬ Answers state line (refused why more) next
  pub changed_by_want : (state next : State) (line : List ℕ) → next ≢ state → ¬ Answers state line no_memory next
