-- Runs that would not keep their word, an arm of a page each.
use Rattle.std.specs.Prelude.{◌≡◌, ◌≢◌, ℕ, ◌-◌, ◌^◌, ◌<◌, ◌≤◌, Option, List, [], ◌∷◌, ◌++◌, codes}
use Rattle.pc_port.specs.Shelf.{Files}
use Rattle.pc_lines.specs.Lines.{lines_of, line_text_of}
use Rattle.pc_syntax.specs.Command.{TakesNoMemory}
use Rattle.pc_sheet.specs.Sheet.{Sheet}
use Rattle.pc_sheet.specs.Limits.{most_weight}
use Rattle.pc_sheet.specs.Weight.{weight}
use Rattle.pc_sheet.specs.MaximalSets.{AreRulesConsistent}
use Rattle.pc_sheet.specs.declared.ids.Entry.{Entry}
use Rattle.pc_sortcheck.specs.Declaring.{ReadsAs}
use Rattle.pc_books.specs.Edits.{entered}
use Rattle.pc_load.specs.Outcome.{HasFault}
use Rattle.pc_collab.specs.Journal.{Post}
use Rattle.pc_collab.specs.Reading.{IsTextOf}
use Rattle.pc_writer.specs.SheetText.{sheet_text, ended}
use Rattle.pc_display.specs.Show.{IsShown}
use Rattle.pc_refusals.specs.Refusals.{sheet_refusal_text}
use Rattle.pc_refusals.specs.Endings.{memory_text, sheet_memory_text}
use Rattle.pc_refusals.specs.Events.{Outside}
use Rattle.pc_refusals.specs.declared.refusal.Refusal.{Refusal}
use Rattle.pc_refusals.specs.declared.refusal.Refusal.TheVariants.{Inconsistent}
use Rattle.pc_refusals.specs.declared.refusal.SheetRefusal.{SheetRefusal}
use Rattle.pc_refusals.specs.declared.status.Status.TheVariants.{Done, Usage, SheetRefused, ReadFault, WriteFault, Memory, CertRefused}
use Rattle.pc_words.specs.Words.{usual_budget}
use Rattle.pc_enough_laws.specs.Enough.{enough_for_all}
use Rattle.pc_spreadsheet.specs.Allowed.{Notes}
use Rattle.pc_spreadsheet.specs.Judgement.{of_whole}
use Rattle.pc_spreadsheet.specs.Refused.{IsRefused}
use Rattle.pc_spreadsheet.specs.Tasks.{IsLight, enters, IsTask}
use Rattle.pc_afresh_laws.specs.Afresh.{IsOpen}
use Rattle.pc_judge.specs.AcceptedText.{IsAcceptedText}
use Rattle.pc_theorem.specs.Devices.{AreUsedAsAsked}
use Rattle.pc_theorem.specs.Starting.{LacksWords}
use Rattle.pc_theorem.specs.Examples.{Keeps, KeepsPosts, Demonstrated, merge_words, edit_words, demo_words}

-- the words `check f`
abbrev pub check_words : List (List ℕ)
check_words = codes "check" ∷ codes "f" ∷ []

-- the words `posts f`
abbrev pub posts_words : List (List ℕ)
posts_words = codes "posts" ∷ codes "f" ∷ []

-- the words `demo 1 --budget 1000000000000`
abbrev pub rich_demo_words : List (List ℕ)
rich_demo_words = codes "demo" ∷ codes "1" ∷ codes "--budget" ∷ codes "1000000000000" ∷ []

-- the file `f` alone, with this text
abbrev pub file_f : List ℕ → Files
file_f text = (codes "f", text) ∷ []

pub record BrokenChecks : Type 0 where
  -- what isn't a certificate that is accepted is told as accepted
  pub accepted_wrongly : (sheet : Sheet) (text input printed : List ℕ) → ReadsAs text sheet → ¬ IsAcceptedText sheet input → ¬ Keeps check_words (file_f text) input printed Done
  -- what is accepted is refused, whatever is told
  pub refused_wrongly : (sheet : Sheet) (text input printed : List ℕ) → ReadsAs text sheet → IsAcceptedText sheet input → ¬ Keeps check_words (file_f text) input printed CertRefused
  -- that it is accepted isn't told
  pub accepted_quietly : (files : Files) (input : List ℕ) → ¬ Keeps check_words files input [] Done
  -- a file that is a sheet is refused
  pub sheet_refused : (sheet : Sheet) (text input printed : List ℕ) → ReadsAs text sheet → ¬ Keeps check_words (file_f text) input printed SheetRefused
  -- another fault than the first is told
  pub other_fault : (text input printed : List ℕ) (why : SheetRefusal) → HasFault text why → printed ≢ sheet_refusal_text why → ¬ Keeps check_words (file_f text) input printed SheetRefused
  -- memory is wanting, and another thing is told
  pub more_than_want : (files : Files) (input : List ℕ) → ¬ Keeps check_words files input (ended (codes "accepted")) Memory

pub record BrokenUsage : Type 0 where
  -- without words something is done
  pub no_words : (files : Files) (input printed : List ℕ) → ¬ Keeps [] files input printed Done
  -- usage is told of words that fit
  pub fitting_words : (files : Files) (input printed : List ℕ) → ¬ Keeps edit_words files input printed Usage

pub record BrokenSessions : Type 0 where
  -- a sheet is loaded that is too large
  pub loaded_heavy : (sheet : Sheet) (text input printed : List ℕ) → ReadsAs text sheet → most_weight < weight sheet → ¬ Keeps edit_words (file_f text) input printed Done
  -- a sheet is refused that has no fault and isn't too large, whose rules are consistent, and for which the budget is enough
  pub refused_without_cause : (sheet : Sheet) (text input printed : List ℕ) → ReadsAs text sheet → IsLight sheet → AreRulesConsistent sheet → enough_for_all sheet ≤ usual_budget → ¬ Keeps edit_words (file_f text) input printed SheetRefused
  -- rules are told to be inconsistent, and no certificate follows
  pub no_certificate : (sheet : Sheet) (text input : List ℕ) → ReadsAs text sheet → ¬ Keeps edit_words (file_f text) input (sheet_refusal_text (of_whole Inconsistent)) SheetRefused
  -- an edit is answered by `ok`, and the sheet is displayed as it was
  pub edit_forgotten : (sheet : Sheet) (e : Entry) (before after line input : List ℕ) → IsOpen sheet → IsTask (record { sheet = sheet; budget = usual_budget }) (line_text_of line) (enters e) → IsShown sheet before → IsShown (entered sheet e) after → before ≢ after
      → lines_of input ≡ line ∷ codes "show\n" ∷ [] → ¬ Keeps edit_words (file_f (sheet_text sheet)) input (ended (codes "ok") ++ before) Done
  -- a line is refused, and the status tells of nothing that was
  pub refused_as_done : (sheet : Sheet) (why : Refusal) (line input printed : List ℕ) → IsOpen sheet → IsRefused (record { sheet = sheet; budget = usual_budget }) (line_text_of line) why → lines_of input ≡ line ∷ [] → ¬ Keeps edit_words (file_f (sheet_text sheet)) input printed Done
  -- the status tells that memory was wanting where the one line takes none, and the output doesn't tell it
  pub want_of_nothing : (files : Files) (line input printed : List ℕ) → TakesNoMemory (line_text_of line) → lines_of input ≡ line ∷ [] → printed ≢ memory_text → printed ≢ sheet_memory_text → ¬ Keeps edit_words files input printed Memory

pub record BrokenJournals : Type 0 where
  -- journals that differ are merged
  pub merged_differing : (printed : List ℕ) → ¬ KeepsPosts merge_words (file_f (codes "post 1 1 7 : show\n")) (codes "post 1 1 7 : dump\n") printed Done
  -- journals that agree aren't
  pub not_merged : (printed : List ℕ) → ¬ KeepsPosts merge_words (file_f (codes "post 1 1 7 : show\n")) [] printed SheetRefused
  -- a journal without posts is answered by another text than the display of the file's sheet
  pub posts_unshown : (sheet : Sheet) (display printed : List ℕ) → IsOpen sheet → IsShown sheet display → printed ≢ display → ¬ KeepsPosts posts_words (file_f (sheet_text sheet)) [] printed Done
  -- neither the sheet nor the journal has a fault, and the run is refused; or it is refused, and that isn't told, or the file isn't there
  pub posts_refused : (sheet : Sheet) (journal : List Post) (text input printed : List ℕ) → ReadsAs text sheet → IsLight sheet → AreRulesConsistent sheet → enough_for_all sheet ≤ usual_budget → IsTextOf input journal → ¬ KeepsPosts posts_words (file_f text) input printed SheetRefused
  pub posts_quiet : (files : Files) (input : List ℕ) → ¬ KeepsPosts posts_words files input [] SheetRefused
  pub posts_on_none : (input printed : List ℕ) → ¬ KeepsPosts posts_words [] input printed SheetRefused

pub record BrokenDemonstrations : Type 0 where
  -- a budget is told to be spent that is enough for the generated sheet
  pub spent_enough : (files : Files) (printed : List ℕ) → ¬ Demonstrated rich_demo_words files [] printed SheetRefused
  -- usage is told of words that fit
  pub demo_usage : (files : Files) (printed : List ℕ) → ¬ Demonstrated demo_words files [] printed Usage

pub record BrokenDevices : Type 0 where
  -- a failed read is told, and no device was at fault (these devices are told apart by numbers)
  pub fault_of_none : (words : List (List ℕ)) (kept : ℕ → Option Files) (shelf_faults input_faults output_faults : ℕ → ℕ) (shelf input output output' : ℕ) → input_faults input < 2 ^ 64 - 1 → shelf_faults shelf < 2 ^ 64 - 1
      → ¬ AreUsedAsAsked words ReadFault kept shelf_faults input_faults output_faults shelf shelf input input output output'
  -- memory is wanting for the words, and the status tells that all is done; or that a write failed, and none did
  pub done_without_words : (notes noted : Notes) (before after : Outside) → ¬ LacksWords Done notes noted before after
  pub write_of_none : (notes noted : Notes) (before after : Outside) → before.output_faults < 2 ^ 64 - 1 → after.output_faults ≡ before.output_faults → ¬ LacksWords WriteFault notes noted before after
