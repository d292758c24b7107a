-- A session that shows another text than the display would not keep its word.
use Rattle.std.proofs.Common.{◌≡◌, ◌≢◌, ℕ, List, [], ◌∷◌, codes, Some, refl, sym, ◌∙◌, ap, subst, append-nil}
use Rattle.pc_syntax.specs.Tree.{Asked, asks_show}
use Rattle.pc_syntax.specs.Command.{no_command, IsCommandReading, asks}
use Rattle.pc_sheet.specs.Sheet.{Sheet}
use Rattle.pc_writer.specs.SheetText.{sheet_text}
use Rattle.pc_display.specs.Show.{IsShown}
use Rattle.pc_refusals.specs.declared.status.Status.TheVariants.{Done}
use Rattle.pc_transcript.specs.Answer.{Answer, answer_text}
use Rattle.pc_transcript.specs.Transcript.{Transcript, Legal, output_of, status_of}
use Rattle.pc_words.specs.Words.{edits, usual_budget}
use Rattle.pc_spreadsheet.specs.Tasks.{State, Starts, Task, shows, IsTaskOf, showing, IsEdit}
use Rattle.pc_afresh_laws.specs.Afresh.{IsOpen, DumpsStartAgain}
use Rattle.pc_theorem.specs.Theorem.{Answers, nothing_asked, edit_done, page_shown, not_doable, contradicting, budget_spent, memory_lacking, EndsSession, answers_all, refuses}
use Rattle.pc_theorem.specs.Examples.{edit_words, Keeps}
use Rattle.pc_theorem.proofs.BrokenAnswers.{only_display, shown_is_display}
use Rattle.pc_theorem.proofs.BrokenSessions.{run_on, edit_ends, one_answer}
use Rattle.pc_theorem.proofs.Clearing.{CommandsHaveOneReading, asked_same}
use Rattle.pc_theorem.proofs.Worked.{show_word, show_line, asks_to_show}

no_edit : (sheet : Sheet) (edit : Task) → IsTaskOf sheet asks_show edit → ¬ IsEdit edit
no_edit sheet edit showing is_edit = is_edit

something : no_command ≡ asks asks_show → ⊥
something e = absurd (cc)

module _ (read : CommandsHaveOneReading) where
  asks_so : (a : Asked) → IsCommandReading show_word (asks a) → a ≡ asks_show
  asks_so a reading = asked_same a asks_show (read show_word (asks a) (asks asks_show) reading asks_to_show)

  pub answer_is : (start end : State) (answer : Answer) (display : List ℕ) → IsShown start.sheet display → Answers start show_word answer end → Done ≡ status_of ((show_line, answer) ∷ []) → answer_text answer ≡ display
  answer_is start end answer display is (nothing_asked none) status = absurd (something (read show_word no_command (asks asks_show) none asks_to_show))
  answer_is start end answer display is (edit_done edit asked is_edit) status = absurd (no_edit start.sheet edit (subst (λ a. IsTaskOf start.sheet a edit) (asks_so asked.0 asked.1) asked.2) is_edit)
  answer_is start end answer display is (page_shown kind text asked tells) status =
      sym (shown_is_display start.sheet kind text display (only_display start.sheet kind (subst (λ a. IsTaskOf start.sheet a (shows kind)) (asks_so asked.0 asked.1) asked.2)) tells is)
  answer_is start end answer display is (not_doable why cause) status = absurd (cc)
  answer_is start end answer display is (contradicting r certificate against_it shows_it) status = absurd (cc)
  answer_is start end answer display is (budget_spent counts short placed) status = absurd (cc)
  answer_is start end answer display is (memory_lacking takes) status = absurd (cc)

  module _ (again : DumpsStartAgain) (sheet : Sheet) (display printed : List ℕ) (is : IsOpen sheet) (is_shown : IsShown sheet display) where
    text_same : (x y : List ℕ) → Some x ≡ Some y → x ≡ y
    text_same x y e = cc

    printed_is : EndsSession (run_on edit_words ((codes "f", sheet_text sheet) ∷ []) show_line printed Done) usual_budget (edits (codes "f")) → printed ≡ display
    printed_is (answers_all text commands found commands_are s) =
        let starts = subst (λ t. Starts usual_budget t s.start) (sym (text_same (sheet_text sheet) text found)) s.starts in
        let same = (again sheet (sheet_text sheet) is refl).only usual_budget s.start starts in
        let one = one_answer s.transcript commands show_line s.lines_are commands_are in
        let legal = subst (λ (t : Transcript). Legal Answers s.start t s.end) one.1 s.legal in
        s.printed_are ∙ ap output_of one.1 ∙ append-nil (answer_text one.0)
        ∙ answer_is s.start legal.0 one.0 display (subst (λ x. IsShown x display) (sym same) is_shown) legal.1 (s.status_is ∙ ap status_of one.1)
    printed_is (refuses text why more so found refusing told_so) = absurd (cc)

  pub other_session : DumpsStartAgain → (sheet : Sheet) (display printed : List ℕ) → IsOpen sheet → IsShown sheet display → printed ≢ display → ¬ Keeps edit_words ((codes "f", sheet_text sheet) ∷ []) show_line printed Done
  other_session again sheet display printed is is_shown other keeps =
      other (printed_is again sheet display printed is is_shown (edit_ends ((codes "f", sheet_text sheet) ∷ []) show_line printed Done keeps (λ e. absurd (cc)) (λ c. c)))
