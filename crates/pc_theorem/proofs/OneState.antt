-- An answer leaves one state, and so do answers to many lines.
use Rattle.std.proofs.Common.{◌≡◌, ◌⊎◌, ℕ, List, [], ◌∷◌, refl, sym, ◌∙◌, ap, subst, inl, inr}
use Rattle.pc_lines.specs.Lines.{line_text_of}
use Rattle.pc_sheet.specs.WellFormed.{IsWellFormed}
use Rattle.pc_transcript.specs.Answer.{Answer, accepted}
use Rattle.pc_transcript.specs.Transcript.{Legal}
use Rattle.pc_spreadsheet.specs.Judgement.{does}
use Rattle.pc_spreadsheet.specs.Laws.{LinesHaveOneVerdict, AnswersKeepForm}
use Rattle.pc_spreadsheet.specs.Tasks.{State, Task, IsTask, IsEdit, state_after}
use Rattle.pc_theorem.specs.Theorem.{Answers, nothing_asked, edit_done, page_shown, not_doable, contradicting, budget_spent, memory_lacking}
use Rattle.pc_theorem.specs.Laws.{AnswersLeaveOneState, TranscriptsLeaveOneState}

-- the state is as it was, or an edit was done
record IsDone (state : State) (line : List ℕ) (next : State) : Type 0 where
  edit : Task
  asked : IsTask state line edit
  edits : IsEdit edit
  next_is : next ≡ state_after state edit

abbrev Leaves : State → List ℕ → Answer → State → Type 0
Leaves state line answer next = ((answer ≡ accepted → ⊥) × (next ≡ state)) ⊎ ((answer ≡ accepted) × IsDone state line next)

leaves : (state next : State) (line : List ℕ) (answer : Answer) → Answers state line answer next → Leaves state line answer next
leaves state next line answer (nothing_asked none) = inl (λ e. absurd (cc), refl)
leaves state next line answer (edit_done edit asked edits) = inr (refl, record { edit = edit; asked = asked; edits = edits; next_is = refl })
leaves state next line answer (page_shown kind text asked tells) = inl (λ e. absurd (cc), refl)
leaves state next line answer (not_doable why is) = inl (λ e. absurd (cc), refl)
leaves state next line answer (contradicting r certificate is shows_it) = inl (λ e. absurd (cc), refl)
leaves state next line answer (budget_spent counts short placed) = inl (λ e. absurd (cc), refl)
leaves state next line answer (memory_lacking takes) = inl (λ e. absurd (cc), refl)

same_task : (x y : Task) → does x ≡ does y → x ≡ y
same_task x y same = cc

module _ (one : LinesHaveOneVerdict) where
  both : (state next other : State) (line : List ℕ) (answer : Answer) → IsWellFormed state.sheet → Leaves state line answer next → Leaves state line answer other → other ≡ next
  both state next other line answer formed (inl x) (inl y) = y.1 ∙ sym x.1
  both state next other line answer formed (inl x) (inr y) = absurd (x.0 y.0)
  both state next other line answer formed (inr x) (inl y) = absurd (y.0 x.0)
  both state next other line answer formed (inr x) (inr y) =
      let same = same_task y.1.edit x.1.edit (one state formed line (does y.1.edit) (does x.1.edit) y.1.asked x.1.asked) in
      y.1.next_is ∙ ap (state_after state) same ∙ sym x.1.next_is

  pub answers_leave_one_state : AnswersLeaveOneState
  answers_leave_one_state state next other line answer formed x y = both state next other line answer formed (leaves state next line answer x) (leaves state other line answer y)

  -- a state that is left is well formed
  keeps_form : AnswersKeepForm → (state next : State) (line : List ℕ) (answer : Answer) → IsWellFormed state.sheet → Leaves state line answer next → IsWellFormed next.sheet
  keeps_form keep state next line answer formed (inl x) = subst (λ (s : State). IsWellFormed s.sheet) (sym x.1) formed
  keeps_form keep state next line answer formed (inr x) =
      let d = x.1 in
      subst (λ (s : State). IsWellFormed s.sheet) (sym d.next_is) (keep (state, []) (state_after state d.edit, []) line accepted formed (d.edit, d.asked, d.edits, refl))

  pub transcripts_leave_one_state : AnswersKeepForm → TranscriptsLeaveOneState
  transcripts_leave_one_state keep start end other [] formed x y = y ∙ sym x
  transcripts_leave_one_state keep start end other (pair ∷ more) formed x y =
      let line = line_text_of pair.0 in
      let same = answers_leave_one_state start x.0 y.0 line pair.1 formed x.1 y.1 in
      transcripts_leave_one_state keep x.0 end other more (keeps_form keep start x.0 line pair.1 formed (leaves start x.0 line pair.1 x.1)) x.2 (subst (λ (s : State). Legal Answers s more other) same y.2)
