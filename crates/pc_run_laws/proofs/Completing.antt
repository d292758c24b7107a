-- Of the answers that a line may have, a budget that is enough leaves the one by which its verdict is told, and want of memory.
use Rattle.std.proofs.Common.{◌≡◌, ℕ, ◌≤◌, inl, inr, List, [], ◌∷◌, None, refl, ap, sym, subst}
use Rattle.pc_lines.specs.Lines as a_line
use Rattle.pc_syntax.specs.Tree.{Asked}
use Rattle.pc_sheet.specs.Cells.{CellsAreNumberedInOrder}
use Rattle.pc_sheet.specs.WellFormed.{IsWellFormed}
use Rattle.pc_sortcheck.specs.Laws.{SheetsAreWellFormed}
use Rattle.pc_refusals.specs.declared.refusal.Refusal.{Refusal}
use Rattle.pc_refusals.specs.declared.refusal.SheetRefusal.{SheetRefusal}
use Rattle.pc_transcript.specs.Answer.{Answer, silent, accepted, shown, refused, no_memory}
use Rattle.pc_spreadsheet.specs.Judgement.{Verdict, nothing, does, refuses, contradicts, IsVerdictOn, opens, rejects, IsRejected}
use Rattle.pc_spreadsheet.specs.Tasks.{State, Task, IsTaskOf, entering, entering_beside, clearing, removing, adding, dropping, budgeting, asking, showing, showing_grid, showing_json, dumping, listing, proving, doubting, inquiring, state_after, enters, enters_beside, clears, removes, adds, drops, budgets, shows, IsEdit}
use Rattle.pc_spreadsheet.specs.Allowed.{Notes, Allows, RefusesLine, as_judged, as_contradiction, as_spent, as_proof_spent, as_ask_spent, RefusesText, for_fault, for_weight, for_rules, for_search}
use Rattle.pc_spreadsheet.specs.Laws.{LinesHaveOneVerdict, TextsHaveOneVerdict, AnswersKeepForm}
use Rattle.pc_run_laws.specs.Complete.{HasEnough, IsDone, Tells, IsAsJudged, LinesAreAnsweredInFull, TranscriptsAreInFull, HasEnoughFor, TextsAreRefusedInFull, TextsOfEnoughAreOpened}
use Rattle.pc_run_laws.proofs.Spending.{not_spent, proof_not_spent, ask_not_spent, answer_formed, search_formed}

-- ---- lines

edit_done : (state : State) (task : Task) → IsEdit task → IsDone state task accepted
edit_done state (enters e) edit = refl
edit_done state (enters_beside e) edit = refl
edit_done state (clears k) edit = refl
edit_done state (removes e) edit = refl
edit_done state (adds r) edit = refl
edit_done state (drops place) edit = refl
edit_done state (budgets n) edit = refl
edit_done state (shows kind) edit = absurd edit

-- the notes of a pair that stays
notes_stay : (old new : State × Notes) → new ≡ old → new.1 ≡ old.1
notes_stay old new same = ap (λ (s : State × Notes). s.1) same

-- where the answer tells one verdict of the line, it tells any
judged_by : (old new : State × Notes) (answer : Answer) (found verdict : Verdict) → found ≡ verdict → Tells old.0 found answer → new.1 ≡ old.1 → IsAsJudged old verdict answer new
judged_by old new answer found verdict same tells none_noted = record { told = inl (subst (λ v. Tells old.0 v answer) same tells); none_noted = none_noted }

module _ (one : LinesHaveOneVerdict) (ordered : CellsAreNumberedInOrder) (old new : State × Notes) (line : List ℕ) (formed : IsWellFormed old.0.sheet) (some : 1 ≤ old.0.budget) (enough : HasEnough old.0 line) (verdict : Verdict) (is : IsVerdictOn old.0 line verdict) where
  told_by : (answer : Answer) (found : Verdict) → IsVerdictOn old.0 line found → Tells old.0 found answer → new.1 ≡ old.1 → IsAsJudged old verdict answer new
  told_by answer found this tells none_noted = judged_by old new answer found verdict (one old.0 formed line found verdict this is) tells none_noted

  refusal : (why : Refusal) (more : List ℕ) → RefusesLine old line why more new → IsAsJudged old verdict (refused why more) new
  refusal why more (as_judged this none same) = told_by (refused why more) (refuses why) this (ap (refused why) none) (notes_stay old new same)
  refusal why more (as_contradiction r this certificate why_is same) = told_by (refused why more) (contradicts r) this (more, certificate, ap (λ (w : Refusal). refused w more) why_is) (notes_stay old new same)
  refusal why more (as_spent counts spends why_is none same) =
      let s = spends.2 in
      absurd (not_spent s.made (search_formed ordered old.0.sheet spends.0 s.cell s.made formed s.needs) s.cell old.0.budget some (enough.to_edit spends.0 s.cell s.made spends.1 s.needs) s.spent.spending s.spent.lawful)
  refusal why more (as_proof_spent counts spends why_is none same) =
      let s = spends.2 in
      absurd (proof_not_spent old.0.sheet formed old.0.budget some (enough.to_prove spends.0 spends.1 s.0) counts old.1 new.1 s.1)
  refusal why more (as_ask_spent counts spends why_is none same) =
      let s = spends.2 in
      absurd (ask_not_spent old.0.sheet s.0 (answer_formed old.0.sheet spends.0 s.0 formed s.1) old.0.budget some (enough.to_ask spends.0 s.0 spends.1 s.1) counts old.1 new.1 s.2)

  answered : (answer : Answer) → Allows old line answer new → IsAsJudged old verdict answer new
  answered silent (this, same) = told_by silent nothing this refl (notes_stay old new same)
  answered accepted (task, this, edit, same) = told_by accepted (does task) this (edit_done old.0 task edit) (ap (λ (s : State × Notes). s.1) same)
  answered (shown text) (kind, this, says, same) = told_by (shown text) (does (shows kind)) this (text, says, refl) (notes_stay old new same)
  answered (refused why more) h = refusal why more h
  answered no_memory (takes, same) = record { told = inr refl; none_noted = notes_stay old new same }

pub lines_in_full : LinesHaveOneVerdict → CellsAreNumberedInOrder → LinesAreAnsweredInFull
lines_in_full one ordered old new line answer formed some allowed = record {
  allowed = allowed;
  judged = λ enough verdict is. answered one ordered old new line formed some enough verdict is answer allowed;
}

-- ---- transcripts

-- no answer leaves a budget of nothing
budget_stays : (state : State) (asked : Asked) (task : Task) → 1 ≤ state.budget → IsTaskOf state.sheet asked task → 1 ≤ (state_after state task).budget
budget_stays state asked task some (entering e named) = some
budget_stays state asked task some (entering_beside e named room) = some
budget_stays state asked task some (clearing k named has) = some
budget_stays state asked task some (removing e named stands) = some
budget_stays state asked task some (adding r new light consistent) = some
budget_stays state asked task some (dropping place at) = some
budget_stays state asked task some (budgeting within) = within.0
budget_stays state asked task some (asking t named holds) = some
budget_stays state asked task some showing = some
budget_stays state asked task some showing_grid = some
budget_stays state asked task some showing_json = some
budget_stays state asked task some dumping = some
budget_stays state asked task some listing = some
budget_stays state asked task some (proving few) = some
budget_stays state asked task some (doubting t named holds few) = some
budget_stays state asked task some (inquiring s new light) = some

same_budget : (old new : State) → 1 ≤ old.budget → new ≡ old → 1 ≤ new.budget
same_budget old new some same = subst (λ (s : State). 1 ≤ s.budget) (sym same) some

same_pair : (old new : State × Notes) → 1 ≤ old.0.budget → new ≡ old → 1 ≤ new.0.budget
same_pair old new some same = subst (λ (s : State × Notes). 1 ≤ s.0.budget) (sym same) some

pub keeps_budget : (old new : State × Notes) (line : List ℕ) (answer : Answer) → 1 ≤ old.0.budget → Allows old line answer new → 1 ≤ new.0.budget
keeps_budget old new line silent some is = same_pair old new some is.1
keeps_budget old new line accepted some (task, (asked, reading, what), edit, same) = subst (λ (s : State × Notes). 1 ≤ s.0.budget) (sym same) (budget_stays old.0 asked task some what)
keeps_budget old new line (shown text) some is = same_pair old new some is.3
keeps_budget old new line (refused why more) some (as_judged is none same) = same_pair old new some same
keeps_budget old new line (refused why more) some (as_contradiction r is against why_is same) = same_pair old new some same
keeps_budget old new line (refused why more) some (as_spent counts spends why_is none same) = same_budget old.0 new.0 some same
keeps_budget old new line (refused why more) some (as_proof_spent counts spends why_is none same) = same_budget old.0 new.0 some same
keeps_budget old new line (refused why more) some (as_ask_spent counts spends why_is none same) = same_budget old.0 new.0 some same
keeps_budget old new line no_memory some is = same_pair old new some is.1

pub transcripts_in_full : LinesAreAnsweredInFull → AnswersKeepForm → TranscriptsAreInFull
transcripts_in_full lines keep old new [] formed some legal = legal
transcripts_in_full lines keep old new (pair ∷ more) formed some legal =
    let mid = legal.0 in
    let line = a_line.line_text_of pair.0 in (
      mid,
      lines old mid line pair.1 formed some legal.1,
      transcripts_in_full lines keep mid new more (keep old mid line pair.1 formed legal.1) (keeps_budget old mid line pair.1 some legal.1) legal.2,
    )

-- ---- sheets

rejected : SheetsAreWellFormed → (budget : ℕ) (text : List ℕ) (why : SheetRefusal) (more : List ℕ) (old new : Notes) → 1 ≤ budget → RefusesText budget text why more old new → HasEnoughFor budget text → IsRejected text why × (new ≡ old)
rejected formed budget text why more old new some (for_fault h none same) enough = (inl h, same)
rejected formed budget text why more old new some (for_weight h why_is none same) enough = (inr (inl (why_is, h)), same)
rejected formed budget text why more old new some (for_rules sheet h certificate why_is same) enough = (inr (inr (why_is, (sheet, h))), same)
rejected formed budget text why more old new some (for_search sheet counts reads light spent why_is none) enough =
    absurd (not_spent sheet (formed text sheet reads) None budget some (enough sheet reads light) spent.spending spent.lawful)

pub refused_in_full : SheetsAreWellFormed → TextsAreRefusedInFull
refused_in_full formed budget text why more old new some told = record { refused = told; judged = λ enough. rejected formed budget text why more old new some told enough }

pub opened_of_enough : SheetsAreWellFormed → TextsHaveOneVerdict → TextsOfEnoughAreOpened
opened_of_enough formed one budget text state some starts enough why more old new told =
    let judged = rejected formed budget text why more old new some told enough in
    let e : opens state ≡ rejects why = one budget text (opens state) (rejects why) starts judged.0 in cc
