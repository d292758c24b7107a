-- Every sheet of a run is one from which a run can start.
use Rattle.std.proofs.Common.{◌≡◌, ℕ, suc, ◌+◌, ◌<◌, ◌≤◌, List, [], ◌∷◌, length, All, take, drop, sum_by, arith, sym, subst}
use Rattle.std.specs.List.{remove}
use Rattle.std.proofs.lemmas.List.Elements.{All-append, All-drop, All-take}
use Rattle.std.proofs.lemmas.List.Sums.{sum_by-remove}
use Rattle.pc_sheet.specs.Sheet.{Sheet, NamedStatement, no_statements, all_of}
use Rattle.pc_sheet.specs.Truth.{Holds}
use Rattle.pc_sheet.specs.Entailment.{cell_sizes}
use Rattle.pc_sheet.specs.MaximalSets.{AreRulesConsistent}
use Rattle.pc_sheet.specs.Weight.{cell_weight, rule_weight}
use Rattle.pc_books.specs.Edits.{without_rule}
use Rattle.pc_lines.specs.Lines as a_line
use Rattle.pc_syntax.specs.Tree.{Asked}
use Rattle.pc_transcript.specs.Answer.{Answer, silent, accepted, shown, refused, no_memory}
use Rattle.pc_spreadsheet.specs.Tasks.{State, IsLight, Task, entering, entering_beside, clearing, removing, adding, dropping, budgeting, asking, showing, showing_grid, showing_json, dumping, listing, proving, doubting, inquiring, IsTaskOf, IsEdit, state_after}
use Rattle.pc_spreadsheet.specs.Allowed.{Notes, Allows, as_judged, as_contradiction, as_spent, as_proof_spent, as_ask_spent}
use Rattle.pc_spreadsheet.specs.Laws.{StartsAreWellFormed, AnswersKeepForm}
use Rattle.pc_afresh_laws.specs.Afresh.{IsOpen, StartsAreOpen, AnswersKeepOpen, TranscriptsKeepOpen}

-- ---- one rule less

All-remove : {X : Type 0} (P : X → Type 0) (xs : List X) (k : ℕ) → All P xs → All P (remove xs k)
All-remove P xs k h = All-append P (take k xs) (drop (suc k) xs) (All-take P k xs h) (All-drop P (suc k) xs h)

less_stays : {X : Type 0} (f : X → ℕ) (xs : List X) (k : ℕ) (d : X) (base limit : ℕ) → k < length xs → base + sum_by f xs ≤ limit → base + sum_by f (remove xs k) ≤ limit
less_stays f xs k d base limit inside h = omega (arith, h, sum_by-remove f xs k d inside)

blank_rule : NamedStatement
blank_rule = record { name = []; states = all_of no_statements }

lighter : (sheet : Sheet) (k : ℕ) → k < length sheet.rules → IsLight sheet → IsLight (without_rule sheet k)
lighter sheet k inside light = less_stays (rule_weight sheet.universe) sheet.rules k blank_rule (sum_by cell_weight (cell_sizes sheet.universe)) 4000000 inside light

still_consistent : (sheet : Sheet) (k : ℕ) → AreRulesConsistent sheet → AreRulesConsistent (without_rule sheet k)
still_consistent sheet k is = (is.0, is.1, All-remove (λ rule. Holds sheet.universe is.0 [] rule.states) sheet.rules k is.2)

-- ---- what an answer leaves

-- light, and with rules that agree
abbrev IsFit : Sheet → Type 0
IsFit sheet = IsLight sheet × AreRulesConsistent sheet

edit_fits : (state : State) (asked : Asked) (task : Task) → IsFit state.sheet → IsTaskOf state.sheet asked task → IsEdit task → IsFit (state_after state task).sheet
edit_fits state asked task fit (entering e named) edit = fit
edit_fits state asked task fit (entering_beside e named room) edit = fit
edit_fits state asked task fit (clearing k named has) edit = fit
edit_fits state asked task fit (removing e named stands) edit = fit
edit_fits state asked task fit (adding r new light consistent) edit = (light, consistent)
edit_fits state asked task fit (dropping place at) edit = (lighter state.sheet place at.0 fit.0, still_consistent state.sheet place fit.1)
edit_fits state asked task fit (budgeting within) edit = fit
edit_fits state asked task fit (asking t named holds) edit = absurd edit
edit_fits state asked task fit showing edit = absurd edit
edit_fits state asked task fit showing_grid edit = absurd edit
edit_fits state asked task fit showing_json edit = absurd edit
edit_fits state asked task fit dumping edit = absurd edit
edit_fits state asked task fit listing edit = absurd edit
edit_fits state asked task fit (proving few) edit = absurd edit
edit_fits state asked task fit (doubting t named holds few) edit = absurd edit
edit_fits state asked task fit (inquiring s new light) edit = absurd edit

same_pair : (old new : State × Notes) → IsFit old.0.sheet → new ≡ old → IsFit new.0.sheet
same_pair old new fit same = subst (λ (s : State × Notes). IsFit s.0.sheet) (sym same) fit

same_state : (old new : State) → IsFit old.sheet → new ≡ old → IsFit new.sheet
same_state old new fit same = subst (λ (s : State). IsFit s.sheet) (sym same) fit

answer_fits : (old new : State × Notes) (line : List ℕ) (answer : Answer) → IsFit old.0.sheet → Allows old line answer new → IsFit new.0.sheet
answer_fits old new line silent fit is = same_pair old new fit is.1
answer_fits old new line accepted fit (task, (asked, reading, asks), edit, same) = subst (λ (s : State × Notes). IsFit s.0.sheet) (sym same) (edit_fits old.0 asked task fit asks edit)
answer_fits old new line (shown text) fit is = same_pair old new fit is.3
answer_fits old new line (refused why more) fit (as_judged is none same) = same_pair old new fit same
answer_fits old new line (refused why more) fit (as_contradiction r is against why_is same) = same_pair old new fit same
answer_fits old new line (refused why more) fit (as_spent counts spends why_is none same) = same_state old.0 new.0 fit same
answer_fits old new line (refused why more) fit (as_proof_spent counts spends why_is none same) = same_state old.0 new.0 fit same
answer_fits old new line (refused why more) fit (as_ask_spent counts spends why_is none same) = same_state old.0 new.0 fit same
answer_fits old new line no_memory fit is = same_pair old new fit is.1

-- ---- the laws

pub starts_are_open : StartsAreWellFormed → StartsAreOpen
starts_are_open formed budget text state starts = record { formed = formed budget text state starts; light = starts.light; consistent = starts.consistent }

pub answers_keep_open : AnswersKeepForm → AnswersKeepOpen
answers_keep_open keeps old new line answer is allowed =
    let fit = answer_fits old new line answer (is.light, is.consistent) allowed in
    record { formed = keeps old new line answer is.formed allowed; light = fit.0; consistent = fit.1 }

pub transcripts_keep_open : AnswersKeepOpen → TranscriptsKeepOpen
transcripts_keep_open keeps old new [] is legal = subst (λ (s : State × Notes). IsOpen s.0.sheet) (sym legal) is
transcripts_keep_open keeps old new (pair ∷ more) is legal = transcripts_keep_open keeps legal.0 new more (keeps old legal.0 (a_line.line_text_of pair.0) pair.1 is legal.1) legal.2
