-- Every state of a run is well formed.
use Rattle.std.proofs.Common.{◌≡◌, not, sym, subst}
use Rattle.pc_syntax.specs.Tree.{Asked}
use Rattle.pc_sheet.specs.Cells.{CellsAreNumberedInOrder}
use Rattle.pc_sheet.specs.WellFormed.{IsWellFormed, is_of_cell}
use Rattle.pc_books.specs.Edits.{added_to, entered_to, without_one, cleared, is_same_entry}
use Rattle.pc_books.proofs.BookLemmas.{with_entries}
use Rattle.pc_books.proofs.EditLemmas.{sheet_stays}
use Rattle.pc_books.proofs.EntryLemmas.{entries_stay, entries_beside, entries_kept}
use Rattle.pc_cert.proofs.ReadEntries.{is_an_entry}
use Rattle.pc_transcript.specs.Answer.{silent, accepted, shown, refused, no_memory}
use Rattle.pc_sortcheck.specs.Laws.{SheetsAreWellFormed}
use Rattle.pc_spreadsheet.specs.Tasks.{State, Task, entering, entering_beside, clearing, removing, adding, dropping, budgeting, asking, showing, showing_grid, showing_json, dumping, listing, proving, doubting, inquiring, IsTaskOf, IsEdit, state_after}
use Rattle.pc_spreadsheet.specs.Allowed.{Notes, as_judged, as_contradiction, as_spent, as_proof_spent, as_ask_spent}
use Rattle.pc_spreadsheet.specs.Laws.{StartsAreWellFormed, AnswersKeepForm}
use Rattle.pc_spreadsheet.proofs.Rules.{formed_with}

pub starts_formed : SheetsAreWellFormed → StartsAreWellFormed
starts_formed sheets budget text state starts = sheets text state.sheet starts.reads

same_formed : (old new : State) → IsWellFormed old.sheet → new ≡ old → IsWellFormed new.sheet
same_formed old new formed same = subst (λ (s : State). IsWellFormed s.sheet) (sym same) formed

same_pair_formed : (old new : State × Notes) → IsWellFormed old.0.sheet → new ≡ old → IsWellFormed new.0.sheet
same_pair_formed old new formed same = subst (λ (s : State × Notes). IsWellFormed s.0.sheet) (sym same) formed

module _ (ordered : CellsAreNumberedInOrder) where
  edit_keeps : (state : State) (asked : Asked) (task : Task) → IsWellFormed state.sheet → IsTaskOf state.sheet asked task → IsEdit task → IsWellFormed (state_after state task).sheet
  edit_keeps state asked task formed (entering {c = c} {v = v} e named) edit =
      with_entries state.sheet (entered_to state.sheet.entries e) formed (entries_stay state.sheet.universe state.sheet.entries e formed.entries (is_an_entry state.sheet.universe ordered c v named.sort e named.cell named.value))
  edit_keeps state asked task formed (entering_beside {c = c} {v = v} e named room) edit =
      with_entries state.sheet (added_to state.sheet.entries e) formed (entries_beside state.sheet.universe state.sheet.entries e formed.entries (is_an_entry state.sheet.universe ordered c v named.sort e named.cell named.value) room)
  edit_keeps state asked task formed (removing e named stands) edit = with_entries state.sheet (without_one e state.sheet.entries) formed (entries_kept state.sheet.universe (λ f. not (is_same_entry e f)) state.sheet.entries formed.entries)
  edit_keeps state asked task formed (clearing k named has) edit = with_entries state.sheet (cleared state.sheet.entries k) formed (entries_kept state.sheet.universe (λ e. not (is_of_cell k e)) state.sheet.entries formed.entries)
  edit_keeps state asked task formed (adding {n = n} {f = f} r new light consistent) edit = formed_with state.sheet n f r formed new
  edit_keeps state asked task formed (dropping place at) edit = sheet_stays state.sheet place at.0 formed
  edit_keeps state asked task formed (budgeting within) edit = formed
  edit_keeps state asked task formed (asking t named holds) edit = absurd edit
  edit_keeps state asked task formed showing edit = absurd edit
  edit_keeps state asked task formed showing_grid edit = absurd edit
  edit_keeps state asked task formed showing_json edit = absurd edit
  edit_keeps state asked task formed dumping edit = absurd edit
  edit_keeps state asked task formed listing edit = absurd edit
  edit_keeps state asked task formed (proving few) edit = absurd edit
  edit_keeps state asked task formed (doubting t named holds few) edit = absurd edit
  edit_keeps state asked task formed (inquiring s new light) edit = absurd edit

  pub answers_keep : AnswersKeepForm
  answers_keep old new line silent formed is = same_pair_formed old new formed is.1
  answers_keep old new line accepted formed (task, (asked, reading, asks), edit, same) =
      subst (λ (s : State × Notes). IsWellFormed s.0.sheet) (sym same) (edit_keeps old.0 asked task formed asks edit)
  answers_keep old new line (shown text) formed is = same_pair_formed old new formed is.3
  answers_keep old new line (refused why more) formed (as_judged is none same) = same_pair_formed old new formed same
  answers_keep old new line (refused why more) formed (as_contradiction r is against why_is same) = same_pair_formed old new formed same
  answers_keep old new line (refused why more) formed (as_spent counts spends why_is none same) = same_formed old.0 new.0 formed same
  answers_keep old new line (refused why more) formed (as_proof_spent counts spends why_is none same) = same_formed old.0 new.0 formed same
  answers_keep old new line (refused why more) formed (as_ask_spent counts spends why_is none same) = same_formed old.0 new.0 formed same
  answers_keep old new line no_memory formed is = same_pair_formed old new formed is.1
