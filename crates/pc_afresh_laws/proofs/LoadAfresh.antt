-- What an open sheet is dumped as loads as that sheet, with the same display.
use Rattle.std.proofs.Common.{◌≡◌, ◌↔◌, ℕ, List, ap, sym, subst, ◌∙◌, refl}
use Rattle.pc_sheet.specs.Sheet.{Sheet}
use Rattle.pc_sheet.specs.WellFormed.{IsWellFormed}
use Rattle.pc_writer.specs.SheetText.{ended}
use Rattle.pc_sortcheck.specs.Declaring.{ReadsAs}
use Rattle.pc_canonical_laws.specs.Declared.{TextsReadBack}
use Rattle.pc_display.specs.OneDisplay.{HasOneText, SheetHasOneDisplay}
use Rattle.pc_spreadsheet.specs.Judgement.{SheetVerdict, opens, rejects}
use Rattle.pc_spreadsheet.specs.Tasks.{State, Starts, PageKind, lines_page, grid_page, json_page, text_page, why_page, repairs_page, proof_page, whynot_page, ask_page}
use Rattle.pc_spreadsheet.specs.Pages.{PageSays}
use Rattle.pc_spreadsheet.specs.Laws.{TextsHaveOneVerdict}
use Rattle.pc_afresh_laws.specs.Afresh.{IsOpen, StartsAreOpen, TranscriptsKeepOpen, DumpsStartAgain, IsDisplay, SaysOnly, DisplayTheSame, LoadedAfreshShowsTheSame, RunsLoadAfresh}

-- ---- a run starts again

-- the sheet of a state, or this one
abbrev sheet_of : Sheet → SheetVerdict → Sheet
sheet_of sheet (opens state) = state.sheet
sheet_of sheet (rejects why) = sheet

abbrev state_of : Sheet → ℕ → State
state_of sheet budget = record { sheet = sheet; budget = budget }

module _ (back : TextsReadBack) (one : TextsHaveOneVerdict) where
  start_of : (sheet : Sheet) (dumped : List ℕ) → IsOpen sheet → PageSays text_page sheet dumped → (budget : ℕ) → Starts budget dumped (state_of sheet budget)
  start_of sheet dumped is says budget =
      record { reads = subst (λ t. ReadsAs t sheet) (sym says) (back sheet is.formed); light = is.light; consistent = is.consistent; budget = refl }

  pub dumps_start : DumpsStartAgain
  dumps_start sheet dumped is says = record {
    starts = start_of sheet dumped is says;
    only = λ budget state starts. ap (sheet_of sheet) (one budget dumped (opens state) (opens (state_of sheet budget)) starts (start_of sheet dumped is says budget));
  }

-- ---- one display of each form

only_text : (Is : Sheet → List ℕ → Type 0) → HasOneText Is → (sheet : Sheet) → IsWellFormed sheet → (text : List ℕ) × ((other : List ℕ) → Is sheet other ↔ (other ≡ text))
only_text Is one sheet formed =
    let found = one sheet formed in
    (found.0, λ other. (found.2 other, λ same. subst (Is sheet) (sym same) found.1))

module _ (one : SheetHasOneDisplay) where
  pub one_page : (sheet : Sheet) (kind : PageKind) → IsWellFormed sheet → IsDisplay kind → (text : List ℕ) × SaysOnly kind sheet text
  one_page sheet lines_page formed form = only_text (PageSays lines_page) one.shown sheet formed
  one_page sheet grid_page formed form = only_text (PageSays grid_page) one.grid sheet formed
  one_page sheet json_page formed form =
      let found = one.json sheet formed in (
        ended found.0,
        λ other. (
          λ says. says.2 ∙ ap ended (found.2 says.0 says.1),
          λ same. (found.0, found.1, same),
        ),
      )
  one_page sheet text_page formed form = absurd form
  one_page sheet (why_page t) formed form = absurd form
  one_page sheet repairs_page formed form = absurd form
  one_page sheet proof_page formed form = absurd form
  one_page sheet (whynot_page t) formed form = absurd form
  one_page sheet (ask_page made) formed form = absurd form

  pub same_display : (sheet other : Sheet) → IsWellFormed sheet → other ≡ sheet → DisplayTheSame sheet other
  same_display sheet other formed same kind form =
      let page = one_page sheet kind formed form in
      (page.0, page.1, subst (λ s. SaysOnly kind s page.0) (sym same) page.1)

  pub afresh_shows : DumpsStartAgain → LoadedAfreshShowsTheSame
  afresh_shows again budget sheet dumped state is says starts = same_display sheet state.sheet is.formed ((again sheet dumped is says).only budget state starts)

-- ---- of whole runs

pub runs_load : StartsAreOpen → TranscriptsKeepOpen → DumpsStartAgain → LoadedAfreshShowsTheSame → RunsLoadAfresh
runs_load first keeps again shows budget text dumped start notes transcript reached starts legal says =
    let is = keeps (start, notes) reached transcript (first budget text start starts) legal in
    record { again = again reached.0.sheet dumped is says; display = λ budget state fresh. shows budget reached.0.sheet dumped state is says fresh }
