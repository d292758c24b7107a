-- A saved sheet shows what it showed, and takes the certificates that it took.
use Rattle.std.proofs.Common.{◌≡◌, ℕ, List, Some, sym, ◌∙◌, subst}
use Rattle.pc_sheet.specs.Sheet.{Sheet}
use Rattle.pc_sortcheck.specs.Declaring.{ReadsAs}
use Rattle.pc_display.specs.Show.{IsShown}
use Rattle.pc_display.specs.Grid.{IsGrid}
use Rattle.pc_display.specs.Json.{IsJsonLine}
use Rattle.pc_judge.specs.AcceptedText.{IsAcceptedText}
use Rattle.pc_refusals.specs.declared.status.Status.TheVariants.{CertRefused}
use Rattle.pc_spreadsheet.specs.Tasks.{lines_page, grid_page, json_page, text_page, why_page, repairs_page, proof_page, whynot_page, ask_page}
use Rattle.pc_theorem.specs.Theorem.{KnownRun, IsTheText, IsDeclined, EndsCheck, accepts, declines, finds_no_sheet}
use Rattle.pc_theorem.specs.Laws.{SavedSheetsShowTheSame, SavedSheetsTakeCertificates}

same_text : (Says : Sheet → List ℕ → Type 0) (sheet next : Sheet) (shown later : List ℕ) → next ≡ sheet → IsTheText Says sheet shown → IsTheText Says next later → later ≡ shown
same_text Says sheet next shown later same one other = one.only later (subst (λ s. Says s later) same other.is)

pub saved_sheets_show_the_same : SavedSheetsShowTheSame
saved_sheets_show_the_same sheet lines_page saved shown later budget start of_display again page starts other = same_text IsShown sheet start.sheet shown later (again.only budget start starts) page other
saved_sheets_show_the_same sheet grid_page saved shown later budget start of_display again page starts other = same_text IsGrid sheet start.sheet shown later (again.only budget start starts) page other
saved_sheets_show_the_same sheet json_page saved shown later budget start of_display again page starts other = same_text IsJsonLine sheet start.sheet shown later (again.only budget start starts) page other
saved_sheets_show_the_same sheet text_page saved shown later budget start of_display again page starts other = absurd of_display
saved_sheets_show_the_same sheet (why_page t) saved shown later budget start of_display again page starts other = absurd of_display
saved_sheets_show_the_same sheet repairs_page saved shown later budget start of_display again page starts other = absurd of_display
saved_sheets_show_the_same sheet proof_page saved shown later budget start of_display again page starts other = absurd of_display
saved_sheets_show_the_same sheet (whynot_page t) saved shown later budget start of_display again page starts other = absurd of_display
saved_sheets_show_the_same sheet (ask_page made) saved shown later budget start of_display again page starts other = absurd of_display

bytes_same : (x y : List ℕ) → Some x ≡ Some y → x ≡ y
bytes_same x y e = cc

-- a check that refuses declined the certificate
declined : (run : KnownRun) (file : List ℕ) → EndsCheck run file → run.status ≡ CertRefused → IsDeclined run.files file run.input run.printed
declined run file (accepts done is) refused = absurd (cc (done, refused))
declined run file (declines so is) refused = is
declined run file (finds_no_sheet so is) refused = absurd (cc (so, refused))

pub saved_sheets_take_certificates : SavedSheetsTakeCertificates
saved_sheets_take_certificates sheet saved certificate again accepted run file found input check refused =
    let d = declined run file check refused in
    let bytes : saved ≡ d.bytes = bytes_same saved d.bytes (sym found ∙ d.found) in
    let same = d.only sheet (subst (λ b. ReadsAs b sheet) bytes (again.starts 1).reads) in
    d.refused (subst (λ s. IsAcceptedText s run.input) same (subst (IsAcceptedText sheet) (sym input) accepted))
