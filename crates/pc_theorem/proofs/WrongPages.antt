-- Replies and pages that no line may have.
use Rattle.std.proofs.Common.{◌≡◌, ◌≢◌, ℕ, ◌<◌, List, [], refl, sym, subst, inl, arith}
use Rattle.pc_syntax.specs.Tree.{Asked, asks_show, asks_grid, asks_json, asks_dump, asks_repairs}
use Rattle.pc_syntax.specs.Command.{IsCommandReading, no_command, empty_command, asks, TakesNoMemory}
use Rattle.pc_sheet.specs.Sheet.{Sheet, Statement, NamedStatement, with_rule}
use Rattle.pc_sheet.specs.WellFormed.{IsWellFormed}
use Rattle.pc_sheet.specs.declared.ids.CellId.{CellId}
use Rattle.std.specs.declared.option.Option.{Option}
use Rattle.pc_load.specs.Laws.{TextsHaveOneOutcome}
use Rattle.pc_refusals.specs.declared.refusal.Refusal.TheVariants.{Inconsistent, Spent}
use Rattle.pc_transcript.specs.Answer.{Answer, silent, accepted, shown, refused}
use Rattle.pc_spreadsheet.specs.Allowed.{NeedsSearch, NeedsProof, NeedsAnswer}
use Rattle.pc_spreadsheet.specs.Judgement.{nothing, does, refuses, contradicts}
use Rattle.pc_spreadsheet.specs.Laws.{LinesHaveOneVerdict}
use Rattle.pc_spreadsheet.specs.Refused.{IsContradiction}
use Rattle.pc_spreadsheet.specs.Tasks.{State, Task, PageKind, grid_page, json_page, text_page, repairs_page, shows, IsTask, IsEdit, IsTaskOf, showing_grid, showing_json, dumping, listing, AsksNothing}
use Rattle.pc_theorem.specs.Budgets.{HasTooLittle, to_edit, to_prove, to_ask}
use Rattle.pc_theorem.specs.Theorem.{TellsPage, IsRefutation, Answers, nothing_asked, edit_done, page_shown, not_doable, contradicting, budget_spent, memory_lacking}
use Rattle.pc_theorem.specs.WrongAnswers.{BrokenReplies, BrokenPages}
use Rattle.pc_theorem.proofs.BrokenAnswers.{too_little}
use Rattle.pc_theorem.proofs.BrokenVerdicts.{same_task}
use Rattle.pc_theorem.proofs.Checked.{no_other}
use Rattle.pc_theorem.proofs.Clearing.{CommandsHaveOneReading, asked_same}

-- ---- what a line asks for

module _ (read : CommandsHaveOneReading) where
  asks_this : (line : List ℕ) (a b : Asked) → IsCommandReading line (asks a) → IsCommandReading line (asks b) → a ≡ b
  asks_this line a b one other = asked_same a b (read line (asks a) (asks b) one other)

  -- the page that a line asks for, of a command that has one kind
  pub told_page : (state next : State) (line text : List ℕ) (a : Asked) (wanted : PageKind) → ((kind : PageKind) → IsTaskOf state.sheet a (shows kind) → kind ≡ wanted) → IsCommandReading line (asks a) → Answers state line (shown text) next → TellsPage state.sheet wanted text
  told_page state next line text a wanted only reading (page_shown kind said asked tells) =
      subst (λ k. TellsPage state.sheet k text) (only kind (subst (λ x. IsTaskOf state.sheet x (shows kind)) (asks_this line asked.0 a asked.1 reading) asked.2)) tells

  something : (line : List ℕ) (a : Asked) → AsksNothing line → IsCommandReading line (asks a) → ⊥
  something line a none reading = let same = read line no_command (asks a) none reading in absurd (cc same)

  asks_something : (state : State) (line : List ℕ) → AsksNothing line → ¬ HasTooLittle state line
  asks_something state line none (to_edit a cell made reading needs short) = something line a none reading
  asks_something state line none (to_prove a reading needs short) = something line a none reading
  asks_something state line none (to_ask a f reading needs short) = something line a none reading

-- ---- no page

takes_none : (line : List ℕ) → AsksNothing line → TakesNoMemory line
takes_none line (empty_command none) = inl none

module _ (read : CommandsHaveOneReading) (one : LinesHaveOneVerdict) where
  told_of_nothing : (state next : State) (line : List ℕ) (answer : Answer) → IsWellFormed state.sheet → AsksNothing line → answer ≢ silent → ¬ Answers state line answer next
  told_of_nothing state next line answer formed none other (nothing_asked also) = other refl
  told_of_nothing state next line answer formed none other (edit_done edit asked edits) = let same = one state formed line nothing (does edit) none asked in absurd (cc same)
  told_of_nothing state next line answer formed none other (page_shown kind text asked tells) = let same = one state formed line nothing (does (shows kind)) none asked in absurd (cc same)
  told_of_nothing state next line answer formed none other (not_doable why is) = let same = one state formed line nothing (refuses why) none is in absurd (cc same)
  told_of_nothing state next line answer formed none other (contradicting r certificate is shows_it) = let same = one state formed line nothing (contradicts r) none is in absurd (cc same)
  told_of_nothing state next line answer formed none other (budget_spent counts short placed) = asks_something read state line none short
  told_of_nothing state next line answer formed none other (memory_lacking takes) = takes (takes_none line none)

module _ (one : LinesHaveOneVerdict) where
  page_for_edit : (state next : State) (line text : List ℕ) (edit : Task) → IsWellFormed state.sheet → IsTask state line edit → IsEdit edit → ¬ Answers state line (shown text) next
  page_for_edit state next line text edit formed asks_it is_edit (page_shown kind said asked tells) = subst IsEdit (sym (same_task (shows kind) edit (one state formed line (does (shows kind)) (does edit) asked asks_it))) is_edit

  ok_for_page : (state next : State) (line : List ℕ) (kind : PageKind) → IsWellFormed state.sheet → IsTask state line (shows kind) → ¬ Answers state line accepted next
  ok_for_page state next line kind formed asks_it (edit_done edit asked is_edit) = subst IsEdit (same_task edit (shows kind) (one state formed line (does edit) (does (shows kind)) asked asks_it)) is_edit

-- a text without a line claims nothing
pub no_refutation : (sheet : Sheet) → ¬ IsRefutation sheet []
no_refutation sheet is = let (k, x, inside, same, rest) = is.claims.claimed in let below : k < 0 = inside in absurd (omega (arith, below))

module _ (one : LinesHaveOneVerdict) where
  uncertified : (state next : State) (line : List ℕ) (r : NamedStatement) (answer : Answer) → IsWellFormed state.sheet → IsContradiction state line r → answer ≡ refused Inconsistent [] → ¬ Answers state line answer next
  uncertified state next line r answer formed against_it same (nothing_asked none) = absurd (cc)
  uncertified state next line r answer formed against_it same (edit_done edit asked edits) = absurd (cc)
  uncertified state next line r answer formed against_it same (page_shown kind text asked tells) = absurd (cc)
  uncertified state next line r answer formed against_it same (not_doable why is) = let verdict = one state formed line (contradicts r) (refuses why) against_it is in absurd (cc verdict)
  uncertified state next line r answer formed against_it same (contradicting other certificate is shows_it) =
      let none : certificate ≡ [] = cc in
      no_refutation (with_rule state.sheet other) (subst (IsRefutation (with_rule state.sheet other)) none shows_it)
  uncertified state next line r answer formed against_it same (budget_spent counts short placed) = let why_is : Spent counts ≡ Inconsistent = cc in absurd (cc why_is)
  uncertified state next line r answer formed against_it same (memory_lacking takes) = absurd (cc)

no_search : (sheet : Sheet) (cell : Option CellId) (made : Sheet) → ¬ NeedsSearch sheet asks_show cell made
no_search sheet cell made needs = elim needs [ ]

no_proof : (sheet : Sheet) → ¬ NeedsProof sheet asks_show
no_proof sheet needs = elim needs [ ]

no_formula : (sheet : Sheet) (f : Statement) → ¬ NeedsAnswer sheet asks_show f
no_formula sheet f needs = elim needs [ ]

never_short : CommandsHaveOneReading → (state : State) (line : List ℕ) → IsCommandReading line (asks asks_show) → ¬ HasTooLittle state line
never_short read state line reading (to_edit a cell made other needs short) = no_search state.sheet cell made (subst (λ x. NeedsSearch state.sheet x cell made) (asks_this read line a asks_show other reading) needs)
never_short read state line reading (to_prove a other needs short) = no_proof state.sheet (subst (NeedsProof state.sheet) (asks_this read line a asks_show other reading) needs)
never_short read state line reading (to_ask a f other needs short) = no_formula state.sheet f (subst (λ x. NeedsAnswer state.sheet x f) (asks_this read line a asks_show other reading) needs)

pub broken_replies : CommandsHaveOneReading → LinesHaveOneVerdict → BrokenReplies
broken_replies read one = record {
  told_of_nothing = told_of_nothing read one;
  page_for_edit = page_for_edit one;
  ok_for_page = ok_for_page one;
  uncertified = λ state next line r formed against_it answers. uncertified one state next line r (refused Inconsistent []) formed against_it refl answers;
  spent_to_show = λ state next line more counts reading answers. never_short read state line reading (too_little state next line more (refused (Spent counts) more) counts refl answers);
}

-- ---- pages

only_grid : (sheet : Sheet) (kind : PageKind) → IsTaskOf sheet asks_grid (shows kind) → kind ≡ grid_page
only_grid sheet kind showing_grid = refl

only_json : (sheet : Sheet) (kind : PageKind) → IsTaskOf sheet asks_json (shows kind) → kind ≡ json_page
only_json sheet kind showing_json = refl

only_text : (sheet : Sheet) (kind : PageKind) → IsTaskOf sheet asks_dump (shows kind) → kind ≡ text_page
only_text sheet kind dumping = refl

only_listing : (sheet : Sheet) (kind : PageKind) → IsTaskOf sheet asks_repairs (shows kind) → kind ≡ repairs_page
only_listing sheet kind listing = refl

pub broken_pages : CommandsHaveOneReading → TextsHaveOneOutcome → BrokenPages
broken_pages read one_outcome = record {
  other_grid = λ state next line text grid reading is other answers. other (sym ((told_page read state next line text asks_grid grid_page (only_grid state.sheet) reading answers).only grid is));
  other_json = λ state next line text json reading is other answers. other (sym ((told_page read state next line text asks_json json_page (only_json state.sheet) reading answers).only json is));
  other_listing = λ state next line text said reading is other answers. other (sym ((told_page read state next line text asks_repairs repairs_page (only_listing state.sheet) reading answers).only said is));
  other_dumped = λ state next line text sheet reading reads other answers.
      other (no_other one_outcome text state.sheet sheet ((told_page read state next line text asks_dump text_page (only_text state.sheet) reading answers).starts 1).reads reads);
}
