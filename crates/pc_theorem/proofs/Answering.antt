-- What a line is answered and a text is refused for, in the words of the page.
use Rattle.std.proofs.Common.{◌≡◌, ℕ, ◌<◌, ◌≤◌, List, [], ◌∷◌, length, sym, ap, subst, arith}
use Rattle.pc_lines.specs.Lines.{line_text_of}
use Rattle.pc_syntax.specs.Tree.{Asked}
use Rattle.pc_sheet.specs.Cells.{CellsAreNumberedInOrder}
use Rattle.pc_sheet.specs.Sheet.{Sheet, Statement, with_rule}
use Rattle.pc_sheet.specs.WellFormed.{IsWellFormed}
use Rattle.pc_sheet.specs.declared.ids.CellId.{CellId}
use Rattle.pc_sheet.specs.declared.ids.Entry.{Entry}
use Rattle.std.specs.declared.option.Option.{Option}
use Rattle.std.specs.declared.option.Option.TheVariants.{None}
use Rattle.pc_enough_laws.specs.Enough.{enough_for_all}
use Rattle.pc_world_list.specs.FewSets.{AreMaximalSets}
use Rattle.pc_sortcheck.specs.Laws.{SheetsAreWellFormed}
use Rattle.pc_refusals.specs.declared.refusal.Counts.{Counts}
use Rattle.pc_refusals.specs.declared.refusal.SheetRefusal.{SheetRefusal}
use Rattle.pc_refusals.specs.declared.refusal.Refusal.{Refusal}
use Rattle.pc_refusals.specs.declared.refusal.Refusal.TheVariants.{Spent}
use Rattle.pc_transcript.specs.Answer.{Answer, silent, accepted, shown, refused, no_memory}
use Rattle.pc_transcript.specs.Transcript.{Transcript, Legal}
use Rattle.pc_spreadsheet.specs.Tasks.{State, PageKind, shows, IsTaskOf}
use Rattle.pc_spreadsheet.specs.Pages.{PageSays, IsCertificateAgainst}
use Rattle.pc_spreadsheet.specs.Allowed.{Notes, IsLawfullySpent, IsWholeSpent, IsAskSpent, Allows, NeedsSearch, NeedsAnswer, RefusesLine, as_judged, as_contradiction, as_spent, as_proof_spent, as_ask_spent, RefusesText, for_fault, for_weight, for_rules, for_search}
use Rattle.pc_afresh_laws.specs.Afresh.{IsOpen, AnswersKeepOpen}
use Rattle.pc_run_laws.specs.Asking.{enough_to_ask, EnoughByEntries}
use Rattle.pc_run_laws.proofs.Spending.{too_little, proof_not_spent, ask_not_spent, search_formed, answer_formed}
use Rattle.pc_run_laws.proofs.Completing.{keeps_budget}
use Rattle.pc_theorem.specs.Theorem as page
use Rattle.pc_theorem.specs.Theorem.{TellsPage, IsRefutation, Answers, nothing_asked, edit_done, page_shown, not_doable, contradicting, budget_spent, memory_lacking, RefusesSheet}
use Rattle.pc_theorem.specs.Budgets.{enough_to_prove, HasTooLittle, to_edit, to_prove, to_ask}
use Rattle.pc_theorem.proofs.Pages.{contradicting_is_formed, search_placed, whole_placed, ask_placed}

-- what is not enough is less
less : (n b : ℕ) → (n ≤ b → ⊥) → b < n
less n b never = omega (arith, never)

-- a page that a line asks for tells what the page's definitions say
abbrev pub PagesAreTold : Type 0
PagesAreTold = (sheet : Sheet) (kind : PageKind) (a : Asked) (text : List ℕ) → IsOpen sheet → IsTaskOf sheet a (shows kind) → PageSays kind sheet text → TellsPage sheet kind text

-- and so does a certificate of a contradiction
abbrev pub RefutationsAreTold : Type 0
RefutationsAreTold = (sheet : Sheet) (text : List ℕ) → IsWellFormed sheet → IsCertificateAgainst sheet text → IsRefutation sheet text

-- ---- less than enough

search_is_short : CellsAreNumberedInOrder → (sheet : Sheet) (a : Asked) (cell : Option CellId) (made : Sheet) (budget : ℕ) (counts : Counts) (old new : Notes) → IsWellFormed sheet → 1 ≤ budget → NeedsSearch sheet a cell made → IsLawfullySpent budget made cell counts old new → budget < enough_for_all made
search_is_short ordered sheet a cell made budget counts old new formed some needs spent =
    (too_little made (search_formed ordered sheet a cell made formed needs) cell budget some spent.spending spent.lawful).for_whole

proof_is_short : (sheet : Sheet) (budget : ℕ) (counts : Counts) (old new : Notes) → IsWellFormed sheet → 1 ≤ budget → IsWholeSpent budget sheet counts old new → (sets : List (List Entry)) → AreMaximalSets sheet sets → budget < enough_to_prove sheet (length sets)
proof_is_short sheet budget counts old new formed some spent sets are =
    less (enough_to_prove sheet (length sets)) budget (λ within. proof_not_spent sheet formed budget some (sets, are, within) counts old new spent)

ask_is_short : EnoughByEntries → (sheet : Sheet) (a : Asked) (f : Statement) (budget : ℕ) (counts : Counts) (old new : Notes) → IsWellFormed sheet → 1 ≤ budget → NeedsAnswer sheet a f → IsAskSpent budget sheet f counts old new → budget < enough_to_ask sheet f (length sheet.entries)
ask_is_short by_entries sheet a f budget counts old new formed some needs spent =
    let made = answer_formed sheet a f formed needs in
    less (enough_to_ask sheet f (length sheet.entries)) budget (λ within. ask_not_spent sheet f made budget some (by_entries.by_all sheet f budget formed made within) counts old new spent)

pub load_is_short : SheetsAreWellFormed → (sheet : Sheet) (budget : ℕ) (counts : Counts) (old new : Notes) → IsWellFormed sheet → 1 ≤ budget → IsLawfullySpent budget sheet None counts old new → budget < enough_for_all sheet
load_is_short formed sheet budget counts old new well some spent = (too_little sheet well None budget some spent.spending spent.lawful).for_whole

-- ---- one line

state_of : (old new : State × Notes) → new ≡ old → new.0 ≡ old.0
state_of old new same = ap (λ (s : State × Notes). s.0) same

-- the answer leaves the state
stays : (state next : State) (line : List ℕ) (answer : Answer) → next ≡ state → Answers state line answer state → Answers state line answer next
stays state next line answer same answers = subst (Answers state line answer) (sym same) answers

-- a refusal that tells what is spent
tells_spent : (state next : State) (line : List ℕ) (why : Refusal) (more : List ℕ) (counts : Counts) → HasTooLittle state line → counts.placed ≡ state.budget → why ≡ Spent counts → more ≡ [] → next ≡ state → Answers state line (refused why more) next
tells_spent state next line why more counts short placed why_is none same =
    stays state next line (refused why more) same
    (subst (λ w. Answers state line (refused w more) state) (sym why_is) (subst (λ m. Answers state line (refused (Spent counts) m) state) (sym none) (budget_spent counts short placed)))

module _ (ordered : CellsAreNumberedInOrder) (by_entries : EnoughByEntries) (pages : PagesAreTold) (refuted : RefutationsAreTold) where
  refusal : (old new : State × Notes) (line : List ℕ) (why : Refusal) (more : List ℕ) → IsOpen old.0.sheet → 1 ≤ old.0.budget → RefusesLine old line why more new → Answers old.0 line (refused why more) new.0
  refusal old new line why more is some (as_judged cause none same) =
      stays old.0 new.0 line (refused why more) (state_of old new same) (subst (λ m. Answers old.0 line (refused why m) old.0) (sym none) (not_doable why cause))
  refusal old new line why more is some (as_contradiction r against_it certificate why_is same) =
      stays old.0 new.0 line (refused why more) (state_of old new same)
      (subst (λ w. Answers old.0 line (refused w more) old.0) (sym why_is) (contradicting r more against_it (refuted (with_rule old.0.sheet r) more (contradicting_is_formed old.0.sheet against_it.0 r is.formed against_it.2) certificate)))
  refusal old new line why more is some (as_spent counts spends why_is none same) =
      let s = spends.2 in
      tells_spent old.0 new.0 line why more counts
      (to_edit spends.0 s.cell s.made spends.1 s.needs (search_is_short ordered old.0.sheet spends.0 s.cell s.made old.0.budget counts old.1 new.1 is.formed some s.needs s.spent))
      (search_placed old.0.budget s.made s.cell counts old.1 new.1 s.spent) why_is none same
  refusal old new line why more is some (as_proof_spent counts spends why_is none same) =
      tells_spent old.0 new.0 line why more counts
      (to_prove spends.0 spends.1 spends.2.0 (proof_is_short old.0.sheet old.0.budget counts old.1 new.1 is.formed some spends.2.1))
      (whole_placed old.0.budget old.0.sheet counts old.1 new.1 spends.2.1) why_is none same
  refusal old new line why more is some (as_ask_spent counts spends why_is none same) =
      let f = spends.2.0 in
      tells_spent old.0 new.0 line why more counts
      (to_ask spends.0 f spends.1 spends.2.1 (ask_is_short by_entries old.0.sheet spends.0 f old.0.budget counts old.1 new.1 is.formed some spends.2.1 spends.2.2))
      (ask_placed old.0.budget old.0.sheet f counts old.1 new.1 spends.2.2) why_is none same

  answers : (old new : State × Notes) (line : List ℕ) (answer : Answer) → IsOpen old.0.sheet → 1 ≤ old.0.budget → Allows old line answer new → Answers old.0 line answer new.0
  answers old new line silent is some allowed = stays old.0 new.0 line silent (state_of old new allowed.1) (nothing_asked allowed.0)
  answers old new line accepted is some allowed = subst (Answers old.0 line accepted) (sym (ap (λ (s : State × Notes). s.0) allowed.3)) (edit_done allowed.0 allowed.1 allowed.2)
  answers old new line (shown text) is some allowed =
      stays old.0 new.0 line (shown text) (state_of old new allowed.3) (page_shown allowed.0 text allowed.1 (pages old.0.sheet allowed.0 allowed.1.0 text is allowed.1.2 allowed.2))
  answers old new line (refused why more) is some allowed = refusal old new line why more is some allowed
  answers old new line no_memory is some allowed = stays old.0 new.0 line no_memory (state_of old new allowed.1) (memory_lacking allowed.0)

  -- ---- all lines

  pub session : AnswersKeepOpen → (old new : State × Notes) (t : Transcript) → IsOpen old.0.sheet → 1 ≤ old.0.budget → Legal Allows old t new → Legal Answers old.0 t new.0
  session keep old new [] is some legal = state_of old new legal
  session keep old new (pair ∷ more) is some legal =
      let mid = legal.0 in
      let line = line_text_of pair.0 in
      (mid.0, answers old mid line pair.1 is some legal.1, session keep mid new more (keep old mid line pair.1 is legal.1) (keeps_budget old mid line pair.1 some legal.1) legal.2)

  -- ---- a sheet

  pub refuses_sheet : SheetsAreWellFormed → (budget : ℕ) (text : List ℕ) (why : SheetRefusal) (more : List ℕ) (old new : Notes) → 1 ≤ budget → RefusesText budget text why more old new → RefusesSheet budget text why more
  refuses_sheet formed budget text why more old new some (for_fault has none same) = subst (RefusesSheet budget text why) (sym none) (page.for_fault why has)
  refuses_sheet formed budget text why more old new some (for_weight heavy why_is none same) =
      subst (RefusesSheet budget text why) (sym none) (subst (λ w. RefusesSheet budget text w []) (sym why_is) (page.for_weight heavy))
  refuses_sheet formed budget text why more old new some (for_rules sheet against_it certificate why_is same) =
      subst (λ w. RefusesSheet budget text w more) (sym why_is) (page.for_rules sheet more against_it (refuted sheet more (formed text sheet against_it.reads) certificate))
  refuses_sheet formed budget text why more old new some (for_search sheet counts reads light spent why_is none) =
      subst (RefusesSheet budget text why) (sym none)
      (subst (λ w. RefusesSheet budget text w []) (sym why_is) (page.for_budget sheet counts reads light (load_is_short formed sheet budget counts old new (formed text sheet reads) some spent) (search_placed budget sheet None counts old new spent)))
