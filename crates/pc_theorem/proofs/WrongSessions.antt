-- Sessions that would not keep their word.
use Rattle.std.proofs.Common.{◌≡◌, ◌≢◌, ℕ, ◌<◌, ◌≤◌, Bool, true, false, ◌||◌, List, [], ◌∷◌, ◌++◌, codes, Some, refl, sym, ◌∙◌, ap, subst, inl, inr, ◌⊎◌, append-nil, arith}
use Rattle.std.proofs.lemmas.List.{append_cancel_left}
use Rattle.pc_port.specs.Shelf.{Files}
use Rattle.pc_lines.specs.Lines.{lines_of, line_text_of}
use Rattle.pc_syntax.specs.Command.{TakesNoMemory}
use Rattle.pc_sheet.specs.Sheet.{Sheet}
use Rattle.pc_sheet.specs.Limits.{most_weight}
use Rattle.pc_sheet.specs.Weight.{weight}
use Rattle.pc_sheet.specs.MaximalSets.{AreRulesConsistent}
use Rattle.pc_sheet.specs.WellFormed.{IsWellFormed}
use Rattle.pc_sheet.specs.declared.ids.Entry.{Entry}
use Rattle.pc_sortcheck.specs.Declaring.{ReadsAs}
use Rattle.pc_books.specs.Edits.{entered}
use Rattle.pc_load.specs.Laws.{TextsHaveOneOutcome}
use Rattle.pc_load.specs.Outcome as outcome
use Rattle.pc_load.specs.Outcome.{HasFault}
use Rattle.pc_writer.specs.SheetText.{sheet_text, ended}
use Rattle.pc_display.specs.Show.{IsShown}
use Rattle.pc_enough_laws.specs.Enough.{enough_for_all}
use Rattle.pc_refusals.specs.Refusals.{sheet_refusal_text}
use Rattle.pc_refusals.specs.Endings.{memory_text, sheet_memory_text}
use Rattle.pc_refusals.specs.declared.refusal.Refusal.{Refusal}
use Rattle.pc_refusals.specs.declared.refusal.Refusal.TheVariants.{Inconsistent}
use Rattle.pc_refusals.specs.declared.refusal.SheetRefusal.{SheetRefusal}
use Rattle.pc_refusals.specs.declared.status.Status.TheVariants.{Done, SheetRefused, Memory}
use Rattle.pc_transcript.specs.Answer.{Answer, accepted, answer_text, is_refused, is_no_memory}
use Rattle.pc_transcript.specs.Transcript.{Transcript, Legal, lines, output_of, worse_of, status_of}
use Rattle.pc_words.specs.Words.{edits, usual_budget}
use Rattle.pc_spreadsheet.specs.Judgement.{of_whole, nothing, does, refuses}
use Rattle.pc_spreadsheet.specs.Laws.{LinesHaveOneVerdict}
use Rattle.pc_spreadsheet.specs.Refused.{IsRefused}
use Rattle.pc_spreadsheet.specs.Tasks.{State, IsLight, Starts, Task, enters, shows, IsTask, state_after}
use Rattle.pc_afresh_laws.specs.Afresh.{IsOpen, DumpsStartAgain}
use Rattle.pc_theorem.specs.Theorem as page
use Rattle.pc_theorem.specs.Theorem.{Answers, nothing_asked, edit_done, page_shown, not_doable, contradicting, budget_spent, memory_lacking, RefusesSheet, for_fault, for_weight, for_rules, for_budget, EndsSession, answers_all}
use Rattle.pc_theorem.specs.Examples.{edit_words, Keeps}
use Rattle.pc_theorem.specs.WrongRuns.{file_f, BrokenSessions}
use Rattle.pc_theorem.proofs.BrokenSessions.{run_on, told, is_file_name, edit_ends, one_answer, never_refused, sixteenth}
use Rattle.pc_theorem.proofs.BrokenVerdicts.{same_task}
use Rattle.pc_theorem.proofs.Checked.{no_other}
use Rattle.pc_theorem.proofs.Clearing.{CommandsHaveOneReading}
use Rattle.pc_theorem.proofs.OtherDisplay.{answer_is}
use Rattle.pc_theorem.proofs.WrongPages.{no_refutation}
use Rattle.pc_theorem.proofs.Worked.{show_line}

text_same : (x y : List ℕ) → Some x ≡ Some y → x ≡ y
text_same x y e = cc

not_less : (n m : ℕ) → n ≤ m → m < n → ⊥
not_less n m within short = omega (arith, within, short)

-- ---- a sheet that is loaded, or refused

module _ (one_outcome : TextsHaveOneOutcome) where
  -- the sheet that was loaded
  loaded_is : (sheet : Sheet) (text taken : List ℕ) (start : State) → ReadsAs text sheet → Some text ≡ Some taken → Starts usual_budget taken start → start.sheet ≡ sheet
  loaded_is sheet text taken start reads found starts = no_other one_outcome text sheet start.sheet reads (subst (λ (x : List ℕ). ReadsAs x start.sheet) (sym (text_same text taken found)) starts.reads)

  loaded_heavy : (sheet : Sheet) (text input printed : List ℕ) → ReadsAs text sheet → most_weight < weight sheet → EndsSession (run_on edit_words (file_f text) input printed Done) usual_budget (edits (codes "f")) → ⊥
  loaded_heavy sheet text input printed reads heavy (answers_all taken commands found commands_are s) =
      not_less (weight sheet) most_weight (subst IsLight (loaded_is sheet text taken s.start reads found s.starts) s.starts.light) heavy
  loaded_heavy sheet text input printed reads heavy (page.refuses taken why more so found refusing told_so) = absurd (cc)

  no_fault : (sheet : Sheet) (text : List ℕ) (why : SheetRefusal) → ReadsAs text sheet → ¬ HasFault text why
  no_fault sheet text why reads has = let same = one_outcome text (outcome.reads sheet) (outcome.fails why) reads has in absurd (cc same)

  -- a sheet that has no fault and isn't too large, whose rules are consistent, and for which the budget is enough, is refused for no cause
  pub no_cause : (sheet : Sheet) (text : List ℕ) (why : SheetRefusal) (more : List ℕ) → ReadsAs text sheet → IsLight sheet → AreRulesConsistent sheet → enough_for_all sheet ≤ usual_budget → ¬ RefusesSheet usual_budget text why more
  no_cause sheet text why more reads light consistent enough (for_fault cause has) = no_fault sheet text cause reads has
  no_cause sheet text why more reads light consistent enough (for_weight heavy) =
      not_less (weight sheet) most_weight light (subst (λ (s : Sheet). most_weight < weight s) (no_other one_outcome text sheet heavy.sheet reads heavy.reads) heavy.heavy)
  no_cause sheet text why more reads light consistent enough (for_rules other certificate contradictory refuted) =
      contradictory.contradict (subst AreRulesConsistent (sym (no_other one_outcome text sheet other reads contradictory.reads)) consistent)
  no_cause sheet text why more reads light consistent enough (for_budget other counts also light_too short placed) =
      not_less (enough_for_all sheet) usual_budget enough (subst (λ (s : Sheet). usual_budget < enough_for_all s) (no_other one_outcome text sheet other reads also) short)

  refused_without_cause : (sheet : Sheet) (text input printed : List ℕ) → ReadsAs text sheet → IsLight sheet → AreRulesConsistent sheet → enough_for_all sheet ≤ usual_budget → EndsSession (run_on edit_words (file_f text) input printed SheetRefused) usual_budget (edits (codes "f")) → ⊥
  refused_without_cause sheet text input printed reads light consistent enough (answers_all taken commands found commands_are s) = never_refused _ _ s.status_is
  refused_without_cause sheet text input printed reads light consistent enough (page.refuses taken why more so found refusing told_so) =
      no_cause sheet text why more reads light consistent enough (subst (λ (x : List ℕ). RefusesSheet usual_budget x why more) (sym (text_same text taken found)) refusing)

  abbrev told_inconsistent : List ℕ
  told_inconsistent = sheet_refusal_text (of_whole Inconsistent)

  nothing_more : (more : List ℕ) → told_inconsistent ≡ told_inconsistent ++ more → more ≡ []
  nothing_more more e = append_cancel_left told_inconsistent more [] (sym e ∙ sym (append-nil told_inconsistent))

  told_alone : (sheet : Sheet) (text : List ℕ) (why : SheetRefusal) (more : List ℕ) → ReadsAs text sheet → RefusesSheet usual_budget text why more → told_inconsistent ≡ sheet_refusal_text why ++ more → ⊥
  told_alone sheet text why more reads (for_fault cause has) e = no_fault sheet text cause reads has
  told_alone sheet text why more reads (for_weight heavy) e = let bytes : 51 ≡ 50 = ap sixteenth e in omega (arith, bytes)
  told_alone sheet text why more reads (for_rules other certificate contradictory refuted) e = no_refutation other (subst (page.IsRefutation other) (nothing_more certificate e) refuted)
  told_alone sheet text why more reads (for_budget other counts also light short placed) e = let bytes : 51 ≡ 52 = ap sixteenth e in omega (arith, bytes)

  no_certificate : (sheet : Sheet) (text input : List ℕ) → ReadsAs text sheet → EndsSession (run_on edit_words (file_f text) input told_inconsistent SheetRefused) usual_budget (edits (codes "f")) → ⊥
  no_certificate sheet text input reads (answers_all taken commands found commands_are s) = never_refused _ _ s.status_is
  no_certificate sheet text input reads (page.refuses taken why more so found refusing told_so) =
      told_alone sheet text why more reads (subst (λ (x : List ℕ). RefusesSheet usual_budget x why more) (sym (text_same text taken found)) refusing) told_so

-- ---- a line that is answered

one_done : (w r : Bool) → Done ≡ worse_of (w || false) (r || false) → (w ≡ false) × (r ≡ false)
one_done true r is = absurd (cc)
one_done false true is = absurd (cc)
one_done false false is = (refl, refl)

two_done : (w x r s : Bool) → Done ≡ worse_of (w || (x || false)) (r || (s || false)) → ((w ≡ false) × (r ≡ false)) × (Done ≡ worse_of (x || false) (s || false))
two_done true x r s is = absurd (cc)
two_done false true r s is = absurd (cc)
two_done false false true s is = absurd (cc)
two_done false false false s is = ((refl, refl), is)

true_is_false : true ≡ false → ⊥
true_is_false e = absurd (cc)

module _ (one : LinesHaveOneVerdict) where
  -- a line that is refused has no answer of a line that is done
  never_done : (state next : State) (line : List ℕ) (why : Refusal) (answer : Answer) → IsWellFormed state.sheet → IsRefused state line why → Answers state line answer next → is_no_memory answer ≡ false → is_refused answer ≡ false → ⊥
  never_done state next line why answer formed refused_so (nothing_asked none) memory done = let same = one state formed line nothing (refuses why) none refused_so in absurd (cc same)
  never_done state next line why answer formed refused_so (edit_done edit asked is_edit) memory done = let same = one state formed line (does edit) (refuses why) asked refused_so in absurd (cc same)
  never_done state next line why answer formed refused_so (page_shown kind text asked tells) memory done = let same = one state formed line (does (shows kind)) (refuses why) asked refused_so in absurd (cc same)
  never_done state next line why answer formed refused_so (not_doable cause is) memory done = true_is_false done
  never_done state next line why answer formed refused_so (contradicting r certificate is shows_it) memory done = true_is_false done
  never_done state next line why answer formed refused_so (budget_spent counts short placed) memory done = true_is_false done
  never_done state next line why answer formed refused_so (memory_lacking takes) memory done = true_is_false memory

  -- a line that asks for an edit, and isn't refused, is answered by `ok`
  edit_is_done : (state next : State) (line : List ℕ) (edit : Task) (e : Entry) (answer : Answer) → edit ≡ enters e → IsWellFormed state.sheet → IsTask state line edit → Answers state line answer next → is_no_memory answer ≡ false → is_refused answer ≡ false → (answer ≡ accepted) × (next ≡ state_after state edit)
  edit_is_done state next line edit e answer enters_it formed asks_it (nothing_asked none) memory done = let same = one state formed line nothing (does edit) none asks_it in absurd (cc same)
  edit_is_done state next line edit e answer enters_it formed asks_it (edit_done other asked is_edit) memory done = (refl, ap (state_after state) (same_task other edit (one state formed line (does other) (does edit) asked asks_it)))
  edit_is_done state next line edit e answer enters_it formed asks_it (page_shown kind text asked tells) memory done =
      let same = same_task (shows kind) edit (one state formed line (does (shows kind)) (does edit) asked asks_it) in
      absurd (cc (same, enters_it))
  edit_is_done state next line edit e answer enters_it formed asks_it (not_doable cause is) memory done = absurd (true_is_false done)
  edit_is_done state next line edit e answer enters_it formed asks_it (contradicting r certificate is shows_it) memory done = absurd (true_is_false done)
  edit_is_done state next line edit e answer enters_it formed asks_it (budget_spent counts short placed) memory done = absurd (true_is_false done)
  edit_is_done state next line edit e answer enters_it formed asks_it (memory_lacking takes) memory done = absurd (true_is_false memory)

-- ---- the state in which a session on a dumped sheet starts

abbrev pub state_of : Sheet → State
state_of sheet = record { sheet = sheet; budget = usual_budget }

state_same : (sheet : Sheet) (start : State) → start.sheet ≡ sheet → start.budget ≡ usual_budget → start ≡ state_of sheet
state_same sheet start is budget_is = ap (λ (s : Sheet). record { sheet = s; budget = start.budget }) is ∙ ap (λ (n : ℕ). record { sheet = sheet; budget = n }) budget_is

pub starts_at : DumpsStartAgain → (sheet : Sheet) (taken : List ℕ) (start : State) → IsOpen sheet → Some (sheet_text sheet) ≡ Some taken → Starts usual_budget taken start → start ≡ state_of sheet
starts_at again sheet taken start is found starts =
    let begins = subst (λ (t : List ℕ). Starts usual_budget t start) (sym (text_same (sheet_text sheet) taken found)) starts in
    state_same sheet start ((again sheet (sheet_text sheet) is refl).only usual_budget start begins) starts.budget

refused_as_done : DumpsStartAgain → LinesHaveOneVerdict → (sheet : Sheet) (why : Refusal) (line input printed : List ℕ) → IsOpen sheet → IsRefused (state_of sheet) (line_text_of line) why → lines_of input ≡ line ∷ []
    → EndsSession (run_on edit_words (file_f (sheet_text sheet)) input printed Done) usual_budget (edits (codes "f")) → ⊥
refused_as_done again one sheet why line input printed is refused_so one_line (answers_all taken commands found commands_are s) =
    let at = starts_at again sheet taken s.start is found s.starts in
    let answer = one_answer s.transcript commands line s.lines_are (commands_are ∙ one_line) in
    let legal = subst (λ (x : State). Legal Answers x ((line, answer.0) ∷ []) s.end) at (subst (λ (t : Transcript). Legal Answers s.start t s.end) answer.1 s.legal) in
    let done = one_done (is_no_memory answer.0) (is_refused answer.0) (s.status_is ∙ ap status_of answer.1) in
    never_done one (state_of sheet) legal.0 (line_text_of line) why answer.0 is.formed refused_so legal.1 done.0 done.1
refused_as_done again one sheet why line input printed is refused_so one_line (page.refuses taken cause more so found refusing told_so) = absurd (cc)

-- ---- an edit, and what is displayed behind it

two_answers : (t : Transcript) (commands : List (List ℕ)) (line next : List ℕ) → lines t ≡ commands → commands ≡ line ∷ next ∷ [] → (answer : Answer) × (other : Answer) × (t ≡ (line, answer) ∷ (next, other) ∷ [])
two_answers [] commands line next are is = absurd (cc (are, is))
two_answers (p ∷ []) commands line next are is = absurd (cc (are, is))
two_answers (p ∷ (q ∷ (r ∷ more))) commands line next are is = absurd (cc (are, is))
two_answers (p ∷ (q ∷ [])) commands line next are is = (p.1, q.1, ap (λ (l : List ℕ). (l, p.1) ∷ (q.0, q.1) ∷ []) (first_is p.0 line q.0 next (are ∙ is)) ∙ ap (λ (l : List ℕ). (line, p.1) ∷ (l, q.1) ∷ []) (second_is p.0 line q.0 next (are ∙ is)))
  where
    first_is : (a b c d : List ℕ) → a ∷ c ∷ [] ≡ b ∷ d ∷ [] → a ≡ b
    first_is a b c d e = cc

    second_is : (a b c d : List ℕ) → a ∷ c ∷ [] ≡ b ∷ d ∷ [] → c ≡ d
    second_is a b c d e = cc

module _ (read : CommandsHaveOneReading) (again : DumpsStartAgain) (one : LinesHaveOneVerdict) (sheet : Sheet) (e : Entry) (before after line input : List ℕ) (is : IsOpen sheet) (asks_it : IsTask (state_of sheet) (line_text_of line) (enters e)) (shown_after : IsShown (entered sheet e) after) (two_lines : lines_of input ≡ line ∷ show_line ∷ []) where
  -- what is printed for the two lines
  printed_for : (end : State) (first second : Answer) → Legal Answers (state_of sheet) ((line, first) ∷ (show_line, second) ∷ []) end → Done ≡ status_of ((line, first) ∷ (show_line, second) ∷ []) → output_of ((line, first) ∷ (show_line, second) ∷ []) ≡ ended (codes "ok") ++ after
  printed_for end first second legal status =
      let done = two_done (is_no_memory first) (is_no_memory second) (is_refused first) (is_refused second) status in
      let edit = edit_is_done one (state_of sheet) legal.0 (line_text_of line) (enters e) e first refl is.formed asks_it legal.1 done.0.0 done.0.1 in
      let display = answer_is read legal.0 legal.2.0 second after (subst (λ (s : State). IsShown s.sheet after) (sym edit.1) shown_after) legal.2.1 done.1 in
      ap (λ (a : Answer). answer_text a ++ (answer_text second ++ [])) edit.0 ∙ ap (λ (xs : List ℕ). ended (codes "ok") ++ xs) (append-nil (answer_text second) ∙ display)

  edit_forgotten : EndsSession (run_on edit_words (file_f (sheet_text sheet)) input (ended (codes "ok") ++ before) Done) usual_budget (edits (codes "f")) → before ≡ after
  edit_forgotten (answers_all taken commands found commands_are s) =
      let at = starts_at again sheet taken s.start is found s.starts in
      let both = two_answers s.transcript commands line show_line s.lines_are (commands_are ∙ two_lines) in
      let told_lines : Transcript = (line, both.0) ∷ (show_line, both.1) ∷ [] in
      let legal = subst (λ (x : State). Legal Answers x told_lines s.end) at (subst (λ (t : Transcript). Legal Answers s.start t s.end) both.2 s.legal) in
      append_cancel_left (ended (codes "ok")) before after (s.printed_are ∙ ap output_of both.2 ∙ printed_for s.end both.0 both.1 legal (s.status_is ∙ ap status_of both.2))
  edit_forgotten (page.refuses taken why more so found refusing told_so) = absurd (cc)

-- ---- memory

wants_none : (w r : Bool) → Memory ≡ worse_of (w || false) (r || false) → w ≡ true
wants_none true r is = refl
wants_none false true is = absurd (cc)
wants_none false false is = absurd (cc)

false_is_true : false ≡ true → ⊥
false_is_true e = absurd (cc)

never_wanted : (state next : State) (line : List ℕ) (answer : Answer) → TakesNoMemory line → Answers state line answer next → is_no_memory answer ≡ true → ⊥
never_wanted state next line answer none (nothing_asked empty) wanted = false_is_true wanted
never_wanted state next line answer none (edit_done edit asked is_edit) wanted = false_is_true wanted
never_wanted state next line answer none (page_shown kind text asked tells) wanted = false_is_true wanted
never_wanted state next line answer none (not_doable why is) wanted = false_is_true wanted
never_wanted state next line answer none (contradicting r certificate is shows_it) wanted = false_is_true wanted
never_wanted state next line answer none (budget_spent counts short placed) wanted = false_is_true wanted
never_wanted state next line answer none (memory_lacking takes) wanted = takes none

no_memory_session : (files : Files) (line input printed : List ℕ) → TakesNoMemory (line_text_of line) → lines_of input ≡ line ∷ [] → EndsSession (run_on edit_words files input printed Memory) usual_budget (edits (codes "f")) → ⊥
no_memory_session files line input printed none one_line (answers_all taken commands found commands_are s) =
    let answer = one_answer s.transcript commands line s.lines_are (commands_are ∙ one_line) in
    let legal = subst (λ (t : Transcript). Legal Answers s.start t s.end) answer.1 s.legal in
    never_wanted s.start legal.0 (line_text_of line) answer.0 none legal.1 (wants_none (is_no_memory answer.0) (is_refused answer.0) (s.status_is ∙ ap status_of answer.1))
no_memory_session files line input printed none one_line (page.refuses taken why more so found refusing told_so) = absurd (cc)

want_of_nothing : (files : Files) (line input printed : List ℕ) → TakesNoMemory (line_text_of line) → lines_of input ≡ line ∷ [] → printed ≢ memory_text → printed ≢ sheet_memory_text → ¬ Keeps edit_words files input printed Memory
want_of_nothing files line input printed none one_line other another keeps =
    let run = run_on edit_words files input printed Memory in
    elim ((keeps run (told edit_words files input printed Memory) (λ c. c)).asked_for (record { mode = edits (codes "f"); budget = usual_budget }) (inl ((refl, is_file_name), refl))) [
      | inl ends ↦ no_memory_session files line input printed none one_line ends
      | inr lacks ↦ neither lacks.1
    ]
  where
    neither : (printed ≡ memory_text) ⊎ (printed ≡ sheet_memory_text) → ⊥
    neither (inl same) = other same
    neither (inr same) = another same

pub broken_sessions : CommandsHaveOneReading → DumpsStartAgain → TextsHaveOneOutcome → LinesHaveOneVerdict → BrokenSessions
broken_sessions read again one_outcome one = record {
  loaded_heavy = λ sheet text input printed reads heavy keeps. loaded_heavy one_outcome sheet text input printed reads heavy (edit_ends (file_f text) input printed Done keeps (λ e. absurd (cc)) (λ c. c));
  refused_without_cause = λ sheet text input printed reads light consistent enough keeps.
      refused_without_cause one_outcome sheet text input printed reads light consistent enough (edit_ends (file_f text) input printed SheetRefused keeps (λ e. absurd (cc)) (λ c. c));
  no_certificate = λ sheet text input reads keeps. no_certificate one_outcome sheet text input reads (edit_ends (file_f text) input (sheet_refusal_text (of_whole Inconsistent)) SheetRefused keeps (λ e. absurd (cc)) (λ c. c));
  edit_forgotten = λ sheet e before after line input is asks_it shown_before shown_after differ two_lines keeps.
      differ (edit_forgotten read again one sheet e before after line input is asks_it shown_after two_lines (edit_ends (file_f (sheet_text sheet)) input (ended (codes "ok") ++ before) Done keeps (λ e. absurd (cc)) (λ c. c)));
  refused_as_done = λ sheet why line input printed is refused_so one_line keeps.
      refused_as_done again one sheet why line input printed is refused_so one_line (edit_ends (file_f (sheet_text sheet)) input printed Done keeps (λ e. absurd (cc)) (λ c. c));
  want_of_nothing = want_of_nothing;
}
