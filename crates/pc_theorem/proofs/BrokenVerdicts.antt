-- Answers that no line may have, by the one verdict on it.
use Rattle.std.proofs.Common.{◌≡◌, ◌≢◌, ℕ, List, [], refl, ap, subst, sym}
use Rattle.pc_sheet.specs.WellFormed.{IsWellFormed}
use Rattle.pc_syntax.specs.Command.{TakesNoMemory}
use Rattle.pc_refusals.specs.declared.refusal.Counts.{Counts}
use Rattle.pc_refusals.specs.declared.refusal.Refusal.{Refusal}
use Rattle.pc_refusals.specs.declared.refusal.Refusal.TheVariants.{Inconsistent, Spent}
use Rattle.pc_transcript.specs.Answer.{Answer, silent, accepted, shown, refused, no_memory}
use Rattle.pc_spreadsheet.specs.Judgement.{nothing, does, refuses, contradicts}
use Rattle.pc_spreadsheet.specs.Laws.{LinesHaveOneVerdict}
use Rattle.pc_spreadsheet.specs.Refused.{IsRefused}
use Rattle.pc_spreadsheet.specs.Tasks.{State, Task, IsTask, state_after}
use Rattle.pc_run_laws.proofs.WorkedBudgets.{no_verdict_spent}
use Rattle.pc_theorem.specs.Theorem.{Answers, nothing_asked, edit_done, page_shown, not_doable, contradicting, budget_spent, memory_lacking}
use Rattle.pc_theorem.specs.Examples.{BrokenVerdicts}

pub same_task : (task other : Task) → does task ≡ does other → task ≡ other
same_task task other same = cc

same_refusal : (why other : Refusal) → refuses why ≡ refuses other → why ≡ other
same_refusal why other same = cc

module _ (one : LinesHaveOneVerdict) where
  silent_of_task : (state next : State) (line : List ℕ) (task : Task) → IsWellFormed state.sheet → IsTask state line task → ¬ Answers state line silent next
  silent_of_task state next line task formed asks (nothing_asked none) = let same = one state formed line nothing (does task) none asks in absurd (cc same)

  edit_undone : (state next : State) (line : List ℕ) (edit : Task) → IsWellFormed state.sheet → IsTask state line edit → next ≢ state_after state edit → ¬ Answers state line accepted next
  edit_undone state next line edit formed asks other (edit_done done asked edits) = other (ap (state_after state) (same_task done edit (one state formed line (does done) (does edit) asked asks)))

  done_though_refused : (state next : State) (line : List ℕ) (why : Refusal) → IsWellFormed state.sheet → IsRefused state line why → ¬ Answers state line accepted next
  done_though_refused state next line why formed is (edit_done done asked edits) = let same = one state formed line (does done) (refuses why) asked is in absurd (cc same)

  doable_refused : (state next : State) (line more : List ℕ) (task : Task) (why : Refusal) → IsWellFormed state.sheet → IsTask state line task → ((counts : Counts) → why ≢ Spent counts) → ¬ Answers state line (refused why more) next
  doable_refused state next line more task why formed asks unspent (not_doable told is) = let same = one state formed line (does task) (refuses told) asks is in absurd (cc same)
  doable_refused state next line more task why formed asks unspent (contradicting r certificate is shows_it) = let same = one state formed line (does task) (contradicts r) asks is in absurd (cc same)
  doable_refused state next line more task why formed asks unspent (budget_spent told short placed) = unspent told refl

  other_cause : (state next : State) (line more : List ℕ) (why other : Refusal) → IsWellFormed state.sheet → IsRefused state line why → other ≢ why → ((counts : Counts) → other ≢ Spent counts) → ¬ Answers state line (refused other more) next
  other_cause state next line more why other formed refused_so differ unspent (not_doable told is) = differ (same_refusal told why (one state formed line (refuses told) (refuses why) is refused_so))
  other_cause state next line more why other formed refused_so differ unspent (contradicting r certificate is shows_it) = let same = one state formed line (refuses why) (contradicts r) refused_so is in absurd (cc same)
  other_cause state next line more why other formed refused_so differ unspent (budget_spent told short placed) = unspent told refl

-- what is told as spent placed as much as the budget allows
placed_all : (state next : State) (line more : List ℕ) (answer : Answer) (counts : Counts) → answer ≡ refused (Spent counts) more → Answers state line answer next → counts.placed ≡ state.budget
placed_all state next line more answer counts same (nothing_asked none) = absurd (cc)
placed_all state next line more answer counts same (edit_done edit asked edits) = absurd (cc)
placed_all state next line more answer counts same (page_shown kind text asked tells) = absurd (cc)
placed_all state next line more answer counts same (not_doable why is) = let why_is : why ≡ Spent counts = cc in absurd (no_verdict_spent state line (refuses why) counts [] is (ap (λ w. refused w []) (sym why_is)))
placed_all state next line more answer counts same (contradicting r certificate is shows_it) = let why_is : Inconsistent ≡ Spent counts = cc in absurd (cc why_is)
placed_all state next line more answer counts same (budget_spent told short placed) = let told_is : told ≡ counts = cc in subst (λ (c : Counts). c.placed ≡ state.budget) told_is placed
placed_all state next line more answer counts same (memory_lacking takes) = absurd (cc)

changed_by_page : (state next : State) (line text : List ℕ) → next ≢ state → ¬ Answers state line (shown text) next
changed_by_page state next line text other (page_shown kind said asked tells) = other refl

changed_by_refusal : (state next : State) (line more : List ℕ) (why : Refusal) → next ≢ state → ¬ Answers state line (refused why more) next
changed_by_refusal state next line more why other (not_doable told is) = other refl
changed_by_refusal state next line more why other (contradicting r certificate is shows_it) = other refl
changed_by_refusal state next line more why other (budget_spent told short placed) = other refl

changed_by_want : (state next : State) (line : List ℕ) → next ≢ state → ¬ Answers state line no_memory next
changed_by_want state next line other (memory_lacking takes) = other refl

want_of_none : (state next : State) (line : List ℕ) → TakesNoMemory line → ¬ Answers state line no_memory next
want_of_none state next line none (memory_lacking takes) = takes none

pub broken_verdicts : LinesHaveOneVerdict → BrokenVerdicts
broken_verdicts one = record {
  silent_of_task = silent_of_task one;
  edit_undone = edit_undone one;
  done_though_refused = done_though_refused one;
  doable_refused = doable_refused one;
  other_cause = other_cause one;
  spent_early = λ state next line more counts other answers. other (placed_all state next line more (refused (Spent counts) more) counts refl answers);
  want_of_none = want_of_none;
  changed_by_page = changed_by_page;
  changed_by_refusal = changed_by_refusal;
  changed_by_want = changed_by_want;
}
