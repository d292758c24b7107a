-- What a search of one part whose rules are known finds and spends.
use Rattle.std.proofs.Common.{◌≡◌, ℕ, ◌+◌, ◌*◌, ◌≤◌, List, [], length, Result, OnOk, refl, sym, subst, arith}
use Rattle.std.proofs.lemmas.Result.{on_ok_weaker}
use Rattle.pc_sheet.specs.Sheet.{Sheet}
use Rattle.pc_sheet.specs.Entailment.{cell_sizes}
use Rattle.pc_sheet.specs.WellFormed.{IsWellFormed}
use Rattle.pc_sheet.specs.declared.ids.Target.{Target}
use Rattle.pc_log.specs.Lines.{LogLine}
use Rattle.pc_cache.specs.Rows.{TargetRow}
use Rattle.pc_parts.specs.Parts.{Part}
use Rattle.pc_parts.specs.PartSheets.{sheet_of}
use Rattle.pc_solver.specs.Solver.{IsSolverLog}
use Rattle.pc_solver.specs.Spending.{SpendsOver}
use Rattle.pc_world_list.specs.Worlds.{WorldView}
use Rattle.pc_worlds.specs.Parts.{AddsLogs, marked_in}
use Rattle.pc_kept.specs.ByPolarity.{NoneIsContainedByPolarity}
use Rattle.pc_kept.specs.Laws.{KeptPartsAreSearched}
use Rattle.pc_search.specs.Found.{Finds, search_bytes, work_between}
use Rattle.pc_search.specs.Parts.{AreWorldsOf, AreAskedOf}
use Rattle.pc_search.specs.Spending.{IsSearchLog, AreFewWithTargets}
use Rattle.pc_search.specs.Tasks.{problem_in, IsPartIn}
use Rattle.pc_search.specs.declared.task.PartTask.{PartTask}
use Rattle.pc_theory.specs.Edits.{IsBlankOn, IsSpentAlone}
use Rattle.pc_theory.specs.KeptBytes.{part_bytes}
use Rattle.pc_theory.specs.Targets.{AreAsked}
use Rattle.pc_theory.specs.Theories.{rules_alone, with_ground, TheoryView, IsTheory, IsPartNumbered}
use Rattle.pc_theory.specs.inside.PartTasks.{IsTaskOf}
use Rattle.pc_theory.specs.declared.edits.PartTargets.{PartTargets}
use Rattle.pc_theory.specs.declared.spending.PartSpending.{PartSpending}
use Rattle.pc_theory.proofs.Lists.{within_at}
use Rattle.pc_theory.proofs.KeptBytes.{edit_bytes}
use Rattle.pc_theory.proofs.Parted.{as_many_axioms, as_many_variables}
use Rattle.pc_theory.proofs.Editing.{asked_within, ready_there, alone_blank, alone_of_reasons, alone_reserved, asked_of}

-- nothing is spent on a blank place
pub spent_none : KeptPartsAreSearched → NoneIsContainedByPolarity → (sheet : Sheet) (theory : TheoryView) → IsWellFormed sheet → IsTheory (rules_alone sheet) theory → (i : ℕ) (ts : List Target) → AreAsked (cell_sizes sheet.universe) theory.components i ts
    → (before place : PartSpending) → IsBlankOn i before → place.part ≡ before.part → place.tally ≡ before.tally → place.logs.items ≡ before.logs.items → IsSpentAlone sheet theory.components i place
spent_none searched none sheet theory formed known i ts asked before place blank number same_tally same_logs =
    let parts = (ready_there sheet theory formed known).components in
    let below = asked_within sheet theory known i ts asked in
    let cells = within_at theory.searched.cells i below in
    let used = within_at theory.searched.axioms i (omega (arith, below, as_many_axioms sheet theory.searched parts)) in
    let own = within_at theory.searched.variables i (omega (arith, below, as_many_variables sheet theory.searched parts)) in
    alone_blank searched sheet theory formed known i cells.0 used.0 own.0 cells.1 used.1 own.1 theory.searched.banned refl ts asked none before place blank number same_tally same_logs

module _ (t : PartTargets) (task : PartTask) (is : IsTaskOf t task) where
  abbrev theory : TheoryView
  theory = with_ground task.ground.now t.theory.now

  abbrev HasWorlds : List WorldView → Sheet → Type 0
  HasWorlds worlds sheet = (p : Part) → IsPartNumbered (rules_alone sheet) t.part p → AreWorldsOf sheet p worlds

  -- the targets are asked of the part's worlds
  pub asked_reasons : KeptPartsAreSearched → (worlds : List WorldView) → HasWorlds worlds t.book.now → AreAskedOf task.book.now task.entries.now (problem_in task) worlds task.targets.now
  asked_reasons searched worlds worlds_are =
      asked_of searched task.book.now theory is.formed is.known t.part _ _ _ is.cells is.axioms is.variables _ is.banned task.targets.now is.asked task.entries.now worlds is.listable.entries (subst (HasWorlds worlds) (sym is.book) worlds_are)

  module _ (before place : PartSpending) (blank : IsBlankOn t.part before) (number : place.part ≡ before.part) where
    -- what is spent
    module _ (searched : KeptPartsAreSearched) (none : NoneIsContainedByPolarity) where
      of_book : IsSpentAlone task.book.now t.theory.now.components t.part place → IsSpentAlone t.book.now t.theory.now.components t.part place
      of_book spent = subst (λ (s : Sheet). IsSpentAlone s t.theory.now.components t.part place) is.book spent

      pub spent_searching : (mid : List (List LogLine)) → mid ≡ before.logs.items → ((p : Part) → IsPartIn task p → AddsLogs 3 (IsSearchLog (sheet_of task.book.now p) (problem_in task)) mid place.logs.items)
          → ((most : ℕ) × ((p : Part) → IsPartIn task p → AreFewWithTargets (sheet_of task.book.now p) (length task.targets.now) most)
          × SpendsOver (length task.part.variables.now) before.tally place.tally (marked_in mid) (marked_in place.logs.items) most) → IsSpentAlone t.book.now t.theory.now.components t.part place
      spent_searching mid same logs spends =
          of_book (alone_reserved searched task.book.now theory is.formed is.known t.part _ _ _ is.cells is.axioms is.variables _ is.banned task.targets.now is.asked none before place blank number mid same task.entries.now is.listable.entries logs spends)

      pub spent_on_reasons : (worlds : List WorldView) → HasWorlds worlds t.book.now → AddsLogs 1 (IsSolverLog (problem_in task) []) before.logs.items place.logs.items
          → SpendsOver (length task.part.variables.now) before.tally place.tally (marked_in before.logs.items) (marked_in place.logs.items) (length task.targets.now * (length worlds * (length task.entries.now + 2)))
          → IsSpentAlone t.book.now t.theory.now.components t.part place
      spent_on_reasons worlds worlds_are logs spends =
          of_book (alone_of_reasons searched task.book.now theory is.formed is.known t.part _ _ _ is.cells is.axioms is.variables _ is.banned task.targets.now is.asked none before place blank number task.entries.now worlds is.listable.entries
          (subst (HasWorlds worlds) (sym is.book) worlds_are) logs spends)

    -- what is found
    module _ {T E : Type 0} (r : Result T E) where
      pub finds_targets : (rows after : List TargetRow) → OnOk r (Finds task.book.now (work_between before.tally place.tally) task.targets.now rows after) → OnOk r (Finds t.book.now (place.tally.learned + place.tally.calls) t.targets.now rows after)
      finds_targets rows after found =
          let all : work_between before.tally place.tally ≡ place.tally.learned + place.tally.calls = omega (arith, blank.none_learned, blank.no_calls) in
          let FindsBy : Sheet → ℕ → List Target → Type 0 = λ s n ts. OnOk r (Finds s n ts rows after) in
          subst (λ n. FindsBy t.book.now n t.targets.now) all
          (subst (λ s. FindsBy s (work_between before.tally place.tally) t.targets.now) is.book (subst (FindsBy task.book.now (work_between before.tally place.tally)) is.targets found))

      pub finds_bytes : (a b : ℕ) → OnOk r (b ≤ a + search_bytes (length task.part.axioms.now) (length task.part.variables.now) (work_between before.tally place.tally)) → OnOk r (b ≤ a + part_bytes t.theory.now.components place)
      finds_bytes a b = on_ok_weaker r (edit_bytes task.book.now theory is.known t.part _ _ is.axioms is.variables before place blank number a b)
