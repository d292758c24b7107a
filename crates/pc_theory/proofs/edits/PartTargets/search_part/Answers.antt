use Rattle.std.proofs.Common.{IfOk, refl, sym, subst}
use Rattle.pc_cache.specs.Patches.{patch_bytes}
use Rattle.pc_search.specs.Parts.{AreWorldsOf}
use Rattle.pc_sheet.specs.Sheet.{Sheet}
use Rattle.pc_theory.specs.inside.PartTasks.{AreEntriesOf}
use Rattle.pc_theory.specs.declared.spending.PartSpending.{PartSpending}
use Rattle.pc_theory.proofs.PartTasks.{finds_bytes, finds_targets, spent_none, spent_searching}
use Rattle.pc_theory.proofs.edits.PartTargets.search_part.Goals as goal

pub task-task-requires-clause-entries : goal.task-task-requires-clause-entries
task-task-requires-clause-entries c = let t = c.args.self in subst (AreEntriesOf t.book.now t.theory.now.searched t.part) (sym c.deref.ensures.value) c.in_ok-entries.ensures

pub search-outcome-requires-clause-listable : goal.search-outcome-requires-clause-listable
search-outcome-requires-clause-listable c = c.task-task.ensures.listable

pub returns-clause-worlds : goal.returns-clause-worlds
returns-clause-worlds c p numbered =
    subst (λ (s : Sheet). IfOk c.search-outcome.result (AreWorldsOf s p)) c.task-task.ensures.book (c.search-outcome.ensures.worlds p (c.task-task.ensures.part p numbered))

pub returns-clause-spends : goal.returns-clause-spends
returns-clause-spends c =
    let a = c.args in
    let place : PartSpending = record { part = a.place.now.part; tally = c.search-outcome.new.tally; logs = c.search-outcome.new.logs } in
    spent_searching a.self c.task-task.result c.task-task.ensures a.place.now place c.requires.blank refl c.kept_parts_are_searched.ensures c.none_is_contained_by_polarity.ensures _ c.in_ok-reserve.ensures.items c.search-outcome.ensures.logs c.search-outcome.ensures.spends

pub returns-in_err-reserve-clause-spends : goal.returns-in_err-reserve-clause-spends
returns-in_err-reserve-clause-spends c =
    let a = c.args in
    let place : PartSpending = record { part = a.place.now.part; tally = a.place.now.tally; logs = c.reserve.new.self } in
    spent_none c.kept_parts_are_searched.ensures c.none_is_contained_by_polarity.ensures a.self.book.now a.self.theory.now c.well_formed-2.ensures c.requires.theory a.self.part a.self.targets.now c.requires.asked a.place.now place c.requires.blank refl refl c.in_err-reserve.ensures.items

pub returns-in_err-empty_two-clause-spends : goal.returns-in_err-empty_two-clause-spends
returns-in_err-empty_two-clause-spends c =
    let a = c.args in
    let place : PartSpending = record { part = a.place.now.part; tally = a.place.now.tally; logs = c.reserve.new.self } in
    spent_none c.kept_parts_are_searched.ensures c.none_is_contained_by_polarity.ensures a.self.book.now a.self.theory.now c.well_formed-2.ensures c.requires.theory a.self.part a.self.targets.now c.requires.asked a.place.now place c.requires.blank refl refl c.in_ok-reserve.ensures.items

pub returns-clause-limit : goal.returns-clause-limit
returns-clause-limit c = c.search-outcome.ensures.spends.2.limit

pub returns-in_err-entries-clause-spends : goal.returns-in_err-entries-clause-spends
returns-in_err-entries-clause-spends c =
    let a = c.args in
    spent_none c.kept_parts_are_searched.ensures c.none_is_contained_by_polarity.ensures a.self.book.now a.self.theory.now c.well_formed-2.ensures c.requires.theory a.self.part a.self.targets.now c.requires.asked a.place.now a.place.now c.requires.blank refl refl refl

pub returns-clause-found : goal.returns-clause-found
returns-clause-found c =
    let a = c.args in
    let place : PartSpending = record { part = a.place.now.part; tally = c.search-outcome.new.tally; logs = c.search-outcome.new.logs } in
    finds_targets a.self c.task-task.result c.task-task.ensures a.place.now place c.requires.blank refl c.search-outcome.result a.patch.now.rows c.search-outcome.new.patch.rows c.search-outcome.ensures.found

pub returns-clause-bytes : goal.returns-clause-bytes
returns-clause-bytes c =
    let a = c.args in
    let place : PartSpending = record { part = a.place.now.part; tally = c.search-outcome.new.tally; logs = c.search-outcome.new.logs } in
    finds_bytes a.self c.task-task.result c.task-task.ensures a.place.now place c.requires.blank refl c.search-outcome.result (patch_bytes a.patch.now) (patch_bytes c.search-outcome.new.patch) c.search-outcome.ensures.bytes
