use Rattle.std.proofs.Common.{refl, sym, subst}
use Rattle.pc_cache.specs.Patches.{patch_bytes}
use Rattle.pc_theory.specs.inside.PartTasks.{AreEntriesOf}
use Rattle.pc_theory.specs.declared.spending.PartSpending.{PartSpending}
use Rattle.pc_theory.proofs.PartTasks.{asked_reasons, finds_bytes, finds_targets, spent_none, spent_on_reasons}
use Rattle.pc_theory.proofs.edits.PartTargets.find_reasons.Goals as goal

pub task-task-requires-clause-entries : goal.task-task-requires-clause-entries
task-task-requires-clause-entries c = let t = c.args.self in subst (AreEntriesOf t.book.now t.theory.now.searched t.part) (sym c.deref.ensures.value) c.in_ok-entries.ensures

pub find_reasons-outcome-requires-clause-searchable : goal.find_reasons-outcome-requires-clause-searchable
find_reasons-outcome-requires-clause-searchable c = c.task-task.ensures.listable.searchable

pub find_reasons-outcome-requires-clause-asked : goal.find_reasons-outcome-requires-clause-asked
find_reasons-outcome-requires-clause-asked c = asked_reasons c.args.self c.task-task.result c.task-task.ensures c.kept_parts_are_searched.ensures c.args.worlds.now c.requires.worlds

pub returns-clause-spends : goal.returns-clause-spends
returns-clause-spends c =
    let a = c.args in
    let place : PartSpending = record { part = a.place.now.part; tally = c.find_reasons-outcome.new.tally; logs = c.find_reasons-outcome.new.logs } in
    spent_on_reasons a.self c.task-task.result c.task-task.ensures a.place.now place c.requires.blank refl c.kept_parts_are_searched.ensures c.none_is_contained_by_polarity.ensures a.worlds.now c.requires.worlds c.find_reasons-outcome.ensures.logs c.find_reasons-outcome.ensures.spends

pub returns-clause-limit : goal.returns-clause-limit
returns-clause-limit c = c.find_reasons-outcome.ensures.spends.limit

pub returns-in_err-entries-clause-spends : goal.returns-in_err-entries-clause-spends
returns-in_err-entries-clause-spends c =
    let a = c.args in
    spent_none c.kept_parts_are_searched.ensures c.none_is_contained_by_polarity.ensures a.self.book.now a.self.theory.now c.well_formed-2.ensures c.requires.theory a.self.part a.self.targets.now c.requires.asked a.place.now a.place.now c.requires.blank refl refl refl

pub returns-in_err-empty_one-clause-spends : goal.returns-in_err-empty_one-clause-spends
returns-in_err-empty_one-clause-spends c =
    let a = c.args in
    spent_none c.kept_parts_are_searched.ensures c.none_is_contained_by_polarity.ensures a.self.book.now a.self.theory.now c.well_formed-2.ensures c.requires.theory a.self.part a.self.targets.now c.requires.asked a.place.now a.place.now c.requires.blank refl refl refl

pub returns-clause-found : goal.returns-clause-found
returns-clause-found c =
    let a = c.args in
    let place : PartSpending = record { part = a.place.now.part; tally = c.find_reasons-outcome.new.tally; logs = c.find_reasons-outcome.new.logs } in
    finds_targets a.self c.task-task.result c.task-task.ensures a.place.now place c.requires.blank refl c.find_reasons-outcome.result a.patch.now.rows c.find_reasons-outcome.new.patch.rows c.find_reasons-outcome.ensures.found

pub returns-clause-bytes : goal.returns-clause-bytes
returns-clause-bytes c =
    let a = c.args in
    let place : PartSpending = record { part = a.place.now.part; tally = c.find_reasons-outcome.new.tally; logs = c.find_reasons-outcome.new.logs } in
    finds_bytes a.self c.task-task.result c.task-task.ensures a.place.now place c.requires.blank refl c.find_reasons-outcome.result (patch_bytes a.patch.now) (patch_bytes c.find_reasons-outcome.new.patch) c.find_reasons-outcome.ensures.bytes
