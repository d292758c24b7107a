use Rattle.std.proofs.Common.{◌≡◌, ◌+◌, ◌-◌, ◌≤◌, ℕ, length, ap, refl, ◌∙◌, arith}
use Rattle.std.proofs.lemmas.Result.{on_ok_weaker, IfErr-weaker}
use Rattle.pc_cache.specs.Patches.{patch_bytes}
use Rattle.pc_sheet.specs.Entailment.{cell_sizes}
use Rattle.pc_solver.specs.Spending.{StopSays}
use Rattle.pc_theory.specs.inside.Searching.{IsMoved, StopMoves}
use Rattle.pc_theory.specs.declared.spending.PartSpending.{PartSpending}
use Rattle.pc_theory.proofs.KeptBytes.{bytes_at}
use Rattle.pc_theory.proofs.OneSearched.{part_here, few_asked, searched_asked, moved_here, stop_moves}
use Rattle.pc_theory.proofs.Parted.{cells_below}
use Rattle.pc_theory.proofs.Started.{first_problem}
use Rattle.pc_theory.proofs.searching.search_one.Goals as goal

pub asked_on-requires-clause-cells : goal.asked_on-requires-clause-cells
asked_on-requires-clause-cells c = cells_below c.args.fitted.task.book.now c.args.fitted.task.components.now c.requires.ready.components c.args.place.now.part _ c.part-part.ensures.cells

pub take_log-requires : goal.take_log-requires
take_log-requires c = omega (arith, ap length c.requires.started.only.only)

pub search_started-outcome-requires-clause-listable : goal.search_started-outcome-requires-clause-listable
search_started-outcome-requires-clause-listable c =
    let a = c.args in
    let t = a.fitted.task in
    let few : length (cell_sizes t.book.now.universe) ≤ 4096 = omega (arith, c.few_cells.ensures) in
    let entries = c.deref.ensures.value ∙ c.in_ok-asked.ensures.entries.on _ c.part-part.ensures.cells in
    let targets = c.deref-2.ensures.value ∙ c.in_ok-asked.ensures.targets in
    record {
      searchable = record {
        ground = c.requires.ready.ground_is;
        problem = first_problem c.kept_parts_are_searched.ensures t.book.now t.ground.now t.components.now c.requires.ready a.place.now.part _ _ _ c.part-part.ensures.cells c.part-part.ensures.axioms c.part-part.ensures.variables _ c.part-part.ensures.banned;
        few_targets = few_asked c.kept_parts_are_searched.ensures t.book.now t.ground.now t.components.now c.requires.ready a.fitted.base.now c.requires.base a.place.now.part _ _ _ c.part-part.ensures.cells c.part-part.ensures.axioms c.part-part.ensures.variables _ c.part-part.ensures.banned
            c.deref-2.result.now targets few;
        few_entries = omega (arith, ap length c.deref.ensures.value, c.in_ok-asked.ensures.entries.few);
      };
      base = c.requires.base;
      entries = entries;
      searched = searched_asked c.kept_parts_are_searched.ensures t.book.now t.ground.now t.components.now c.requires.ready a.fitted.base.now c.requires.base a.place.now.part _ _ _ c.part-part.ensures.cells c.part-part.ensures.axioms c.part-part.ensures.variables _ c.part-part.ensures.banned
          c.deref-2.result.now targets c.deref.result.now entries;
    }

pub returns-clause-worlds : goal.returns-clause-worlds
returns-clause-worlds c p numbered =
    let a = c.args in
    c.search_started-outcome.ensures.worlds p
    (part_here c.kept_parts_are_searched.ensures a.fitted.task.book.now a.fitted.task.ground.now a.fitted.task.components.now c.requires.ready a.fitted.base.now c.requires.base a.place.now.part _ _ _ c.part-part.ensures.cells c.part-part.ensures.axioms c.part-part.ensures.variables _ c.part-part.ensures.banned p
    c.deref.result.now numbered (c.deref.ensures.value ∙ c.in_ok-asked.ensures.entries.on _ c.part-part.ensures.cells))

pub returns-clause-place : goal.returns-clause-place
returns-clause-place c =
    let a = c.args in
    let now = c.search_started-outcome.new in
    let place : PartSpending = record { part = a.place.now.part; tally = now.tally; logs = c.push.new.self } in
    let more : ℕ = a.spent.now + (now.tally.placed - a.place.now.tally.placed) in
    let says = c.search_started-outcome.ensures in
    let moved : IsMoved a.fitted.task.book.now a.fitted.task.components.now a.spent.now a.place.now more place =
    moved_here c.kept_parts_are_searched.ensures a.fitted.task.book.now a.fitted.task.ground.now a.fitted.task.components.now c.requires.ready a.fitted.base.now c.requires.base a.place.now.part _ _ _ c.part-part.ensures.cells c.part-part.ensures.axioms c.part-part.ensures.variables _ c.part-part.ensures.banned
    c.deref-2.result.now (c.deref-2.ensures.value ∙ c.in_ok-asked.ensures.targets) a.place.now a.solver refl c.requires.started a.spent.now more place c.take_log.new.logs.items c.take_log.new.logs.items now.logs.items c.in_ok-log.log now.log _
    c.deref.result.now (c.deref.ensures.value ∙ c.in_ok-asked.ensures.entries.on _ c.part-part.ensures.cells) c.in_ok-log.ensures.taken refl c.in_ok-push.ensures.items refl says.logs says.log says.spends refl refl refl (omega (arith, says.spends.2.placed))
    in
    on_ok_weaker c.search_started-outcome.result (λ _. moved) says.found

pub returns-clause-stop : goal.returns-clause-stop
returns-clause-stop c =
    let a = c.args in
    let now = c.search_started-outcome.new in
    let place : PartSpending = record { part = a.place.now.part; tally = now.tally; logs = c.push.new.self } in
    let more : ℕ = a.spent.now + (now.tally.placed - a.place.now.tally.placed) in
    let says = c.search_started-outcome.ensures in
    let sum : more + a.place.now.tally.placed ≡ a.spent.now + now.tally.placed = omega (arith, says.spends.2.placed) in
    let moved : IsMoved a.fitted.task.book.now a.fitted.task.components.now a.spent.now a.place.now more place =
    moved_here c.kept_parts_are_searched.ensures a.fitted.task.book.now a.fitted.task.ground.now a.fitted.task.components.now c.requires.ready a.fitted.base.now c.requires.base a.place.now.part _ _ _ c.part-part.ensures.cells c.part-part.ensures.axioms c.part-part.ensures.variables _ c.part-part.ensures.banned
    c.deref-2.result.now (c.deref-2.ensures.value ∙ c.in_ok-asked.ensures.targets) a.place.now a.solver refl c.requires.started a.spent.now more place c.take_log.new.logs.items c.take_log.new.logs.items now.logs.items c.in_ok-log.log now.log _
    c.deref.result.now (c.deref.ensures.value ∙ c.in_ok-asked.ensures.entries.on _ c.part-part.ensures.cells) c.in_ok-log.ensures.taken refl c.in_ok-push.ensures.items refl says.logs says.log says.spends refl refl refl sum
    in
    IfErr-weaker c.search_started-outcome.result (StopSays now.tally) (StopMoves a.fitted.task.book.now a.fitted.task.components.now a.fitted.task.budget a.spent.now a.place.now more place)
    (λ stop h. stop_moves a.fitted.task.book.now a.fitted.task.components.now a.fitted.task.budget a.spent.now more a.place.now place stop h says.spends.2.limit c.requires.within sum moved) says.stop

pub returns-clause-bytes : goal.returns-clause-bytes
returns-clause-bytes c =
    let a = c.args in
    let now = c.search_started-outcome.new in
    let place : PartSpending = record { part = a.place.now.part; tally = now.tally; logs = c.push.new.self } in
    on_ok_weaker c.search_started-outcome.result
    (bytes_at a.fitted.task.components.now a.place.now.part _ _ c.part-part.ensures.axioms c.part-part.ensures.variables place refl (patch_bytes a.patch.now) (patch_bytes now.patch)) c.search_started-outcome.ensures.bytes
