use Rattle.std.proofs.Common.{◌≡◌, ◌+◌, ◌<◌, ◌≤◌, ℕ, List, length, set, ap, sym, ◌∙◌, subst, arith}
use Rattle.std.proofs.lemmas.List.{length-set}
use Rattle.std.proofs.lemmas.Result.{err_from_is_err_and}
use Rattle.pc_cache.specs.Patches.{patch_bytes}
use Rattle.pc_world_list.specs.Worlds.{WorldView}
use Rattle.pc_theory.specs.inside.Searching.{AreSearched, IsMoved}
use Rattle.pc_theory.specs.Theories.{rules_alone, IsPartNumbered}
use Rattle.pc_theory.specs.declared.spending.PartSpending.{PartSpending}
use Rattle.pc_theory.proofs.KeptBytes.{added_up, first_more, first_all}
use Rattle.pc_theory.proofs.PartMoved.{none_searched, all_started, started_at, stop_places, searched_more, later_started}
use Rattle.pc_theory.proofs.searching.search_parts.Goals as goal

pub loop-number-init : goal.loop-number-init
loop-number-init c =
    let a = c.args in
    record {
      within = c.requires.within;
      many = c.requires.many;
      trails = c.requires.trails;
      solvers = omega (arith, c.requires.started.many);
      searched = none_searched a.fitted.task.book.now a.fitted.task.components.now c.new-worlds.result.items a.patch.now.rows a.spent.now a.parts.now.items c.new-worlds.ensures.items c.requires.blank c.requires.started.places;
      bytes = omega arith;
      later = all_started a.fitted.task.book.now a.fitted.task.components.now a.parts.now.items a.solvers.items c.requires.started.many c.requires.started.started;
    }

pub search_one-requires-clause-number : goal.search_one-requires-clause-number
search_one-requires-clause-number c =
    let l = c.loop-number in
    let before = c.index_mut.result.now in
    let below : l.number < length l.parts.items = omega (arith, c.loop-number-test.true, c.len-number-end.ensures, l.invariant.many) in
    let part : PartSpending → ℕ = λ q. q.part in
    let at : before.part ≡ l.number = ap part c.index_mut.ensures.value ∙ l.invariant.searched.places.numbered l.number before below in
    omega (arith, at, c.loop-number-test.true, c.len-number-end.ensures)

pub search_one-requires-clause-started : goal.search_one-requires-clause-started
search_one-requires-clause-started c =
    let a = c.args in
    let l = c.loop-number in
    started_at a.fitted.task.book.now a.fitted.task.components.now l.number l.parts.items l.solvers.items c.pop_front.new.self.items c.index_mut.result.now c.in-Some.solver c.in-Some.ensures.items l.invariant.later c.index_mut.ensures.value

pub returns-in_err-found-clause-stop : goal.returns-in_err-found-clause-stop
returns-in_err-found-clause-stop c =
    let a = c.args in
    let l = c.loop-number in
    let below : l.number < length l.parts.items = omega (arith, c.loop-number-test.true, c.len-number-end.ensures, l.invariant.many) in
    let p = err_from_is_err_and c.from_residual.result c.from_residual.ensures.1 in
    rw (p.1, p.2)
    (stop_places a.fitted.task.book.now a.fitted.task.components.now a.fitted.task.budget l.spent c.search_one.new.spent l.number l.parts.items c.index_mut.result.now c.search_one.new.place c.in_err-found.field-0.0 l.invariant.searched.places below
    c.index_mut.ensures.value c.in_err-found.ensures.stop)

pub loop-number-preserved : goal.loop-number-preserved
loop-number-preserved c =
    let a = c.args in
    let l = c.loop-number in
    let new = c.search_one.new in
    let before = c.index_mut.result.now in
    let below : l.number < length l.parts.items = omega (arith, c.loop-number-test.true, c.len-number-end.ensures, l.invariant.many) in
    let moved = subst (λ (p : PartSpending). IsMoved a.fitted.task.book.now a.fitted.task.components.now l.spent p new.spent new.place) c.index_mut.ensures.value c.in_ok-found.ensures.place in
    let part : PartSpending → ℕ = λ q. q.part in
    let at : before.part ≡ l.number = ap part c.index_mut.ensures.value ∙ l.invariant.searched.places.numbered l.number before below in
    let number : new.place.part ≡ l.number = moved.numbered ∙ l.invariant.searched.places.numbered l.number before below in
    record {
      within = c.search_one.ensures.within;
      many = length-set l.parts.items l.number new.place ∙ l.invariant.many;
      trails = c.search_one.ensures.trails ∙ l.invariant.trails;
      solvers = omega (arith, ap length c.in-Some.ensures.items, length-set l.parts.items l.number new.place, l.invariant.solvers);
      searched = subst (λ (ws : List (List WorldView)). AreSearched a.fitted.task.book.now a.fitted.task.components.now (l.number + 1) ws new.patch.rows new.spent (set l.parts.items l.number new.place)) (sym c.in_ok-push.ensures.items)
          (searched_more a.fitted.task.book.now a.fitted.task.components.now l.number l.spent new.spent l.worlds.items l.patch.rows new.patch.rows l.parts.items before new.place l.invariant.searched below moved number c.in_ok-found.ensures.found
          c.in_ok-found.found (λ p is. c.in_ok-found.ensures.worlds p (subst (λ n. IsPartNumbered (rules_alone a.fitted.task.book.now) n p) (sym at) is)));
      bytes = added_up (patch_bytes a.patch.now) (patch_bytes l.patch) (patch_bytes new.patch) _ _ _ c.in_ok-found.ensures.bytes l.invariant.bytes
          (first_more a.fitted.task.components.now l.number l.parts.items new.place below);
      later = later_started a.fitted.task.book.now a.fitted.task.components.now l.number l.parts.items l.solvers.items c.pop_front.new.self.items new.place c.in-Some.solver c.in-Some.ensures.items l.invariant.later;
    }

pub returns-clause-searched : goal.returns-clause-searched
returns-clause-searched c =
    let a = c.args in
    let l = c.loop-number in
    let all : l.number ≡ length a.fitted.task.components.now.cells = omega (arith, c.loop-number-test.false, l.auto.number-end, c.len-number-end.ensures) in
    subst (λ (n : ℕ). AreSearched a.fitted.task.book.now a.fitted.task.components.now n l.worlds.items l.patch.rows l.spent l.parts.items) all l.invariant.searched

pub returns-clause-bytes : goal.returns-clause-bytes
returns-clause-bytes c =
    let l = c.loop-number in
    let all : length l.parts.items ≤ l.number = omega (arith, c.loop-number-test.false, l.auto.number-end, c.len-number-end.ensures, l.invariant.many) in
    subst (λ n. patch_bytes l.patch ≤ patch_bytes c.args.patch.now + n) (first_all c.args.fitted.task.components.now l.number l.parts.items all) l.invariant.bytes
