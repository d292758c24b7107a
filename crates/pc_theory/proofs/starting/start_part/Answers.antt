use Rattle.std.proofs.Common.{◌≡◌, ◌+◌, ◌∙◌, [], ◌∷◌, ◌++◌, List, map, Contains, sym, ap, subst, arith, ℕ}
use Rattle.std.proofs.lemmas.Result.{err_from_is_err_and}
use Rattle.pc_ground.specs.GroundView.{Grounded}
use Rattle.pc_components.specs.Used.{HasValues}
use Rattle.pc_components.specs.View.{number_of}
use Rattle.pc_parts.specs.Laws.{AgreeAt}
use Rattle.pc_sheet.specs.Entailment.{AreWithin}
use Rattle.pc_sheet.specs.declared.ids.ValueId.{ValueId}
use Rattle.pc_solver.specs.Answers.{truth_in}
use Rattle.pc_solver.specs.Solver.{SuspendedView}
use Rattle.pc_theory.specs.inside.Calling.{EndSays}
use Rattle.pc_theory.specs.inside.Starting.{ArePlaces, AreStarted}
use Rattle.pc_theory.specs.declared.spending.PartSpending.{PartSpending}
use Rattle.pc_theory.specs.declared.starting.End.{End}
use Rattle.pc_theory.proofs.Started.{first_pairs, aside_started, started_next, places_more, refused_halts}
use Rattle.pc_theory.proofs.starting.start_part.Goals as goal

pub read_values-requires-clause-sizes : goal.read_values-requires-clause-sizes
read_values-requires-clause-sizes c = let sizes : Grounded → List ℕ = λ g. g.sizes in ap sizes c.requires.ready.ground_is

pub read_values-requires-clause-pairs : goal.read_values-requires-clause-pairs
read_values-requires-clause-pairs c =
    let a = c.args in
    let called = c.in_ok-called.ensures.called in
    first_pairs c.kept_parts_are_searched.ensures a.task.book.now a.task.ground.now a.task.components.now c.requires.ready c.len-number.result _ _ _ c.part-part.ensures.cells c.part-part.ensures.axioms c.part-part.ensures.variables
    c.in_ok-called.called.solver c.in_ok-called.called.place called.numbered called.started

pub read_values-requires-clause-within : goal.read_values-requires-clause-within
read_values-requires-clause-within c =
    let sizes : Grounded → List ℕ = λ g. g.sizes in
    subst (λ (ns : List ℕ). AreWithin ns c.args.base.now) (sym (ap sizes c.requires.ready.ground_is)) c.requires.started.assigns

pub returns-in-Met-clause-started : goal.returns-in-Met-clause-started
returns-in-Met-clause-started c =
    let a = c.args in
    let called = c.in_ok-called.ensures.called in
    let place = c.in_ok-called.called.place in
    let solver = c.in_ok-called.called.solver in
    let base = c.read_values.new.base in
    let cells = c.part-part.result.cells.now in
    let sizes : Grounded → List ℕ = λ g. g.sizes in
    let same = ap sizes c.requires.ready.ground_is in
    let assigns = subst (λ (ns : List ℕ). AreWithin ns base) same c.read_values.ensures.within in
    let reads =
    subst (λ (ns : List ℕ). (v : List ValueId) → AreWithin ns v → HasValues ns (map number_of cells) (truth_in solver.trues) v → AgreeAt (Contains (map number_of cells)) v base) same c.read_values.ensures.reads
    in
    let next =
    started_next c.kept_parts_are_searched.ensures a.task.book.now a.task.ground.now a.task.components.now c.requires.ready a.spent.now c.len-number.result a.base.now base a.parts.now.items a.solvers.now.items cells _ _
    c.part-part.ensures.cells c.part-part.ensures.axioms c.part-part.ensures.variables c.requires.started (omega (arith, c.len-number.ensures, a.parts.now.ok.0)) place solver c.suspend-solver.result.0 called.numbered called.started
    (aside_started a.task.book.now a.task.components.now place solver c.suspend-solver.result.0 c.suspend-solver.ensures.problem c.suspend-solver.ensures.blocks c.suspend-solver.ensures.log called.started)
    (subst (λ (e : End). EndSays solver place.tally e) c.in-Met.is called.says) assigns reads c.read_values.ensures.elsewhere
    in
    let pushed = rw c.unwrap.ensures at c.push.ensures.items in
    let parts : c.push.new.self.items ≡ a.parts.now.items ++ place ∷ [] = pushed ∙ ap (λ ps. ps ++ place ∷ []) c.in_ok-reserve.ensures.items in
    let pushed-2 = rw c.unwrap-2.ensures at c.push-2.ensures.items in
    let solvers : c.push-2.new.self.items ≡ a.solvers.now.items ++ c.suspend-solver.result.0 ∷ [] = pushed-2 ∙ ap (λ ss. ss ++ c.suspend-solver.result.0 ∷ []) c.in_ok-reserve-2.ensures.items in
    subst (λ (ps : List PartSpending). AreStarted a.task.book.now a.task.components.now (a.spent.now + place.tally.placed) base ps c.push-2.new.self.items) (sym parts)
    (subst (λ (ss : List SuspendedView). AreStarted a.task.book.now a.task.components.now (a.spent.now + place.tally.placed) base (a.parts.now.items ++ place ∷ []) ss) (sym solvers) next)

pub returns-in-Spent-clause-halt : goal.returns-in-Spent-clause-halt
returns-in-Spent-clause-halt c =
    let a = c.args in
    let called = c.in_ok-called.ensures.called in
    let place = c.in_ok-called.called.place in
    let solver = c.in_ok-called.called.solver in
    let says : place.tally.placed ≡ place.tally.limit = subst (λ (e : End). EndSays solver place.tally e) c.in-Spent.is called.says in
    let pushed = rw c.unwrap.ensures at c.push.ensures.items in
    let parts : c.push.new.self.items ≡ a.parts.now.items ++ place ∷ [] = pushed ∙ ap (λ ps. ps ++ place ∷ []) c.in_ok-reserve.ensures.items in (
      omega (arith, says, called.limit_is, c.requires.within),
      subst (λ (ps : List PartSpending). ArePlaces a.task.book.now a.task.components.now (a.spent.now + place.tally.placed) ps) (sym parts)
          (places_more a.task.book.now a.task.components.now a.spent.now c.len-number.result a.parts.now.items place c.requires.started.places (omega (arith, c.len-number.ensures, a.parts.now.ok.0)) called.numbered called.started.spent),
    )

pub returns-in_err-called-clause-halt : goal.returns-in_err-called-clause-halt
returns-in_err-called-clause-halt c =
    let a = c.args in
    let p = err_from_is_err_and c.from_residual-in_err-called.result c.from_residual-in_err-called.ensures.1 in
    rw (p.1, p.2) (refused_halts a.task.book.now a.task.components.now a.task.budget a.spent.now c.reserve.new.self.items _ c.in_err-called.ensures.refused)
