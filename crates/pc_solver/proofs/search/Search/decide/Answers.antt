use Rattle.std.proofs.Common.{None, Some, subst, refl}
use Rattle.std.specs.Prelude.{OnErr, IfOk}
use Rattle.pc_propagate.specs.declared.trail.TrailEntry.{TrailEntry}
use Rattle.pc_propagate.specs.Quiet.{IsQuiet}
use Rattle.pc_solver.specs.declared.outcome.Outcome.TheVariants.{Sat}
use Rattle.pc_solver.specs.inside.Search.{SearchView, IsUnderWay, Advances}
use Rattle.pc_solver.specs.inside.Ends.{Turns}
use Rattle.pc_solver.proofs.TurnLemmas.{placed_turn, placed_learned, derived_turn, refuted_err, none_turn}
use Rattle.pc_solver.proofs.SearchLemmas.{first_places}
use Rattle.pc_solver.proofs.EndLemmas.{all_met}
use Rattle.pc_solver.proofs.search.Search.decide.Goals as goal

pub place-requires-clause-quiet : goal.place-requires-clause-quiet
place-requires-clause-quiet c = rw c.next_decision-next.ensures.same c.requires.quiet

pub returns-in-Place-clause-ok : goal.returns-in-Place-clause-ok
returns-in-Place-clause-ok c =
    let s = c.next_decision-next.new.self in
    let same = c.next_decision-next.ensures.same in
    let e : TrailEntry = record { literal = c.in-Place.lit; reason = None } in
    let under_way : IsUnderWay s c.args.assumed.now c.args.log.now = rw same c.requires.under_way in
    subst (λ (x : SearchView). Turns x c.place.new.self c.args.assumed.now c.args.tally.now c.place.new.tally c.args.log.now c.args.log.now c.after_placing.result) same
    (placed_turn s c.place.new.self e c.args.assumed.now c.args.log.now c.args.tally.now c.place.new.tally c.place.result c.after_placing.result c.after_placing.ensures c.place.ensures.clauses c.place.ensures.placed under_way
    (first_places c.args.assumed.now c.in-Place.lit s.trail c.place.new.self.trail c.args.tally.now c.place.new.tally c.place.result c.place.ensures.placed c.in-Place.ensures.says.2 under_way.first))

pub returns-in-Place-clause-learned : goal.returns-in-Place-clause-learned
returns-in-Place-clause-learned c =
    placed_learned (record { literal = c.in-Place.lit; reason = None }) c.next_decision-next.new.self.trail c.place.new.self.trail c.args.tally.now c.place.new.tally c.place.result c.place.ensures.placed

pub refute_assumption-requires-clause-under_way : goal.refute_assumption-requires-clause-under_way
refute_assumption-requires-clause-under_way c = rw c.next_decision-next.ensures.same c.requires.under_way

pub returns-in-Failed-clause-ok : goal.returns-in-Failed-clause-ok
returns-in-Failed-clause-ok c =
    let s = c.next_decision-next.new.self in
    let same = c.next_decision-next.ensures.same in
    subst (λ (x : SearchView). IfOk c.refute_assumption.result (Turns x c.refute_assumption.new.self c.args.assumed.now c.args.tally.now c.args.tally.now c.args.log.now c.refute_assumption.new.log)) same
    (derived_turn s c.refute_assumption.new.self c.args.assumed.now c.args.tally.now c.args.log.now c.refute_assumption.new.log c.refute_assumption.result c.refute_assumption.ensures.ok c.refute_assumption.ensures.refutes)

pub returns-in-Failed-clause-err : goal.returns-in-Failed-clause-err
returns-in-Failed-clause-err c =
    subst (λ (x : SearchView). OnErr c.refute_assumption.result (Advances x c.refute_assumption.new.self c.args.tally.now c.args.tally.now c.args.log.now c.refute_assumption.new.log 1 0)) c.next_decision-next.ensures.same
    (refuted_err c.next_decision-next.new.self c.refute_assumption.new.self c.args.tally.now c.args.log.now c.refute_assumption.new.log c.refute_assumption.result c.refute_assumption.ensures.err)

pub returns-in-Done-clause-ok : goal.returns-in-Done-clause-ok
returns-in-Done-clause-ok c =
    let s = c.next_decision-next.new.self in
    let same = c.next_decision-next.ensures.same in
    let under_way : IsUnderWay s c.args.assumed.now c.args.log.now = rw same c.requires.under_way in
    let quiet : IsQuiet s.clauses.axioms s.clauses.more s.trail = rw same c.requires.quiet in
    subst (λ (x : SearchView). Turns x s c.args.assumed.now c.args.tally.now c.args.tally.now c.args.log.now c.args.log.now (Some Sat)) same
    (none_turn s c.args.assumed.now c.args.tally.now c.args.log.now Sat refl under_way (all_met s.clauses s.trail c.recall.ensures.is under_way.all quiet c.in-Done.ensures.says.1, c.in-Done.ensures.says.0))
