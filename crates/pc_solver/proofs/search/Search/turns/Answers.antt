use Rattle.std.proofs.Common.{subst, sym, refl, arith, Option, IsNone}
use Rattle.pc_solver.specs.declared.outcome.Outcome.{Outcome}
use Rattle.pc_solver.specs.inside.Search.{Advances}
use Rattle.pc_solver.specs.inside.Ends.{turn_extra, turn_unmarked}
use Rattle.pc_solver.proofs.SearchLemmas.{Advances-trans, Advances-none, on_err}
use Rattle.pc_solver.proofs.search.Search.turns.Goals as goal

pub turns-init : goal.turns-init
turns-init c = record { advances = Advances-none c.args.self.now c.args.tally.now c.args.log.now 0 c.requires.under_way.logged; under_way = c.requires.under_way }

pub turn-requires-clause-few : goal.turn-requires-clause-few
turn-requires-clause-few c =
    let w = c.turns.invariant.advances.works in
    omega (arith, w.learned, w.spare, w.limit, c.turns.tally.within_limit, c.requires.few)

pub returns-in_err-outcome-clause-err : goal.returns-in_err-outcome-clause-err
returns-in_err-outcome-clause-err c = on_err c.from_residual.result (Advances-trans _ _ _ _ _ _ _ _ _ 1 0 c.turns.invariant.advances c.in_err-outcome.ensures.err)

pub returns-in-Some-clause-ok : goal.returns-in-Some-clause-ok
returns-in-Some-clause-ok c =
    Advances-trans _ _ _ _ _ _ _ _ _ _ _ c.turns.invariant.advances
    (subst (λ (e : Option Outcome). Advances c.turns.self c.turn.new.self c.turns.tally c.turn.new.tally c.turns.log c.turn.new.log (turn_extra e) (turn_unmarked e)) c.in-Some.is c.in_ok-outcome.ensures.ok.advances)

pub turns-preserved : goal.turns-preserved
turns-preserved c = record {
  advances = Advances-trans _ _ _ _ _ _ _ _ _ 0 0 c.turns.invariant.advances
      (subst (λ (e : Option Outcome). Advances c.turns.self c.turn.new.self c.turns.tally c.turn.new.tally c.turns.log c.turn.new.log (turn_extra e) (turn_unmarked e)) c.in-None.is c.in_ok-outcome.ensures.ok.advances);
  under_way = c.in_ok-outcome.ensures.ok.under_way (subst (λ (e : Option Outcome). IsNone e) (sym c.in-None.is) refl);
}
