use Rattle.std.proofs.Common.{ℕ, List, get_or, refl, sym, subst, arith}
use Rattle.std.proofs.lemmas.List.{take_all}
use Rattle.std.proofs.lemmas.List.Elements.{Contains-get_or}
use Rattle.pc_log.specs.Lines.{LogLine}
use Rattle.pc_log.specs.Shown.{shown_line}
use Rattle.pc_log.specs.Sparse.{line_at, CanStand, MayStand}
use Rattle.pc_log.proofs.SparseLemmas.{line_of_log, may_stand_more}
use Rattle.pc_log.proofs.sparse.SparseLog.agrees.Goals as goal

pub loop-place-preserved : goal.loop-place-preserved
loop-place-preserved c =
    let place : ℕ = get_or c.args.places.now c.loop-place.place-index 0 in
    may_stand_more (line_at c.args.log.now) c.args.places.now c.loop-place.place-index 0 c.args.self.now c.loop-place-test.true c.loop-place.invariant
    (subst (λ (l : LogLine). CanStand l place c.args.self.now) (line_of_log c.args.log.now place (shown_line c.line.result) c.line.ensures.line) (c.if-not-can_have.ensures.0 refl))

pub returns-then-not-can_have : goal.returns-then-not-can_have
returns-then-not-can_have c = (
  λ yes. absurd (cc yes),
  λ may.
      let place : ℕ = get_or c.args.places.now c.loop-place.place-index 0 in
      c.if-not-can_have.ensures.1
      (subst (λ (l : LogLine). CanStand l place c.args.self.now) (sym (line_of_log c.args.log.now place (shown_line c.line.result) c.line.ensures.line)) (may place (Contains-get_or c.args.places.now c.loop-place.place-index 0 c.loop-place-test.true))),
)

pub returns : goal.returns
returns c = (
  λ yes.
      subst (λ (ps : List ℕ). MayStand (line_at c.args.log.now) ps c.args.self.now) (take_all c.loop-place.place-index c.args.places.now (omega (arith, c.loop-place-test.false))) c.loop-place.invariant,
  λ may. refl,
)
