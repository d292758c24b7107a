use Rattle.std.proofs.Common.{◌++◌, ◌∷◌, [], cond, get_or, false, arith, ap, ◌∙◌}
use Rattle.pc_session.proofs.Choosing.{places_more}
use Rattle.pc_session.proofs.chosen.gather.Goals as goal

pub loop-number-preserved : goal.loop-number-preserved
loop-number-preserved c = record {
  long = c.add_if-count.ensures.long ∙ c.loop-number.invariant.long;
  few = omega (arith, c.add_if-count.ensures.few, c.loop-number.invariant.few);
  places = c.add_if-count.ensures.added ∙ (ap (λ ns. ns ++ cond (get_or c.args.marks.now c.loop-number.number false) (c.loop-number.number ∷ []) []) c.loop-number.invariant.places ∙ places_more c.args.marks.now c.loop-number.number c.loop-number-test.true);
}
