use Rattle.std.proofs.Common.{◌+◌, ◌<◌, Bool, Option, None, take, length, get_or, Some, ap, sym, ◌∙◌, subst, arith}
use Rattle.std.proofs.lemmas.List.{take_all, length-set, length-replicate}
use Rattle.pc_lits.proofs.LitLemmas.{past_lit}
use Rattle.pc_checker.specs.inside.Parts.{AreMarked}
use Rattle.pc_checker.proofs.MarkLemmas.{same_sign, other_sign, marked_more, marked_past}
use Rattle.pc_checker.proofs.derivation.mark.Goals.{then-is_positive-sign, else-is_positive-sign}
use Rattle.pc_checker.proofs.derivation.mark.Goals as goal

pub loop-lit-preserved : goal.loop-lit-preserved
loop-lit-preserved c =
    let i = c.loop-lit.lit-index in
    let x = get_or c.args.lits.now i past_lit in
    elim c.if-is_positive-sign.branch [
      | then-is_positive-sign w ↦
          let after = w.values-is ∙ w.assign.ensures in
          let room = c.loop-lit.invariant.room in
          let within : x.variable.0 < length c.loop-lit.values = omega (arith, c.requires i past_lit c.loop-lit-test.true, room, ap length c.clear.ensures, length-replicate {A = Option Bool} (length c.args.values.now) None) in
          record {
            marks = subst (AreMarked c.args.sign (take (i + 1) c.args.lits.now)) (sym after)
                (marked_more c.args.sign c.args.lits.now i past_lit c.loop-lit.values c.loop-lit-test.true within (sym c.is_positive.ensures ∙ same_sign _ _ w.if-is_positive-sign.true) c.loop-lit.invariant.marks);
            room = ap length after ∙ length-set c.loop-lit.values x.variable.0 (Some x.sign) ∙ room;
          }
      | else-is_positive-sign w ↦ record {
        marks = subst (AreMarked c.args.sign (take (i + 1) c.args.lits.now)) (sym w.values-is)
            (marked_past c.args.sign c.args.lits.now i past_lit c.loop-lit.values c.loop-lit-test.true (λ same. other_sign _ _ w.if-is_positive-sign.false (c.is_positive.ensures ∙ same)) c.loop-lit.invariant.marks);
        room = ap length w.values-is ∙ c.loop-lit.invariant.room;
      }
    ]

pub returns-clause-marks : goal.returns-clause-marks
returns-clause-marks c = subst (λ ls. AreMarked c.args.sign ls c.loop-lit.values) (take_all c.loop-lit.lit-index c.args.lits.now c.loop-lit-test.false) c.loop-lit.invariant.marks
