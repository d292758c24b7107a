use Rattle.std.proofs.Common.{◌≡◌, ◌+◌, ◌-◌, ◌<◌, List, All, drop, length, arith, ap, sym, ◌∙◌, subst}
use Rattle.pc_sheet.specs.declared.ids.ValueId.{ValueId}
use Rattle.pc_repairs.specs.inside.Joining.{IsSized, joined_by}
use Rattle.pc_repairs.proofs.Laid.{joined_one, long_by_world}
use Rattle.pc_repairs.proofs.joining.join_parts.Goals as goal

pub lay_part-requires-clause-sized : goal.lay_part-requires-clause-sized
lay_part-requires-clause-sized c =
    let r = c.index-parts-left.result in
    let below : c.loop-left.left - 1 < length c.args.parts.now = omega (arith, c.loop-left.invariant.within, c.loop-left-test.true) in
    subst (λ n. IsSized n r) (sym (ap length c.values-count.ensures)) (subst (IsSized (length c.args.fitting.now)) (sym c.index-parts-left.is) (c.requires (c.loop-left.left - 1) r below))

pub loop-left-preserved : goal.loop-left-preserved
loop-left-preserved c =
    let fitting = c.args.fitting.now in
    let parts = c.args.parts.now in
    let left = c.loop-left.left in
    let r = c.index-parts-left.result in
    let below : left - 1 < length parts = omega (arith, c.loop-left.invariant.within, c.loop-left-test.true) in
    let next : left ≡ left - 1 + 1 = omega (arith, c.loop-left-test.true) in
    record {
      within = omega (arith, below);
      joined = c.in_ok-all.ensures ∙ joined_one fitting parts (left - 1) r c.deref.result.now below c.index-parts-left.is (c.deref.ensures.value ∙ (c.loop-left.invariant.joined ∙ ap (λ n. joined_by fitting (drop n parts)) next));
      long = subst (λ (vs : List (List ValueId)). All (λ v. length v ≡ length fitting) vs) (sym c.in_ok-all.ensures)
          (long_by_world (length fitting) c.deref.result.now r.cells.now (subst (λ (vs : List (List ValueId)). All (λ v. length v ≡ length fitting) vs) (sym c.deref.ensures.value) c.loop-left.invariant.long) r.sets.now);
    }
