use Rattle.std.proofs.Common.{◌≡◌, ◌++◌, [], length, arith, ap, sym, ◌∙◌}
use Rattle.pc_repairs.specs.inside.Joining.{all_laid}
use Rattle.pc_repairs.proofs.Laid.{laid_more}
use Rattle.pc_repairs.proofs.joining.lay_part.Goals as goal

pub lay_set-requires-clause-cells : goal.lay_set-requires-clause-cells
lay_set-requires-clause-cells c k d below =
    let long : length c.shown.result.now ≡ c.args.count = ap length c.shown.ensures.exact ∙ c.requires.sized.sets c.loop-place.place (record { entries = []; shown = [] }) (omega (arith, c.loop-place-test.true, c.len-place-end.ensures)) in
    omega (arith, c.requires.sized.cells k d below, long)

pub lay_set-requires-clause-long : goal.lay_set-requires-clause-long
lay_set-requires-clause-long c k d below =
    let long : length c.shown.result.now ≡ c.args.count = ap length c.shown.ensures.exact ∙ c.requires.sized.sets c.loop-place.place (record { entries = []; shown = [] }) (omega (arith, c.loop-place-test.true, c.len-place-end.ensures)) in
    c.requires.long k d below ∙ sym long

pub loop-place-preserved : goal.loop-place-preserved
loop-place-preserved c =
    let cells = c.args.part.cells.now in
    c.in_ok-lay_set.ensures
    ∙ (ap (λ vs. vs ++ all_laid c.args.all.now cells c.shown.result.now) c.loop-place.invariant
    ∙ laid_more c.args.all.now cells c.args.part.sets.now c.loop-place.place c.shown.result.now (omega (arith, c.loop-place-test.true, c.len-place-end.ensures)) c.shown.ensures.exact)
