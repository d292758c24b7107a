use Rattle.std.proofs.Common.{◌≡◌, ◌+◌, ◌-◌, ◌%◌, ◌/◌, ◌<◌, ℕ, length, [], Some, arith, ap, refl, sym, ◌∙◌, subst}
use Rattle.std.proofs.Math.Nat.{mod-lt}
use Rattle.pc_repairs.specs.inside.Joining.{IsSized, laid_over, many_sets}
use Rattle.pc_ask.specs.inside.Ways.{IsLaidFrom}
use Rattle.pc_ask.proofs.Numbered.{laid_all, laid_next, none_laid, some_sets}
use Rattle.pc_ask.proofs.ways.way_at.Goals as goal

pub loop-left-init : goal.loop-left-init
loop-left-init c = none_laid c.args.fitting.now c.args.parts.now c.args.number _ c.in_ok-values.values.items refl (c.in_ok-values.ensures.items ∙ c.values.ensures)

pub nonzero_rem-rest : goal.nonzero_rem-rest
nonzero_rem-rest c =
    let q = c.index-parts-left.result in
    let below : c.loop-left.left - 1 < length c.args.parts.now = omega (arith, c.loop-left.invariant.within, c.loop-left-test.true) in
    let some : 0 < many_sets q = subst (λ p. 0 < many_sets p) (sym c.index-parts-left.is) (some_sets c.args.parts.now (c.loop-left.left - 1) q (omega (arith, c.requires.number)) below) in
    omega (arith, some, c.len-count.ensures)

pub nonzero_div-rest : goal.nonzero_div-rest
nonzero_div-rest c =
    let q = c.index-parts-left.result in
    let below : c.loop-left.left - 1 < length c.args.parts.now = omega (arith, c.loop-left.invariant.within, c.loop-left-test.true) in
    let some : 0 < many_sets q = subst (λ p. 0 < many_sets p) (sym c.index-parts-left.is) (some_sets c.args.parts.now (c.loop-left.left - 1) q (omega (arith, c.requires.number)) below) in
    omega (arith, some, c.len-count.ensures)

pub shown-requires : goal.shown-requires
shown-requires c =
    let q = c.index-parts-left.result in
    let below : c.loop-left.left - 1 < length c.args.parts.now = omega (arith, c.loop-left.invariant.within, c.loop-left-test.true) in
    let some : 0 < many_sets q = subst (λ p. 0 < many_sets p) (sym c.index-parts-left.is) (some_sets c.args.parts.now (c.loop-left.left - 1) q (omega (arith, c.requires.number)) below) in
    subst (λ n. c.loop-left.rest % n < many_sets q) (sym c.len-count.ensures) (mod-lt c.loop-left.rest some)

pub lay-requires-clause-cells : goal.lay-requires-clause-cells
lay-requires-clause-cells c k d on =
    let q = c.index-parts-left.result in
    let at : ℕ = c.loop-left.rest % c.len-count.result in
    let below : c.loop-left.left - 1 < length c.args.parts.now = omega (arith, c.loop-left.invariant.within, c.loop-left-test.true) in
    let some : 0 < many_sets q = subst (λ p. 0 < many_sets p) (sym c.index-parts-left.is) (some_sets c.args.parts.now (c.loop-left.left - 1) q (omega (arith, c.requires.number)) below) in
    let less : at < many_sets q = subst (λ n. c.loop-left.rest % n < many_sets q) (sym c.len-count.ensures) (mod-lt c.loop-left.rest some) in
    let sized : IsSized (length c.args.fitting.now) q = subst (IsSized (length c.args.fitting.now)) (sym c.index-parts-left.is) (c.requires.sized (c.loop-left.left - 1) q below) in
    let long : length c.shown.result.now ≡ length c.args.fitting.now = ap length c.shown.ensures.exact ∙ sized.sets at (record { entries = []; shown = [] }) less in
    omega (arith, sized.cells k d on, long)

pub lay-requires-clause-long : goal.lay-requires-clause-long
lay-requires-clause-long c =
    let q = c.index-parts-left.result in
    let at : ℕ = c.loop-left.rest % c.len-count.result in
    let below : c.loop-left.left - 1 < length c.args.parts.now = omega (arith, c.loop-left.invariant.within, c.loop-left-test.true) in
    let some : 0 < many_sets q = subst (λ p. 0 < many_sets p) (sym c.index-parts-left.is) (some_sets c.args.parts.now (c.loop-left.left - 1) q (omega (arith, c.requires.number)) below) in
    let less : at < many_sets q = subst (λ n. c.loop-left.rest % n < many_sets q) (sym c.len-count.ensures) (mod-lt c.loop-left.rest some) in
    let sized : IsSized (length c.args.fitting.now) q = subst (IsSized (length c.args.fitting.now)) (sym c.index-parts-left.is) (c.requires.sized (c.loop-left.left - 1) q below) in
    c.loop-left.invariant.long ∙ sym (ap length c.shown.ensures.exact ∙ sized.sets at (record { entries = []; shown = [] }) less)

pub loop-left-preserved : goal.loop-left-preserved
loop-left-preserved c =
    let a = c.args in
    let q = c.index-parts-left.result in
    let left : ℕ = c.loop-left.left - 1 in
    let at : ℕ = c.loop-left.rest % c.len-count.result in
    let next : c.loop-left.left ≡ left + 1 = omega (arith, c.loop-left-test.true) in
    let below : left < length a.parts.now = omega (arith, c.loop-left.invariant.within, c.loop-left-test.true) in
    let some : 0 < many_sets q = subst (λ p. 0 < many_sets p) (sym c.index-parts-left.is) (some_sets a.parts.now left q (omega (arith, c.requires.number)) below) in
    let less : at < many_sets q = subst (λ n. c.loop-left.rest % n < many_sets q) (sym c.len-count.ensures) (mod-lt c.loop-left.rest some) in
    subst (λ n. IsLaidFrom a.fitting.now a.parts.now a.number left (c.loop-left.rest / n) c.lay.new.values.items) (sym c.len-count.ensures)
    (laid_next a.fitting.now a.parts.now a.number left c.loop-left.rest c.loop-left.values.items q
    (subst (λ n. IsLaidFrom a.fitting.now a.parts.now a.number n c.loop-left.rest c.loop-left.values.items) next c.loop-left.invariant) below c.index-parts-left.is at
    (ap (λ n. c.loop-left.rest % n) c.len-count.ensures) less c.lay.new.values.items (c.lay.ensures ∙ ap (laid_over c.loop-left.values.items q.cells.now) c.shown.ensures.exact))

pub returns : goal.returns
returns c =
    laid_all c.args.fitting.now c.args.parts.now c.args.number c.loop-left.left c.loop-left.rest c.loop-left.values.items c.loop-left.invariant c.loop-left-test.false c.requires.number ∙ ap Some (sym c.new.ensures)
