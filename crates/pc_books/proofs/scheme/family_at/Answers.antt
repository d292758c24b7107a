use Rattle.std.proofs.Common.{arith, ◌+◌, ◌-◌, ◌/◌, ◌<◌, ap, take, sum_by, length}
use Rattle.pc_sheet.specs.Sizes.{cells_in}
use Rattle.pc_books.specs.SchemeView.{universe_of}
use Rattle.pc_books.proofs.CountLemmas.{count_past, first_is, some_before}
use Rattle.pc_books.proofs.scheme.family_at.Goals as goal

pub loop-high-init : goal.loop-high-init
loop-high-init c =
    let s = c.args.scheme.now in
    let u = universe_of s in
    let all = count_past u s.families.items s.cells c.len-high.result (omega arith) c.requires.sound.counted in
    let before : c.args.cell < sum_by (cells_in u) (take c.len-high.result u.families) = omega (arith, all, c.requires.cell) in
    record {
      order = some_before u u.families c.len-high.result c.args.cell before;
      within = omega arith;
      after = omega arith;
      before = before;
    }

pub loop-high-preserved-then-index-cell : goal.loop-high-preserved-then-index-cell
loop-high-preserved-then-index-cell c =
    let s = c.args.scheme.now in
    let u = universe_of s in
    let l = c.loop-high in
    let middle = l.low + (l.high - l.low) / 2 in
    let within : middle < length s.families.items = omega (arith, l.invariant.within, l.invariant.order) in
    let first = first_is u 0 s.families.items s.cells middle c.index.result.now within c.requires.sound.counted in
    let at = ap (λ d. d.first) c.index.ensures in
    record {
      order = omega (arith, l.invariant.order);
      within = l.invariant.within;
      after = omega (arith, first, at, c.if-index-cell.true);
      before = l.invariant.before;
    }

pub loop-high-preserved : goal.loop-high-preserved
loop-high-preserved c =
    let s = c.args.scheme.now in
    let u = universe_of s in
    let l = c.loop-high in
    let middle = l.low + (l.high - l.low) / 2 in
    let within : middle < length s.families.items = omega (arith, l.invariant.within, l.invariant.order) in
    let first = first_is u 0 s.families.items s.cells middle c.index.result.now within c.requires.sound.counted in
    let at = ap (λ d. d.first) c.index.ensures in
    record {
      order = omega (arith, l.invariant.order, c.loop-high-test.true);
      within = omega (arith, within);
      after = l.invariant.after;
      before = omega (arith, first, at, c.if-index-cell.false);
    }
