use Rattle.std.proofs.Common.{◌-◌, ◌<◌, ◌≤◌, length, take, sum_by}
use Rattle.pc_sheet.specs.Sizes.{cells_in}
use Rattle.pc_books.specs.SchemeView.{universe_of}
use Rattle.pc_books.proofs.scheme.family_at.Given as goal

abbrev pub invariant-loop-high : goal.invariant-loop-high
invariant-loop-high l =
    let u = universe_of l.scheme in
    record {
      order : l.low < l.high;
      within : l.high ≤ length l.scheme.families.items;
      after : sum_by (cells_in u) (take l.low u.families) ≤ l.cell;
      before : l.cell < sum_by (cells_in u) (take l.high u.families);
    }

abbrev pub decreases-loop-high : goal.decreases-loop-high
decreases-loop-high l = l.high - l.low
