-- That little is spent enough for the next call.
use Rattle.std.proofs.Common.{ℕ, ◌+◌, ◌-◌, ◌*◌, ◌<◌, ◌≤◌, ◌^◌, List, length, ap, refl, arith}
use Rattle.std.proofs.Math.Nat.{mul-le-mul_left}
use Rattle.std.specs.Prelude.{min}
use Rattle.pc_ask.specs.inside.Ways.{most_tried}
use Rattle.pc_lits.specs.declared.tally.Tally.{Tally}
use Rattle.pc_log.specs.Lines.{LogLine}
use Rattle.pc_solver.specs.Solver.{SolverView}
use Rattle.pc_solver.specs.Spending.{GoesOnFor}
use Rattle.pc_solver.proofs.SpendingLemmas.{goes_further, goes_none, once_more, up_to_all}

-- what goes on for so many calls does for more
pub goes_within : (few most : ℕ) (s new : SolverView) (a b : Tally) (log grown : List LogLine) → few ≤ most → GoesOnFor few s new a b log grown → GoesOnFor most s new a b log grown
goes_within few most s new a b log grown less h = goes_further few 0 most s new new a b b log grown grown (omega (arith, less)) h (goes_none 0 new b grown h.logged)

pub room_left : (most low high : ℕ) (s new : SolverView) (a b : Tally) (log grown : List LogLine) → GoesOnFor most s new a b log grown → a.limit < 2 ^ 64 → most < 2 ^ 114 → low + 2 ^ 115 ≤ high
    → (a.learned < low) × (a.calls < low) → (b.learned < high) × (b.calls < high)
room_left most low high s new a b log grown goes limit few room less =
    let spends = goes.spends in (
      omega (arith, spends.learned, spends.spare, spends.few, ap (λ (x : ℕ). x) spends.limit, b.within_limit, limit, few, room, less.0),
      omega (arith, spends.calls, spends.few, few, room, less.1),
    )

-- no more than 2^64 ways are gone over
pub tried_few : {X : Type 0} (all : List X) → min (length all) most_tried < 2 ^ 64
tried_few all = omega arith

-- so many calls for each of few entries
few_together : (sets places : ℕ) → sets < 2 ^ 64 → places < 2 ^ 48 → sets * places < 2 ^ 114
few_together sets places few less =
    let most : sets * places ≤ sets * 2 ^ 48 = mul-le-mul_left sets (omega (arith, less)) in
    omega (arith, most, few)

pub few_left : (sets places place : ℕ) → sets < 2 ^ 64 → places < 2 ^ 48 → sets * (places - place) < 2 ^ 114
few_left sets places place few less =
    let most : sets * (places - place) ≤ sets * places = up_to_all sets places place in
    let bound : sets * places < 2 ^ 114 = few_together sets places few less in
    omega (arith, most, bound)

pub once_at_least : (sets places : ℕ) → sets ≤ sets * (places + 1)
once_at_least sets places =
    let most : sets + sets * places ≤ sets * (places + 1) = once_more sets places sets places refl refl in
    omega (arith, most)
