-- Counting of values, of which one is such, and what a quantifier may count.
use Rattle.std.specs.Prelude.{◌≡◌}
use Rattle.pc_sheet.specs.Sheet.{no_more_than, no_fewer_than, of_first}
use Rattle.pc_sheet.specs.Truth.{AtLeast, CountHolds}
use Rattle.pc_sheet.specs.WellSorted.{IsBound}
use Rattle.pc_sheet.specs.Weight.{count_weight}
use Rattle.pc_sheet.specs.declared.ids.ValueId.{ValueId}

-- the second value alone
abbrev pub IsSecond : ValueId → Type 0
IsSecond v = v.0 ≡ 1

pub record WorkedCounts : Type 0 where
  -- of the first two values one is such; of the first one none is, and of no values none
  pub one_of_two : AtLeast IsSecond 2 1
  pub one_of_three : AtLeast IsSecond 3 1
  pub one_of_one : ¬ AtLeast IsSecond 1 1
  pub one_of_none : ¬ AtLeast IsSecond 0 1
  pub none_of_none : AtLeast IsSecond 0 0
  -- it counts once
  pub two_of_two : ¬ AtLeast IsSecond 2 2
  -- at most and at least as many as said, and not fewer or more
  pub at_most_one : CountHolds (no_more_than 1) IsSecond 2
  pub at_most_none : ¬ CountHolds (no_more_than 0) IsSecond 2
  pub at_most_none_of_one : CountHolds (no_more_than 0) IsSecond 1
  pub at_least_one : CountHolds (no_fewer_than 1) IsSecond 2
  pub at_least_two : ¬ CountHolds (no_fewer_than 2) IsSecond 2
  -- a counter is of its own values, however many there are
  pub of_first_two : CountHolds (of_first 2 2 1) IsSecond 0
  pub of_first_one : ¬ CountHolds (of_first 2 1 1) IsSecond 2

pub record WorkedBounds : Type 0 where
  pub at_most_zero : IsBound (no_more_than 0)
  pub most_at_most : IsBound (no_more_than 255)
  pub past_at_most : ¬ IsBound (no_more_than 256)
  pub at_least_zero : ¬ IsBound (no_fewer_than 0)
  pub least_at_least : IsBound (no_fewer_than 1)
  pub most_at_least : IsBound (no_fewer_than 256)
  pub past_at_least : ¬ IsBound (no_fewer_than 257)
  -- no formula of a rule is a counter
  pub counter : ¬ IsBound (of_first 1 1 1)

-- how many literals the clauses of a quantifier and its counters have
pub record WorkedCountWeights : Type 0 where
  -- the node is true, or false
  pub no_value : count_weight 0 1 ≡ 1
  pub no_threshold : count_weight 1 0 ≡ 1
  -- the node is as its counter, and the counter as the body: four clauses of two literals
  pub one_of_one : count_weight 1 1 ≡ 8
  -- of both values one is such: only where one of the first is or the second is, and where either is
  pub one_of_two : count_weight 2 1 ≡ 15
  -- of the first value two are such: only where it is, and never
  pub two_of_one : count_weight 1 2 ≡ 11
  pub two_of_two : count_weight 2 2 ≡ 29
