-- Counts of values, computed.
use Rattle.std.proofs.Common.{◌≡◌, inl, inr, arith, refl}
use Rattle.pc_sheet.specs.Truth.{AtLeast}
use Rattle.pc_worked_laws.specs.Counting.{IsSecond, WorkedCounts, WorkedBounds, WorkedCountWeights}

none_of_none : ¬ AtLeast IsSecond 0 1
none_of_none h = h

none_of_one : ¬ AtLeast IsSecond 1 1
none_of_one (inl h) = h
none_of_one (inr h) = let second : 0 ≡ 1 = h.1 in omega (arith, second)

no_two_of_one : ¬ AtLeast IsSecond 1 2
no_two_of_one (inl h) = h
no_two_of_one (inr h) = let second : 0 ≡ 1 = h.1 in omega (arith, second)

no_two : ¬ AtLeast IsSecond 2 2
no_two (inl h) = no_two_of_one h
no_two (inr h) = none_of_one h.0

pub worked_counts : WorkedCounts
worked_counts = record {
  one_of_two = inr (tt, refl);
  one_of_three = inl (inr (tt, refl));
  one_of_one = none_of_one;
  one_of_none = none_of_none;
  none_of_none = tt;
  two_of_two = no_two;
  at_most_one = no_two;
  at_most_none = λ h. h (inr (tt, refl));
  at_most_none_of_one = none_of_one;
  at_least_one = inr (tt, refl);
  at_least_two = no_two;
  of_first_two = inr (tt, refl);
  of_first_one = none_of_one;
}

pub worked_bounds : WorkedBounds
worked_bounds = record {
  at_most_zero = omega arith;
  most_at_most = omega arith;
  past_at_most = λ few. omega (arith, few);
  at_least_zero = λ b. let some = b.0 in omega (arith, some);
  least_at_least = (omega arith, omega arith);
  most_at_least = (omega arith, omega arith);
  past_at_least = λ b. let few = b.1 in omega (arith, few);
  counter = λ none. none;
}

pub worked_count_weights : WorkedCountWeights
worked_count_weights = record { no_value = refl; no_threshold = refl; one_of_one = refl; one_of_two = refl; two_of_one = refl; two_of_two = refl }
