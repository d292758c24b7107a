-- What `!=`, the connectives and counters say, and what parts of a rule they keep together.
use Rattle.std.specs.Prelude.{◌≡◌, ℕ, pos, List, [], ◌∷◌, codes}
use Rattle.pc_name.specs.declared.sign.Op.TheVariants.{Eq, Ne}
use Rattle.pc_sheet.specs.Sheet.{Sheet, number, constant, Statement, compare, negation, implies, iff, counts, no_more_than, no_fewer_than, of_first}
use Rattle.pc_laws.specs.Examples.{red, is_color}
use Rattle.pc_laws.specs.Truths.{sort, x, y, left, right, single, after_left, IsTrueHere}
use Rattle.pc_laws.specs.Weights.{both, either}
use Rattle.pc_parts.specs.Examples.{cells_by_part, pieces_by_part, two_reds, blocks, slot_of}

-- ---- truth: x is 1, y(left) is 0 and y(right) is 2

-- x = 1, which is so
abbrev pub so : Statement
so = compare (single x) Eq (single (number (pos 1)))

-- y(left) = 1, which isn't
abbrev pub not_so : Statement
not_so = compare (single (y left)) Eq (single (number (pos 1)))

-- of the first i blocks at least j come after the left one
abbrev pub come_after : ℕ → ℕ → ℕ → Statement
come_after m i j = counts (of_first m i j) (codes "b") (sort 1) after_left

pub record WorkedConnectives : Type 0 where
  -- x != y(right), and not x != 1
  pub other_number : IsTrueHere (compare (single x) Ne (single (y right)))
  pub same_number : ¬ IsTrueHere (compare (single x) Ne (single (number (pos 1))))
  -- left != right, and not left != left
  pub other_value : IsTrueHere (compare (single left) Ne (single right))
  pub same_value : ¬ IsTrueHere (compare (single left) Ne (single left))
  pub neither_so : ¬ IsTrueHere not_so
  pub negated : IsTrueHere (negation not_so)
  pub and_both : IsTrueHere (both so so)
  pub and_first : ¬ IsTrueHere (both so not_so)
  pub and_second : ¬ IsTrueHere (both not_so so)
  pub or_first : IsTrueHere (either so not_so)
  pub or_second : IsTrueHere (either not_so so)
  pub or_none : ¬ IsTrueHere (either not_so not_so)
  -- false only where what implies is so and what is implied isn't
  pub implies_both : IsTrueHere (implies so so)
  pub implies_first : ¬ IsTrueHere (implies so not_so)
  pub implies_second : IsTrueHere (implies not_so so)
  pub implies_none : IsTrueHere (implies not_so not_so)
  pub iff_both : IsTrueHere (iff so so)
  pub iff_first : ¬ IsTrueHere (iff so not_so)
  pub iff_second : ¬ IsTrueHere (iff not_so so)
  pub iff_none : IsTrueHere (iff not_so not_so)

-- a counter is of its first values alone, and asks whatever its quantifier's threshold is
pub record WorkedCounterTruths : Type 0 where
  pub of_left_alone : ¬ IsTrueHere (come_after 1 1 1)
  pub of_both : IsTrueHere (come_after 1 2 1)
  pub of_both_for_two : IsTrueHere (come_after 2 2 1)
  pub not_two : ¬ IsTrueHere (come_after 2 2 2)
  pub of_none : ¬ IsTrueHere (come_after 1 0 1)

-- ---- pieces: what is negated, implied, equivalent or counted is one

abbrev pub a_red : Statement
a_red = is_color 0 red

abbrev pub b_red : Statement
b_red = is_color 1 red

-- how many blocks begin with red is at most one, or at least one
abbrev pub few_red : Sheet
few_red = record blocks { rules = record { name = codes "few"; states = counts (no_more_than 1) (codes "b") (sort 0) (compare (slot_of 0) Eq (single (constant (sort 2) red))) } ∷ [] }

abbrev pub enough_red : Sheet
enough_red = record blocks { rules = record { name = codes "enough"; states = counts (no_fewer_than 1) (codes "b") (sort 0) (compare (slot_of 0) Eq (single (constant (sort 2) red))) } ∷ [] }

-- the cells of the first slots, and each other one
abbrev pub first_slots : List (List ℕ)
first_slots = (0 ∷ 4 ∷ []) ∷ (1 ∷ []) ∷ (2 ∷ []) ∷ (3 ∷ []) ∷ (5 ∷ []) ∷ (6 ∷ []) ∷ (7 ∷ []) ∷ []

pub record WorkedPieces : Type 0 where
  -- !(a = red & b = red), though the conjunction by itself is taken apart
  pub negated : cells_by_part (two_reds (negation (both a_red b_red))) ≡ (0 ∷ 1 ∷ []) ∷ []
  pub negated_pieces : pieces_by_part (two_reds (negation (both a_red b_red))) ≡ 1 ∷ []
  pub implied : cells_by_part (two_reds (implies a_red b_red)) ≡ (0 ∷ 1 ∷ []) ∷ []
  pub implied_pieces : pieces_by_part (two_reds (implies a_red b_red)) ≡ 1 ∷ []
  pub equivalent : cells_by_part (two_reds (iff a_red b_red)) ≡ (0 ∷ 1 ∷ []) ∷ []
  pub equivalent_pieces : pieces_by_part (two_reds (iff a_red b_red)) ≡ 1 ∷ []
  -- a conjunction in a disjunction stays too
  pub in_disjunction : cells_by_part (two_reds (either (both a_red b_red) a_red)) ≡ (0 ∷ 1 ∷ []) ∷ []
  pub at_most : cells_by_part few_red ≡ first_slots
  pub at_most_pieces : pieces_by_part few_red ≡ 1 ∷ 0 ∷ 0 ∷ 0 ∷ 0 ∷ 0 ∷ 0 ∷ []
  pub at_least : cells_by_part enough_red ≡ first_slots
  pub at_least_pieces : pieces_by_part enough_red ≡ 1 ∷ 0 ∷ 0 ∷ 0 ∷ 0 ∷ 0 ∷ 0 ∷ []
