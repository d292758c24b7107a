-- Connectives, counters and pieces, computed.
use Rattle.std.proofs.Common.{◌≡◌, ◌≢◌, ◌⊎◌, ℕ, zero, suc, inl, inr, List, [], ◌∷◌, Contains, arith, ap, refl}
use Rattle.std.proofs.lemmas.Int.{ints}
use Rattle.pc_sheet.specs.Truth.{AtLeast}
use Rattle.pc_sheet.specs.declared.ids.ValueId.{ValueId}
use Rattle.pc_laws.specs.Truths.{place, IsTrueHere}
use Rattle.pc_worked_laws.specs.Connectives.{so, not_so, WorkedConnectives, WorkedCounterTruths, WorkedPieces}

-- ---- connectives

is_so : IsTrueHere so
is_so = refl

isnt_so : ¬ IsTrueHere not_so
isnt_so h = absurd (omega (arith, ints, h))

left_not_right : place 0 ≢ place 1
left_not_right is = let number : ValueId → ℕ = λ v. v.0 in let numbers : number (place 0) ≡ number (place 1) = ap number is in absurd (omega (arith, numbers))

pub worked_connectives : WorkedConnectives
worked_connectives = record {
  other_number = λ h. absurd (omega (arith, ints, h));
  same_number = λ h. h refl;
  other_value = (refl, left_not_right);
  same_value = λ h. h.1 refl;
  neither_so = isnt_so;
  negated = isnt_so;
  and_both = (is_so, (is_so, tt));
  and_first = λ h. isnt_so h.1.0;
  and_second = λ h. isnt_so h.0;
  or_first = inl is_so;
  or_second = inr (inl is_so);
  or_none = none;
  implies_both = λ h. h;
  implies_first = λ h. isnt_so (h is_so);
  implies_second = λ h. is_so;
  implies_none = λ h. h;
  iff_both = (λ h. h, λ h. h);
  iff_first = λ h. isnt_so (h.0 is_so);
  iff_second = λ h. isnt_so (h.1 is_so);
  iff_none = (λ h. h, λ h. h);
}
  where
    none : ¬ (IsTrueHere not_so ⊎ (IsTrueHere not_so ⊎ ⊥))
    none (inl h) = isnt_so h
    none (inr (inl h)) = isnt_so h
    none (inr (inr h)) = h

-- ---- counters

abbrev rows : List (List ValueId)
rows = (place 0 ∷ place 1 ∷ []) ∷ []

abbrev second : List ValueId → ℕ
second [] = 2
second (v ∷ []) = 2
second (v ∷ w ∷ vs) = w.0

only_row : (r : List ValueId) → Contains rows r → place 0 ∷ place 1 ∷ [] ≡ r
only_row r (zero, l, is) = is
only_row r (suc k, l, is) = absurd (omega (arith, l))

not_itself : ¬ Contains rows (place 0 ∷ place 0 ∷ [])
not_itself h = absurd (omega (arith, ap second (only_row (place 0 ∷ place 0 ∷ []) h)))

abbrev IsAfter : ValueId → Type 0
IsAfter b = Contains rows (place 0 ∷ b ∷ [])

left_alone : ¬ AtLeast IsAfter 1 1
left_alone (inl h) = h
left_alone (inr h) = not_itself h.1

not_two : ¬ AtLeast IsAfter 2 2
not_two (inl (inl h)) = h
not_two (inl (inr h)) = h.0
not_two (inr (inl h, last)) = h
not_two (inr (inr h, last)) = not_itself h.1

pub worked_counter_truths : WorkedCounterTruths
worked_counter_truths = record {
  of_left_alone = left_alone;
  of_both = inr (tt, (0, omega arith, refl));
  of_both_for_two = inr (tt, (0, omega arith, refl));
  not_two = not_two;
  of_none = λ h. h;
}

-- ---- pieces

pub worked_pieces : WorkedPieces
worked_pieces = record {
  negated = refl;
  negated_pieces = refl;
  implied = refl;
  implied_pieces = refl;
  equivalent = refl;
  equivalent_pieces = refl;
  in_disjunction = refl;
  at_most = refl;
  at_most_pieces = refl;
  at_least = refl;
  at_least_pieces = refl;
}
