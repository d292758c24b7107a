-- What is left of worlds without an entry.
use Rattle.std.proofs.Common.{◌≡◌, ◌≢◌, ℕ, zero, suc, ◌<◌, ◌+◌, inl, inr, false, List, [], ◌∷◌, map, length, slice_get, arith, ap, refl}
use Rattle.pc_sheet.specs.MaximalSets.{IsContained}
use Rattle.pc_sheet.specs.declared.ids.ValueId.{ValueId}
use Rattle.pc_laws.specs.Examples.{red, green, entry}
use Rattle.pc_world_list.specs.Worlds.{WorldView, set_at, IsCoveredBy, world_without, IsWithout}
use Rattle.pc_world_list.proofs.Once.{one_without}
use Rattle.pc_worked_laws.specs.Worlds.{with_red, with_green, pair_world, four_worlds, last_two, nothing_with, soon_equal, covered, WorkedWithout}
use Rattle.pc_worked_laws.proofs.Computing.{are_among, contained, not_contained}

abbrev left : List WorldView
left = map (world_without (entry 0 red)) four_worlds

-- what was the first or second lies within the third or fourth, and these stay
last_cover : (j : ℕ) → j < length left → (k : ℕ) × (k < length last_two) × IsCoveredBy left j (k + 2)
last_cover zero lt = (0, omega arith, (contained (set_at left 0) (set_at left 2) refl, inl (not_contained (set_at left 2) (set_at left 0) refl)))
last_cover (suc zero) lt = (1, omega arith, (contained (set_at left 1) (set_at left 3) refl, inl (not_contained (set_at left 3) (set_at left 1) refl)))
last_cover (suc (suc zero)) lt = (0, omega arith, (λ e c. c, inr (omega arith)))
last_cover (suc (suc (suc zero))) lt = (1, omega arith, (λ e c. c, inr (omega arith)))
last_cover (suc (suc (suc (suc j)))) lt = absurd (omega (arith, lt))

last_kept : (k : ℕ) → k < length last_two → slice_get last_two k ≡ slice_get left (k + 2)
last_kept zero lt = refl
last_kept (suc zero) lt = refl
last_kept (suc (suc k)) lt = absurd (omega (arith, lt))

abbrev AreApart : List WorldView → Type 0
AreApart after = (k l : ℕ) → k < length after → l < length after → k ≢ l → ¬ IsContained (set_at after k) (set_at after l)

-- two worlds of which neither lies within the other
two_apart : (v w : WorldView) → are_among w.entries v.entries ≡ false → are_among v.entries w.entries ≡ false → AreApart (v ∷ w ∷ [])
two_apart v w first second zero zero k_lt l_lt other = absurd (other refl)
two_apart v w first second zero (suc zero) k_lt l_lt other = not_contained v.entries w.entries first
two_apart v w first second (suc zero) zero k_lt l_lt other = not_contained w.entries v.entries second
two_apart v w first second (suc zero) (suc zero) k_lt l_lt other = absurd (other refl)
two_apart v w first second zero (suc (suc l)) k_lt l_lt other = absurd (omega (arith, l_lt))
two_apart v w first second (suc zero) (suc (suc l)) k_lt l_lt other = absurd (omega (arith, l_lt))
two_apart v w first second (suc (suc k)) l k_lt l_lt other = absurd (omega (arith, k_lt))

last_stay : IsWithout (entry 0 red) four_worlds last_two
last_stay = record {
  place = λ k. k + 2;
  within = λ k lt. omega (arith, lt);
  kept = last_kept;
  rises = λ k l lt later. omega (arith, lt);
  covers = last_cover;
  apart = two_apart (pair_world (entry 1 green) (entry 2 red)) (pair_world (entry 1 green) (entry 3 green)) refl refl;
}

-- ---- two sets that become equal

abbrev equal_left : List WorldView
equal_left = map (world_without (entry 0 red)) soon_equal

first_cover : (j : ℕ) → j < length equal_left → (k : ℕ) × (k < 1) × IsCoveredBy equal_left j 0
first_cover zero lt = (0, omega arith, (λ e c. c, inr (omega arith)))
first_cover (suc zero) lt = (0, omega arith, (λ e c. c, inr (omega arith)))
first_cover (suc (suc j)) lt = absurd (omega (arith, lt))

first_kept : (k : ℕ) → k < 1 → slice_get (nothing_with red ∷ []) k ≡ slice_get equal_left 0
first_kept zero lt = refl
first_kept (suc k) lt = absurd (omega (arith, lt))

first_stays : IsWithout (entry 0 red) soon_equal (nothing_with red ∷ [])
first_stays = record {
  place = λ k. 0;
  within = λ k lt. omega arith;
  kept = first_kept;
  rises = λ k l lt later. absurd (omega (arith, lt, later));
  covers = first_cover;
  apart = λ k l k_lt l_lt other. absurd (other (omega (arith, k_lt, l_lt)));
}

abbrev first_value : List WorldView → ℕ
first_value [] = 2
first_value (w ∷ ws) = value_of w.shown
  where
    value_of : List ValueId → ℕ
    value_of [] = 2
    value_of (v ∷ vs) = v.0

later_goes : ¬ IsWithout (entry 0 red) soon_equal (nothing_with green ∷ [])
later_goes h = omega (arith, ap first_value (one_without (entry 0 red) soon_equal (nothing_with red ∷ []) (nothing_with green ∷ []) first_stays h))

-- ---- an entry that no set has

abbrev two : List WorldView
two = with_red ∷ with_green ∷ []

each_cover : (j : ℕ) → j < length two → (k : ℕ) × (k < length two) × IsCoveredBy two j k
each_cover j lt = (j, lt, (λ e c. c, inr (omega arith)))

each_kept : (k : ℕ) → k < length two → slice_get two k ≡ slice_get two k
each_kept k lt = refl

both_stay : IsWithout (entry 0 green) two two
both_stay = record {
  place = λ k. k;
  within = λ k lt. lt;
  kept = each_kept;
  rises = λ k l lt later. lt;
  covers = each_cover;
  apart = two_apart with_red with_green refl refl;
}

-- ---- a set within another

none_within : ¬ IsWithout (entry 0 red) four_worlds (covered ∷ last_two)
none_within h = h.apart 0 1 (omega arith) (omega arith) (λ is. omega (arith, is)) (contained (entry 2 red ∷ []) (entry 1 green ∷ entry 2 red ∷ []) refl)

pub without : WorkedWithout
without = record { within_others = last_stay; first_of_equal = first_stays; not_the_later = later_goes; of_none = both_stay; none_within = none_within }
