-- Worked faults of small formulas.
use Rattle.std.proofs.Common.{◌≡◌, ℕ, zero, suc, true, false, pos, ◌≤ℤ◌, List, [], ◌∷◌, get_or, ap, arith, refl, inl, inr}
use Rattle.std.proofs.lemmas.Int.{ints}
use Rattle.pc_elaborate.specs.FormulaFaults.{IsDeclared, IsAround, IsSmallCount}
use Rattle.pc_elaborate.specs.Examples.{c, p, z, colours, AreWorkedFaults}

-- two names of one byte are different
apart : (x y : ℕ) → (x ≡ y → ⊥) → ◌≡◌ {A = List ℕ} (x ∷ []) (y ∷ []) → ⊥
apart x y differ e = differ (ap (λ (xs : List ℕ). get_or xs 0 0) e)

no_z : ¬ IsDeclared colours z
no_z (zero, l, e) = apart 99 122 (λ h. omega arith) e
no_z (suc zero, l, e) = apart 114 122 (λ h. omega arith) e
no_z (suc (suc zero), l, e) = apart 103 122 (λ h. omega arith) e
no_z (suc (suc (suc zero)), l, e) = apart 112 122 (λ h. omega arith) e
no_z (suc (suc (suc (suc k))), l, e) = omega arith

not_bound : (n : List ℕ) → ¬ IsAround [] n
not_bound n (k, l, e) = omega arith

declares_c : IsDeclared colours c
declares_c = (0, omega arith, refl)

declares_p : IsDeclared colours p
declares_p = (3, omega arith, refl)

too_large : pos 1000001 ≤ℤ pos 1000000 → ⊥
too_large h = omega (arith, ints, h)

no_more_than_255 : ¬ IsSmallCount true (pos 256)
no_more_than_255 h = omega (arith, ints, h.1, h.2)

no_fewer_than_1 : ¬ IsSmallCount false (pos 0)
no_fewer_than_1 h = omega (arith, ints, h.1, h.2.0)

pub worked_faults : AreWorkedFaults
worked_faults = record {
  left_first = inl (inl (inl (inl ((λ h. elim h [ inl a ↦ not_bound z a | inr b ↦ no_z b ]), refl))));
  left_first_again = inl (inl (inl (inr (inr declares_c, inl ((λ h. h (inl (record { 0 = 0 }, refl))), refl)))));
  hiding = inr (omega arith, inl ((λ free. free (inl declares_p)), refl));
  unknown_sort = inr (omega arith, inr ((λ h. elim h [ inl a ↦ no_z a | inr b ↦ not_bound z b ]), inl (inl (no_z, refl))));
  many = inl (no_more_than_255, refl);
  none = inl (no_fewer_than_1, refl);
  most = inr ((256, refl, (omega arith, omega arith)), inr (omega arith, inr ((λ h. elim h [ inl a ↦ no_z a | inr b ↦ not_bound z b ]), inl (inl (no_z, refl)))));
  large = inl (inl (inl ((λ small. too_large small.1), refl)));
}
