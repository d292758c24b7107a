-- Counts of lists piece by piece.
use Rattle.std.proofs.Common.{◌≡◌, ℕ, suc, ◌+◌, ◌≤◌, List, [], ◌∷◌, ◌++◌, length, arith, refl, ap, subst}
use Rattle.pc_spreadsheet.specs.Summary.{IsCount, none_left, counted, passed_over}

module _ {A : Type 0} (P : A → Type 0) where
  -- a list has one count
  pub one_count : (xs : List A) (m n : ℕ) → IsCount P xs m → IsCount P xs n → m ≡ n
  one_count [] m n none_left none_left = refl
  one_count (x ∷ xs) m n (counted {n = k} is more) (counted {n = j} there other) = ap suc (one_count xs k j more other)
  one_count (x ∷ xs) m n (counted is more) (passed_over not other) = absurd (not is)
  one_count (x ∷ xs) m n (passed_over not more) (counted is other) = absurd (not is)
  one_count (x ∷ xs) m n (passed_over not more) (passed_over there other) = one_count xs m n more other

  pub one_of : (x : A) → P x → IsCount P (x ∷ []) 1
  one_of x is = counted is none_left

  pub none_of : (x : A) → ¬ P x → IsCount P (x ∷ []) 0
  none_of x not = passed_over not none_left

  pub count_append : (xs ys : List A) (m n : ℕ) → IsCount P xs m → IsCount P ys n → IsCount P (xs ++ ys) (m + n)
  count_append [] ys m n none_left second = subst (IsCount P ys) (omega arith) second
  count_append (x ∷ xs) ys m n (counted {n = k} is first) second =
      let next : suc (k + n) ≡ suc k + n = omega arith in
      subst (IsCount P (x ∷ (xs ++ ys))) next (counted is (count_append xs ys k n first second))
  count_append (x ∷ xs) ys m n (passed_over not first) second = passed_over not (count_append xs ys m n first second)

  -- one more at the end
  pub count_one : (xs : List A) (x : A) (n : ℕ) → IsCount P xs n → P x → IsCount P (xs ++ x ∷ []) (n + 1)
  count_one xs x n before is = count_append xs (x ∷ []) n 1 before (one_of x is)

  pub count_none : (xs : List A) (x : A) (n : ℕ) → IsCount P xs n → ¬ P x → IsCount P (xs ++ x ∷ []) n
  count_none xs x n before not =
      let same : n + 0 ≡ n = omega arith in
      subst (IsCount P (xs ++ x ∷ [])) same (count_append xs (x ∷ []) n 0 before (none_of x not))

  pub count_few : (xs : List A) (n : ℕ) → IsCount P xs n → n ≤ length xs
  count_few [] n none_left = omega arith
  count_few (x ∷ xs) n (counted {n = k} is more) = omega (arith, count_few xs k more)
  count_few (x ∷ xs) n (passed_over not more) = omega (arith, count_few xs n more)
