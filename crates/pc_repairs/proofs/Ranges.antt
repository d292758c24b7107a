-- Numbers from zero on, one more.
use Rattle.std.proofs.Common.{◌≡◌, ℕ, zero, suc, ◌+◌, List, [], ◌∷◌, ◌++◌, map, arith, ap, sym, ◌∙◌}
use Rattle.std.specs.List.{range_with_len}
use Rattle.std.proofs.lemmas.List.{map_push}
use Rattle.pc_lits.specs.declared.literal.Var.{Var}
use Rattle.pc_theory.specs.WholeSpendings.{variable_of}

range_from : (a n j : ℕ) → a + n ≡ j → range_with_len a (suc n) ≡ range_with_len a n ++ j ∷ []
range_from a zero j is = ap (λ k. k ∷ []) (omega (arith, is))
range_from a (suc n) j is = ap (λ xs. a ∷ xs) (range_from (a + 1) n j (omega (arith, is)))

pub range_more : (n : ℕ) → range_with_len 0 (n + 1) ≡ range_with_len 0 n ++ n ∷ []
range_more n = let next : n + 1 ≡ suc n = omega arith in ap (range_with_len 0) next ∙ range_from 0 n n (omega arith)

pub mapped_more : {X : Type 0} (f : X → ℕ) (xs new : List X) (x : X) (n : ℕ) → new ≡ xs ++ x ∷ [] → f x ≡ n → map f xs ≡ range_with_len 0 n → map f new ≡ range_with_len 0 (n + 1)
mapped_more f xs new x n grown is h = ap (map f) grown ∙ map_push f xs x ∙ ap (λ k. map f xs ++ k ∷ []) is ∙ ap (λ ys. ys ++ n ∷ []) h ∙ sym (range_more n)

pub numbers_more : (xs new : List ℕ) (n : ℕ) → new ≡ xs ++ n ∷ [] → xs ≡ range_with_len 0 n → new ≡ range_with_len 0 (n + 1)
numbers_more xs new n grown h = grown ∙ ap (λ ys. ys ++ n ∷ []) h ∙ sym (range_more n)

pub variables_more : (old new : List Var) (n : ℕ) → new ≡ old ++ variable_of n ∷ [] → old ≡ map variable_of (range_with_len 0 n) → new ≡ map variable_of (range_with_len 0 (n + 1))
variables_more old new n is was = is ∙ ap (λ vs. vs ++ variable_of n ∷ []) was ∙ sym (map_push variable_of (range_with_len 0 n) n) ∙ ap (map variable_of) (sym (range_more n))
