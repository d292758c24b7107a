-- When a line asks a formula too deep.
use Rattle.std.proofs.Common.{◌≡◌, ◌↔◌, ℕ, ◌<◌, List, ◌∷◌, IsTrue, true, false, nat_lt, refl, sym, ap, subst, arith, ◌∙◌}
use Rattle.std.specs.Prelude.{codes}
use Rattle.std.proofs.lemmas.Bool.Decides.{nat_tests}
use Rattle.pc_formula.specs.Word.{Word, name, nesting, HasNoName}
use Rattle.pc_syntax.specs.Command.{IsDeepAsk}

not_true : IsTrue false → ⊥
not_true t = absurd (cc)

pub no_name_is_shallow : (ws new : List Word) → HasNoName ws new → (IsTrue false ↔ IsDeepAsk ws)
no_name_is_shallow ws new none = ((λ t. absurd (not_true t)), λ d. absurd (none.1 (codes "ask") d.rest d.words))

same_word : (s t : List ℕ) (xs ys : List Word) → name s ∷ xs ≡ name t ∷ ys → s ≡ t
same_word s t xs ys is = cc

pub other_is_shallow : (ws rest : List Word) (start : List ℕ) → ws ≡ name start ∷ rest → ¬ (start ≡ codes "ask") → (IsTrue false ↔ IsDeepAsk ws)
other_is_shallow ws rest start is other = ((λ t. absurd (not_true t)), λ d. absurd (other (same_word start (codes "ask") rest d.rest (sym is ∙ d.words))))

more_than : (n : ℕ) → nat_lt 126 n ≡ true → 126 < n
more_than n is = grind (arith, nat_tests)

is_more : (n : ℕ) → 126 < n → nat_lt 126 n ≡ true
is_more n more = grind (arith, nat_tests)

behind_name : (ws rest : List Word) (start : List ℕ) → ws ≡ name start ∷ rest → nesting ws ≡ nesting rest
behind_name ws rest start is = ap nesting is ∙ refl

pub deep_by_count : (ws rest : List Word) (start : List ℕ) (n : ℕ) → ws ≡ name start ∷ rest → start ≡ codes "ask" → n ≡ nesting rest → (IsTrue (nat_lt 126 n) ↔ IsDeepAsk ws)
deep_by_count ws rest start n is ask same = (
  λ t. record { rest = rest; words = is ∙ ap (λ s. name s ∷ rest) ask; deep = omega (arith, more_than n t, same, behind_name ws rest start is) },
  λ d. is_more n (omega (arith, d.deep, same, behind_name ws rest start is)),
)
