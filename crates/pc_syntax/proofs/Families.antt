-- What words derive, as the readers of lines use it.
use Rattle.std.proofs.Common.{◌≡◌, ℕ, ℤ, ◌<◌, List, [], ◌∷◌, length, refl, ap, ◌∙◌}
use Rattle.pc_token.specs.declared.token.Kind.TheVariants.{Colon}
use Rattle.pc_formula.specs.Word.{Word, name, sign, nesting}
use Rattle.pc_formula.specs.Tree.{Formula, Cell, Value}
use Rattle.pc_formula.specs.Front.{StopsLevel}
use Rattle.pc_formula.specs.Value.{DerivesName, DerivesNumber, a_number, DerivesInt, natural, negative, DerivesValue, DerivesCell, InParentheses, Arguments}
use Rattle.pc_formula.specs.Grammar.{IsFormula, whole}
use Rattle.pc_formula.proofs.Lists.{enclosed_once, arguments_once}
use Rattle.pc_formula.proofs.ValueForms.{name_once, value_once, cell_once, int_no_name}
use Rattle.pc_formula.proofs.Sizes.{sized}
use Rattle.pc_syntax.specs.Sized.{too_many, IsSized}

-- ---- what is derived once, by the signs behind it

pub one_cell : (ws : List Word) (c d : Cell) (r s : List Word) → StopsLevel 1 r → StopsLevel 1 s → DerivesCell ws c r → DerivesCell ws d s → (c ≡ d) × (r ≡ s)
one_cell ws c d r s p q a b = cell_once ws c d r s a b p q

pub one_list_of_names : (ws : List Word) (xs ys : List (List ℕ)) (r s : List Word) → InParentheses DerivesName ws xs r → InParentheses DerivesName ws ys s → (xs ≡ ys) × (r ≡ s)
one_list_of_names ws xs ys r s a b = enclosed_once DerivesName name_once ws xs ys r s a b

pub one_list_of_values : (ws : List Word) (xs ys : List Value) (r s : List Word) → InParentheses DerivesValue ws xs r → InParentheses DerivesValue ws ys s → (xs ≡ ys) × (r ≡ s)
one_list_of_values ws xs ys r s a b = enclosed_once DerivesValue value_once ws xs ys r s a b

pub one_arguments : (ws : List Word) (xs ys : List (List ℕ)) (r s : List Word) → StopsLevel 1 r → StopsLevel 1 s → Arguments DerivesName ws xs r → Arguments DerivesName ws ys s → (xs ≡ ys) × (r ≡ s)
one_arguments ws xs ys r s p q a b = arguments_once DerivesName name_once ws xs ys r s a b p q

-- ---- how an integer starts

-- no integer starts with a name
pub no_int_of_name : (ws : List Word) (text : List ℕ) (more : List Word) (n : ℤ) (r : List Word) → ws ≡ name text ∷ more → DerivesInt ws n r → ⊥
no_int_of_name ws text more n r is d = int_no_name ws n r d text more is

no_number_of_none : (ws : List Word) (n : ℕ) (r : List Word) → ws ≡ [] → DerivesNumber ws n r → ⊥
no_number_of_none ws n r is (a_number digits) = cc

pub no_int_of_none : (ws : List Word) (n : ℤ) (r : List Word) → ws ≡ [] → DerivesInt ws n r → ⊥
no_int_of_none ws n r is (natural {n = m} d) = no_number_of_none ws m r is d
no_int_of_none ws n r is (negative d) = cc

-- ---- how many and how deep

pub sized_formula : (ws : List Word) (f : Formula) → IsFormula ws f → length ws < too_many → IsSized f
sized_formula ws f is few = sized whole ws f [] is few

pub nesting_of_one : (text : List ℕ) → nesting (name text ∷ []) ≡ 0
nesting_of_one text = refl

pub nesting_of_rule : (keyword n : List ℕ) (ws rest : List Word) → ws ≡ name n ∷ sign Colon ∷ rest → nesting (name keyword ∷ ws) ≡ nesting rest
nesting_of_rule keyword n ws rest is = ap (λ l. nesting (name keyword ∷ l)) is ∙ (refl)
