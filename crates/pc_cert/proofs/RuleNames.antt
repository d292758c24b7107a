-- The rule that has a name, among rules with names of their own.
use Rattle.std.proofs.Common.{◌≡◌, ◌≢◌, ℕ, zero, suc, ◌+◌, ◌<◌, ◌≤◌, ◌↔◌, Bool, true, false, None, Some, List, [], ◌∷◌, length, map, take, get_or, refl, sym, ◌∙◌, ap, subst, arith, inl, inr}
use Rattle.std.proofs.lemmas.Bool.{cases_lt}
use Rattle.std.proofs.lemmas.List.{take_all}
use Rattle.std.specs.Prelude.{slice_get, IsSomeAnd}
use Rattle.std.specs.List.{AllByRecursion}
use Rattle.std.specs.Str.{bytes_eq}
use Rattle.std.proofs.lemmas.Slice.Eq.{bytes_eq-Decides}
use Rattle.pc_sheet.specs.Sheet.{NamedStatement, Sheet}
use Rattle.pc_sheet.specs.Views.{rule_of}
use Rattle.pc_sheet.specs.WellFormed.{rule_name, AreDifferent}
use Rattle.pc_sheet.specs.declared.formula.Rule.{Rule}
use Rattle.pc_cert.specs.Claims.{IsRuleNamed}
use Rattle.pc_cert.specs.Trees.{named_by}
use Rattle.pc_cert.proofs.Found.{none_is}

abbrev Has : List (List ℕ) → List ℕ → ℕ → Type 0
Has names n r = slice_get names r ≡ Some n

lacks_name : (names : List (List ℕ)) (n : List ℕ) → AllByRecursion (λ m. m ≢ n) names → (r : ℕ) → Has names n r → ⊥
lacks_name [] n all r e = absurd (cc)
lacks_name (m ∷ ms) n all zero e = all.0 (cc)
lacks_name (m ∷ ms) n all (suc r) e = lacks_name ms n all.1 r e

one_more : (names : List (List ℕ)) (n : List ℕ) (i : ℕ) → i < length names → get_or names i [] ≢ n → AllByRecursion (λ m. m ≢ n) (take i names) → AllByRecursion (λ m. m ≢ n) (take (i + 1) names)
one_more [] n i inside other all = absurd (omega (arith, inside))
one_more (m ∷ ms) n zero inside other all = (other, tt)
one_more (m ∷ ms) n (suc i) inside other all = let e : suc i + 1 ≡ suc (i + 1) = omega arith in rw e (all.0, one_more ms n i (omega (arith, inside)) other all.1)

at_place : (names : List (List ℕ)) (n : List ℕ) (i : ℕ) → i < length names → get_or names i [] ≡ n → Has names n i
at_place [] n i inside is = absurd (omega (arith, inside))
at_place (m ∷ ms) n zero inside is = ap Some is
at_place (m ∷ ms) n (suc i) inside is = at_place ms n i (omega (arith, inside)) is

name_here : (rules : List Rule) (i : ℕ) (r : Rule) → i < length rules → r ≡ get_or rules i r → get_or (map named_by rules) i [] ≡ r.name
name_here [] i r inside is = absurd (omega (arith, inside))
name_here (x ∷ xs) zero r inside is = ap named_by (sym is)
name_here (x ∷ xs) (suc i) r inside is = name_here xs i r (omega (arith, inside)) is

length_names : (rules : List Rule) → length (map named_by rules) ≡ length rules
length_names [] = refl
length_names (x ∷ xs) = ap (λ k. suc k) (length_names xs)

names_of : (rules : List Rule) → map rule_name (map rule_of rules) ≡ map named_by rules
names_of [] = refl
names_of (x ∷ xs) = ap (λ ns. x.name ∷ ns) (names_of xs)

to_names : (rules : List NamedStatement) (n : List ℕ) (r : ℕ) → IsSomeAnd (slice_get rules r) (λ x. x.name ≡ n) → Has (map rule_name rules) n r
to_names [] n r is = absurd is
to_names (x ∷ xs) n zero is = ap Some is
to_names (x ∷ xs) n (suc r) is = to_names xs n r is

from_names : (rules : List NamedStatement) (n : List ℕ) (r : ℕ) → Has (map rule_name rules) n r → IsSomeAnd (slice_get rules r) (λ x. x.name ≡ n)
from_names [] n r is = absurd (cc)
from_names (x ∷ xs) n zero is = cc
from_names (x ∷ xs) n (suc r) is = from_names xs n r is

has_at : (names : List (List ℕ)) (n : List ℕ) (r : ℕ) → Has names n r → (r < length names) × ((d : List ℕ) → get_or names r d ≡ n)
has_at [] n r e = absurd (cc)
has_at (m ∷ ms) n zero e = (omega arith, λ d. cc)
has_at (m ∷ ms) n (suc r) e = let rest = has_at ms n r e in (omega (arith, rest.0), rest.1)

one_place : (names : List (List ℕ)) → AreDifferent names → (n : List ℕ) (r q : ℕ) → Has names n r → Has names n q → r ≡ q
one_place names different n r q first second =
    let a = has_at names n r first in
    let b = has_at names n q second in
    elim (cases_lt r q) [
      | inl low ↦ absurd (different r q [] low b.0 (a.1 [] ∙ sym (b.1 [])))
      | inr high ↦ elim (cases_lt q r) [ inl low ↦ absurd (different q r [] low a.0 (b.1 [] ∙ sym (a.1 []))) | inr other ↦ omega (arith, high, other) ]
    ]

from_eq : (b : Bool) (x n : List ℕ) → b ≡ bytes_eq x n → b ≡ false → x ≢ n
from_eq b x n is fails same = clash b fails (is ∙ (bytes_eq-Decides x n).1 same)
  where
    clash : (c : Bool) → c ≡ false → c ≡ true → ⊥
    clash c e f = cc

module _ (rules : List Rule) (n : List ℕ) (i : ℕ) where
  pub passed : (r : Rule) (b : Bool) → i < length rules → r ≡ get_or rules i r → b ≡ bytes_eq r.name n → b ≡ false → AllByRecursion (λ m. m ≢ n) (take i (map named_by rules)) → AllByRecursion (λ m. m ≢ n) (take (i + 1) (map named_by rules))
  passed r b inside is tests fails all =
      one_more (map named_by rules) n i (omega (arith, inside, length_names rules)) (λ e. from_eq b r.name n tests fails (sym (name_here rules i r inside is) ∙ e)) all

  module _ (sheet : Sheet) (same : map rule_of rules ≡ sheet.rules) where
    to_place : (q : ℕ) → IsRuleNamed sheet n q → Has (map named_by rules) n q
    to_place q is = subst (λ ns. Has ns n q) (names_of rules) (to_names (map rule_of rules) n q (subst (λ rs. IsSomeAnd (slice_get rs q) (λ x. x.name ≡ n)) (sym same) is))

    from_place : (q : ℕ) → Has (map named_by rules) n q → IsRuleNamed sheet n q
    from_place q is = subst (λ rs. IsSomeAnd (slice_get rs q) (λ x. x.name ≡ n)) same (from_names (map rule_of rules) n q (subst (λ ns. Has ns n q) (sym (names_of rules)) is))

    pub found : (r : Rule) (b : Bool) → i < length rules → r ≡ get_or rules i r → b ≡ bytes_eq r.name n → b ≡ true → AreDifferent (map rule_name sheet.rules) → (q : ℕ) → (Some i ≡ Some q) ↔ IsRuleNamed sheet n q
    found r b inside is tests holds different q =
        let here = at_place (map named_by rules) n i (omega (arith, inside, length_names rules)) (name_here rules i r inside is ∙ (bytes_eq-Decides r.name n).0 (sym tests ∙ holds)) in
        let apart : AreDifferent (map named_by rules) = subst (λ ns. AreDifferent ns) (ap (λ rs. map rule_name rs) (sym same) ∙ names_of rules) different in
        (λ e. let k : i ≡ q = cc in subst (λ p. IsRuleNamed sheet n p) k (from_place i here), λ named. ap Some (one_place (map named_by rules) apart n i q here (to_place q named)))

    pub absent : length rules ≤ i → AllByRecursion (λ m. m ≢ n) (take i (map named_by rules)) → (q : ℕ) → (None ≡ Some q) ↔ IsRuleNamed sheet n q
    absent over all =
        none_is (IsRuleNamed sheet n) (λ q is. lacks_name (map named_by rules) n (subst (λ ns. AllByRecursion (λ m. m ≢ n) ns) (take_all i (map named_by rules) (omega (arith, over, length_names rules))) all) q (to_place q is))
