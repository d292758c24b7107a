-- What holds of each of a list's first elements, and of one more.
use Rattle.std.proofs.Common.{◌≡◌, ◌≢◌, ℕ, zero, suc, ◌+◌, ◌<◌, ◌≤◌, List, [], ◌∷◌, ◌++◌, map, take, length, get_or, All, AllPairs, Contains, arith, ap, ◌∙◌, sym, subst, inl, inr}
use Rattle.std.proofs.lemmas.List.{take_more, take_all, map-append}
use Rattle.std.proofs.lemmas.List.Elements.{All-more, All-get_or, Contains-get_or, Contains-push_cases}
use Rattle.std.proofs.lemmas.List.Quantifiers.{all_pairs_push}
use Rattle.pc_sheet.specs.Views.{rule_of}
use Rattle.pc_sheet.specs.WellFormed.{rule_name}
use Rattle.pc_sheet.specs.declared.formula.Rule.{Rule}

module _ {X : Type 0} where
  module _ (P : X → Type 0) (xs : List X) (i : ℕ) where
    pub all_more : (x t : X) → All P (take i xs) → x ≡ get_or xs i x → i < length xs → t ≡ x → P t → All P (take (i + 1) xs)
    all_more x t h is l same p = All-more P xs i x l h (subst P (same ∙ is) p)

    pub all_taken : length xs ≤ i → All P (take i xs) → All P xs
    all_taken l h = subst (All P) (take_all i xs l) h

    pub one_of_all : (x t : X) → All P xs → x ≡ get_or xs i x → i < length xs → t ≡ x → P t
    one_of_all x t h is l same = subst P (sym (same ∙ is)) (All-get_or P xs i x l h)

  pub not_more : (xs : List X) (i : ℕ) (x n : X) → ¬ Contains (take i xs) n → x ≡ get_or xs i x → i < length xs → (x ≡ n → ⊥) → ¬ Contains (take (i + 1) xs) n
  not_more xs i x n h is l other k =
      let more : Contains (take i xs ++ get_or xs i x ∷ []) n = subst (λ ys. Contains ys n) (take_more xs i x l) k in
      elim (Contains-push_cases (take i xs) (get_or xs i x) n more) [ inl a ↦ h a | inr b ↦ other (is ∙ b) ]

  pub not_any : (xs : List X) (i : ℕ) (n : X) → length xs ≤ i → ¬ Contains (take i xs) n → ¬ Contains xs n
  not_any xs i n l h = subst (λ ys. ¬ Contains ys n) (take_all i xs l) h

  pub different_more : (xs : List X) (i : ℕ) (x : X) → AllPairs (λ a b. a ≢ b) (take i xs) → x ≡ get_or xs i x → i < length xs → ¬ Contains (take i xs) x → AllPairs (λ a b. a ≢ b) (take (i + 1) xs)
  different_more xs i x h is l new =
      subst (AllPairs (λ a b. a ≢ b)) (sym (take_more xs i x l ∙ ap (λ y. take i xs ++ y ∷ []) (sym is)))
      (all_pairs_push (λ a b. a ≢ b) (take i xs) x h (λ k d m same. new (subst (Contains (take i xs)) same (Contains-get_or (take i xs) k d m))))

  pub different_all : (xs : List X) (i : ℕ) → length xs ≤ i → AllPairs (λ a b. a ≢ b) (take i xs) → AllPairs (λ a b. a ≢ b) xs
  different_all xs i l h = subst (AllPairs (λ a b. a ≢ b)) (take_all i xs l) h

abbrev pub names_of : List Rule → List (List ℕ)
names_of rules = map rule_name (map rule_of rules)

pub name_not_more : (rules : List Rule) (i : ℕ) (x : Rule) (n : List ℕ) → ¬ Contains (names_of (take i rules)) n → x ≡ get_or rules i x → i < length rules → (x.name ≡ n → ⊥) → ¬ Contains (names_of (take (i + 1) rules)) n
name_not_more rules i x n h is l other k =
    let names : names_of (take (i + 1) rules) ≡ names_of (take i rules) ++ x.name ∷ [] =
    ap names_of (take_more rules i x l ∙ ap (λ y. take i rules ++ y ∷ []) (sym is)) ∙ ap (map rule_name) (map-append rule_of (take i rules) (x ∷ [])) ∙ map-append rule_name (map rule_of (take i rules)) (rule_of x ∷ []) in
    elim (Contains-push_cases (names_of (take i rules)) x.name n (subst (λ ns. Contains ns n) names k)) [ inl a ↦ h a | inr b ↦ other b ]

pub name_at : (rules : List Rule) (i : ℕ) (x : Rule) (n : List ℕ) → x ≡ get_or rules i x → i < length rules → x.name ≡ n → Contains (names_of rules) n
name_at [] i x n is l e = absurd (omega arith)
name_at (r ∷ rs) zero x n is l e = (0, omega arith, ap (λ (y : Rule). y.name) (sym is) ∙ e)
name_at (r ∷ rs) (suc i) x n is l e = let c = name_at rs i x n is (omega arith) e in (suc c.0, omega (arith, c.1), c.2)

pub no_rule_name : (rules : List Rule) (i : ℕ) (n : List ℕ) → length rules ≤ i → ¬ Contains (names_of (take i rules)) n → ¬ Contains (names_of rules) n
no_rule_name rules i n l h = subst (λ rs. ¬ Contains (names_of rs) n) (take_all i rules l) h
