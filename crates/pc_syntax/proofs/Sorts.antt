-- What stands behind the word `sort`.
use Rattle.std.proofs.Common.{◌≡◌, ℕ, ℤ, List, [], ◌∷◌, ◌++◌, length, map, arith, refl, sym, ◌∙◌, subst}
use Rattle.std.specs.Prelude.{codes}
use Rattle.pc_token.specs.declared.token.Kind.TheVariants.{Equal}
use Rattle.pc_formula.specs.Word.{Word, name, sign}
use Rattle.pc_syntax.specs.Tree.{Declared, list_sort, range_sort, table, row, cell, rule, enter, also}
use Rattle.pc_syntax.specs.Line.{keyword, AreBounds, StandsBehind, IsDeclarationOf}
use Rattle.pc_syntax.proofs.Families.{no_int_of_name}
use Rattle.pc_syntax.proofs.OneLine.{differ}

-- where no name is left, the names that were read are all
names_end : (values found : List (List ℕ)) (rest : List Word) → map name values ≡ map name found ++ rest → ((text : List ℕ) (more : List Word) → rest ≡ name text ∷ more → ⊥) → (values ≡ found) × (rest ≡ [])
names_end [] [] rest is none = (refl, sym is)
names_end [] (x ∷ found) rest is none = cc
names_end (v ∷ values) [] rest is none = absurd (none v (map name values) (sym is))
names_end (v ∷ values) (x ∷ found) rest is none =
    let tails : map name values ≡ map name found ++ rest = cc in
    let heads : v ≡ x = cc in
    let more = names_end values found rest tails none in
    ((cc), more.1)

pub no_names : (found : List (List ℕ)) → length found ≡ 0 → found ≡ []
no_names [] none = refl
no_names (x ∷ found) none = absurd (omega (arith, none))

-- the declarations that start with it
data Sort : Declared → Type 0 where
  listed : (n : List ℕ) (values : List (List ℕ)) → Sort (list_sort n values)
  ranged : (n : List ℕ) (low high : ℤ) → Sort (range_sort n low high)

sort_of : (d : Declared) → keyword d ≡ codes "sort" → Sort d
sort_of (list_sort n values) is = listed n values
sort_of (range_sort n low high) is = ranged n low high
sort_of (table n sorts) is = absurd (differ (codes "table") (codes "sort") refl refl is)
sort_of (row n values) is = absurd (differ (codes "row") (codes "sort") refl refl is)
sort_of (cell n sorts r) is = absurd (differ (codes "cell") (codes "sort") refl refl is)
sort_of (rule n f) is = absurd (differ (codes "rule") (codes "sort") refl refl is)
sort_of (enter c v) is = absurd (differ (codes "enter") (codes "sort") refl refl is)
sort_of (also c v) is = absurd (differ (codes "also") (codes "sort") refl refl is)

module _ (old behind left : List Word) (text : List ℕ) (found : List (List ℕ)) (first : old ≡ name text ∷ sign Equal ∷ behind) (names : behind ≡ map name found ++ left) (all : (n : List ℕ) (more : List Word) → left ≡ name n ∷ more → ⊥) where
  -- with words left, no listed sort was read
  no_list : (n : List ℕ) (values : List (List ℕ)) → StandsBehind (list_sort n values) old → (left ≡ [] → ⊥) → ⊥
  no_list n values is some =
      let words = sym is ∙ first in
      let same : map name values ≡ behind = cc in
      some (names_end values found left (same ∙ names) all).1

  -- names, and then other words
  pub no_sort : (found ≡ [] → ⊥) → (left ≡ [] → ⊥) → (d : Declared) → IsDeclarationOf (codes "sort") d old → ⊥
  no_sort many some d is = go d (sort_of d is.0) is.1
    where
      starts : (xs : List (List ℕ)) (n : List ℕ) (low high : ℤ) (rest : List Word) → xs ≡ found → old ≡ name n ∷ sign Equal ∷ rest → AreBounds rest low high → ⊥
      starts [] n low high rest is words bounds = many (sym is)
      starts (x ∷ xs) n low high rest is words bounds =
          let same : rest ≡ behind = cc in
          let begins : rest ≡ name x ∷ (map name xs ++ left) = same ∙ names ∙ subst (λ ys. map name ys ++ left ≡ name x ∷ (map name xs ++ left)) is refl in
          no_int_of_name rest x (map name xs ++ left) low _ begins bounds.first

      go : (d : Declared) → Sort d → StandsBehind d old → ⊥
      go d (listed n values) is = no_list n values is some
      go d (ranged n low high) is = starts found n low high is.rest refl is.words is.bounds

  -- no names, and then no bounds
  pub no_range : found ≡ [] → (left ≡ [] → ⊥) → ((low high : ℤ) → AreBounds left low high → ⊥) → (d : Declared) → IsDeclarationOf (codes "sort") d old → ⊥
  no_range empty some none d is = go d (sort_of d is.0) is.1
    where
      go : (d : Declared) → Sort d → StandsBehind d old → ⊥
      go d (listed n values) is = no_list n values is some
      go d (ranged n low high) is =
          let words = sym is.words ∙ first in
          let same : is.rest ≡ behind = cc in
          let behind_is : behind ≡ left = names ∙ subst (λ ys. map name ys ++ left ≡ left) (sym empty) refl in
          none low high (subst (λ l. AreBounds l low high) (same ∙ behind_is) is.bounds)

  pub a_range : found ≡ [] → (low high : ℤ) → AreBounds left low high → IsDeclarationOf (codes "sort") (range_sort text low high) old
  a_range empty low high bounds =
      let behind_is : left ≡ behind = sym (names ∙ subst (λ ys. map name ys ++ left ≡ left) (sym empty) refl) in
      (refl, record { rest = behind; words = first; bounds = subst (λ l. AreBounds l low high) behind_is bounds })
