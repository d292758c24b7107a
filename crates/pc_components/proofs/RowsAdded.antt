-- What is added row by row.
use Rattle.std.proofs.Common.{◌≡◌, ℕ, zero, suc, ◌+◌, ◌<◌, ◌≤◌, true, false, cond, List, [], ◌∷◌, ◌++◌, append_assoc, map, drop, length, get_or, Some, slice_get, refl, ap, sym, ◌∙◌, arith}
use Rattle.std.proofs.lemmas.List.{map-append, map_push, drop_more}
use Rattle.pc_lits.specs.declared.literal.Lit.{Lit}
use Rattle.pc_parts.specs.Components.{are_no_cells}
use Rattle.pc_components.specs.inside.ClauseVariables.{variable_of, variables_at}
use Rattle.pc_components.specs.inside.Numbers.{last_count}
use Rattle.pc_components.proofs.Placing.{item_first}

pub row_made : {Y : Type 0} (f : List ℕ → Y) (rows : List (List ℕ)) (i : ℕ) (row : List ℕ) (y : Y) (before now end : List Y) → slice_get rows i ≡ Some row → y ≡ f row → before ++ map f (drop i rows) ≡ end → now ≡ before ++ y ∷ []
    → now ++ map f (drop (i + 1) rows) ≡ end
row_made f rows i row y before now end at is so added =
    ap (λ ys. ys ++ map f (drop (i + 1) rows)) added ∙ append_assoc before (y ∷ []) (map f (drop (i + 1) rows)) ∙ ap (λ z. before ++ z ∷ map f (drop (i + 1) rows)) is
    ∙ ap (λ rs. before ++ map f rs) (sym (item_first rows i row at)) ∙ so

pub row_copied : {X : Type 0} (rows : List (List X)) (i : ℕ) (row r : List X) (before now : List (List X)) → slice_get rows i ≡ Some row → r ≡ row → before ++ drop i rows ≡ rows → now ≡ before ++ r ∷ [] → now ++ drop (i + 1) rows ≡ rows
row_copied rows i row r before now at is so added =
    ap (λ ys. ys ++ drop (i + 1) rows) added ∙ append_assoc before (r ∷ []) (drop (i + 1) rows) ∙ ap (λ z. before ++ z ∷ drop (i + 1) rows) is
    ∙ ap (λ rs. before ++ rs) (sym (item_first rows i row at)) ∙ so

pub row_named : {X : Type 0} (g : X → ℕ) (rows : List (List ℕ)) (i : ℕ) (row : List ℕ) (r : List X) (before now : List (List X)) → slice_get rows i ≡ Some row → map g r ≡ row → map (map g) before ++ drop i rows ≡ rows → now ≡ before ++ r ∷ []
    → map (map g) now ++ drop (i + 1) rows ≡ rows
row_named g rows i row r before now at is so added =
    row_copied rows i row (map g r) (map (map g) before) (map (map g) now) at is so (ap (map (map g)) added ∙ map-append (map g) before (r ∷ []))

-- ---- the last part

-- one item more of a row
module _ {X : Type 0} (g : X → ℕ) where
  pub item_named : (row : List ℕ) (i d : ℕ) (x : X) (before now : List X) → i < length row → g x ≡ get_or row i d → map g before ++ drop i row ≡ row → now ≡ before ++ x ∷ [] → map g now ++ drop (i + 1) row ≡ row
  item_named row i d x before now low is so added =
      ap (λ xs. map g xs ++ drop (i + 1) row) added ∙ ap (λ ns. ns ++ drop (i + 1) row) (map_push g before x) ∙ append_assoc (map g before) (g x ∷ []) (drop (i + 1) row)
      ∙ ap (λ n. map g before ++ n ∷ drop (i + 1) row) is ∙ ap (λ ns. map g before ++ ns) (sym (drop_more row i d low)) ∙ so

pub item_copied : (row : List ℕ) (i d n : ℕ) (before now : List ℕ) → i < length row → n ≡ get_or row i d → before ++ drop i row ≡ row → now ≡ before ++ n ∷ [] → now ++ drop (i + 1) row ≡ row
item_copied row i d n before now low is so added =
    ap (λ xs. xs ++ drop (i + 1) row) added ∙ append_assoc before (n ∷ []) (drop (i + 1) row) ∙ ap (λ m. before ++ m ∷ drop (i + 1) row) is ∙ ap (λ ns. before ++ ns) (sym (drop_more row i d low)) ∙ so

no_cells_is : (row : List ℕ) → length row ≡ 0 → are_no_cells row ≡ true
no_cells_is [] e = refl
no_cells_is (c ∷ cs) e = absurd (omega (arith, e))

some_cells_are : (row : List ℕ) → (length row ≡ 0 → ⊥) → are_no_cells row ≡ false
some_cells_are [] h = absurd (h refl)
some_cells_are (c ∷ cs) h = refl

pub last_here : (rows : List (List ℕ)) (i : ℕ) (row : List ℕ) → slice_get rows i ≡ Some row → length row ≡ 0 → last_count (drop i rows) ≡ last_count rows → 1 ≡ last_count rows
last_here rows i row at e so = sym (ap last_count (item_first rows i row at) ∙ ap (λ b. cond b 1 (last_count (drop (i + 1) rows))) (no_cells_is row e)) ∙ so

pub not_here : (rows : List (List ℕ)) (i : ℕ) (row : List ℕ) → slice_get rows i ≡ Some row → (length row ≡ 0 → ⊥) → last_count (drop i rows) ≡ last_count rows → last_count (drop (i + 1) rows) ≡ last_count rows
not_here rows i row at h so = sym (ap last_count (item_first rows i row at) ∙ ap (λ b. cond b 1 (last_count (drop (i + 1) rows))) (some_cells_are row h)) ∙ so

-- ---- clauses

pub variables_there : (store : List (List Lit)) (k : ℕ) (clause : List Lit) → slice_get store k ≡ Some clause → variables_at store k ≡ map variable_of clause
variables_there [] k clause at = absurd (cc)
variables_there (c ∷ cs) zero clause at = let same : c ≡ clause = cc in ap (map variable_of) same
variables_there (c ∷ cs) (suc k) clause at = variables_there cs k clause at

pub none_there : (store : List (List Lit)) (k : ℕ) → length store ≤ k → variables_at store k ≡ []
none_there [] k l = refl
none_there (c ∷ cs) zero l = absurd (omega (arith, l))
none_there (c ∷ cs) (suc k) l = none_there cs k (omega (arith, l))
