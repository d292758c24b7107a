-- What the line of a sort declares.
use Rattle.std.proofs.Common.{◌≡◌, ℕ, suc, ℤ, ◌+◌, List, [], ◌∷◌, get_or, All, Contains, arith, ap, ap₂, ◌∙◌, sym, subst}
use Rattle.std.proofs.lemmas.List.Elements.{All-nil, All-cons, All-head, All-contains}
use Rattle.pc_name.specs.Names.{IsName}
use Rattle.pc_syntax.specs.Tree as tree
use Rattle.pc_sheet.specs.Sheet.{Sheet}
use Rattle.pc_sheet.specs.WellFormed.{IsWellFormed}
use Rattle.pc_books.specs.Edits.{listed_sort, range_sort, with_sort}
use Rattle.pc_sortcheck.specs.Declaring.{Declares}
use Rattle.pc_elaborate.specs.declared.fault.SortFault.{SortFault}
use Rattle.pc_sortcheck.specs.DeclarationFaults.{IsNew, IsDeclarationFault}
use Rattle.pc_sortcheck.specs.inside.Fits.{ListFits, RangeFits}
use Rattle.pc_sortcheck.proofs.NewNames.{Names, each_new}
use Rattle.pc_sortcheck.proofs.WithSort.{SortFits, with_one_sort, sort_needs}

-- ---- a listed sort

module _ (s : Sheet) (n : List ℕ) (values : Names) where
  list_fits : ListFits s n values → SortFits s.universe (listed_sort n values)
  list_fits fits = record {
    sorts = fits.sorts;
    values = (fits.some, fits.limit);
    different = fits.names.0;
    fresh = All-cons (IsNew s.universe) n values fits.fresh (each_new s.universe n values fits.names);
  }

  pub list_formed : (m : List ℕ) (names : Names) → m ≡ n → names ≡ values → IsWellFormed s → s.rules ≡ [] → IsName n → All IsName values → ListFits s n values → IsWellFormed (with_sort s (listed_sort m names))
  list_formed m names p q h none named each fits =
      let formed = with_one_sort s (listed_sort n values) h none (All-cons IsName n values named each) (list_fits fits) in
      subst IsWellFormed (sym (ap₂ (λ (a : List ℕ) (b : Names). with_sort s (listed_sort a b)) p q)) formed

  pub list_declared : (new : Sheet) (m : List ℕ) (names : Names) → m ≡ n → names ≡ values → new ≡ with_sort s (listed_sort m names) → IsWellFormed (with_sort s (listed_sort m names)) → Declares s (tree.list_sort n values) new
  list_declared new m names p q is h = (is ∙ ap₂ (λ (a : List ℕ) (b : Names). with_sort s (listed_sort a b)) p q, subst IsWellFormed (sym is) h)

  pub list_needs : IsWellFormed (with_sort s (listed_sort n values)) → ListFits s n values
  list_needs h =
      let fits = sort_needs s (listed_sort n values) h in
      record {
        fresh = All-head (IsNew s.universe) n values fits.fresh;
        sorts = fits.sorts;
        some = fits.values.0;
        limit = fits.values.1;
        names = (fits.different, λ v k. All-contains (IsNew s.universe) (n ∷ values) v fits.fresh (later v k));
      }
    where
      later : (v : List ℕ) → Contains values v → Contains (n ∷ values) v
      later v (k, l, e) = (k + 1, omega arith, at k e)
        where
          at : (k : ℕ) → get_or values k v ≡ v → get_or (n ∷ values) (k + 1) v ≡ v
          at k e = ap (λ i. get_or (n ∷ values) i v) (one_more k) ∙ e
            where
              one_more : (k : ℕ) → k + 1 ≡ suc k
              one_more k = omega arith

-- ---- a range

module _ (s : Sheet) (n : List ℕ) (low high : ℤ) where
  range_fits : RangeFits s n low high → SortFits s.universe (range_sort n low high)
  range_fits fits = record {
    sorts = fits.sorts;
    values = (fits.low_bound, fits.high_bound, fits.some, fits.limit);
    different = λ i j d order l. absurd (omega arith);
    fresh = All-cons (IsNew s.universe) n [] fits.fresh (All-nil (IsNew s.universe));
  }

  pub range_formed : (m : List ℕ) (a b : ℤ) → m ≡ n → a ≡ low → b ≡ high → IsWellFormed s → s.rules ≡ [] → IsName n → RangeFits s n low high → IsWellFormed (with_sort s (range_sort m a b))
  range_formed m a b p q r h none named fits =
      let formed = with_one_sort s (range_sort n low high) h none (All-cons IsName n [] named (All-nil IsName)) (range_fits fits) in
      subst IsWellFormed (sym (same m a b p q r)) formed
    where
      same : (m : List ℕ) (a b : ℤ) → m ≡ n → a ≡ low → b ≡ high → with_sort s (range_sort m a b) ≡ with_sort s (range_sort n low high)
      same m a b p q r = ap (λ (x : List ℕ). with_sort s (range_sort x a b)) p ∙ ap₂ (λ (x y : ℤ). with_sort s (range_sort n x y)) q r

  pub range_declared : (new : Sheet) (m : List ℕ) (a b : ℤ) → m ≡ n → a ≡ low → b ≡ high → new ≡ with_sort s (range_sort m a b) → IsWellFormed (with_sort s (range_sort m a b)) → Declares s (tree.range_sort n low high) new
  range_declared new m a b p q r is h = (is ∙ ap (λ (x : List ℕ). with_sort s (range_sort x a b)) p ∙ ap₂ (λ (x y : ℤ). with_sort s (range_sort n x y)) q r, subst IsWellFormed (sym is) h)

  pub range_needs : IsWellFormed (with_sort s (range_sort n low high)) → RangeFits s n low high
  range_needs h =
      let fits = sort_needs s (range_sort n low high) h in
      record {
        fresh = All-head (IsNew s.universe) n [] fits.fresh;
        sorts = fits.sorts;
        low_bound = fits.values.0;
        high_bound = fits.values.1;
        some = fits.values.2;
        limit = fits.values.3;
      }

  pub range_at_fault : (a b : ℤ) (e : SortFault) → a ≡ low → b ≡ high → IsDeclarationFault s (tree.range_sort n a b) e → IsDeclarationFault s (tree.range_sort n low high) e
  range_at_fault a b e p q h = subst (λ (x : ℤ). IsDeclarationFault s (tree.range_sort n x high) e) p (subst (λ (y : ℤ). IsDeclarationFault s (tree.range_sort n a y) e) q h)

  pub range_fits_so : (a b : ℤ) → a ≡ low → b ≡ high → RangeFits s n a b → RangeFits s n low high
  range_fits_so a b p q h = subst (λ (x : ℤ). RangeFits s n x high) p (subst (λ (y : ℤ). RangeFits s n a y) q h)
