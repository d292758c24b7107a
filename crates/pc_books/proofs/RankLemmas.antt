-- Places of tuples among all tuples of values of some sorts.
use Rattle.std.proofs.Common.{◌≡◌, ℕ, suc, ◌+◌, ◌*◌, ◌<◌, ◌≤◌, ◌↔◌, List, [], ◌∷◌, map, drop, length, get_or, Some, slice_get, IsSomeAnd, sum_by, take, arith, ap, ap₂, ◌∙◌, sym, subst}
use Rattle.std.proofs.Math.Nat.{mul-le-mul_right, mul_assoc}
use Rattle.std.proofs.lemmas.List.{drop_more, drop_all}
use Rattle.std.proofs.lemmas.Option.{slice_get-map, slice_get-get_or}
use Rattle.std.specs.Option.{option_map}
use Rattle.pc_sheet.specs.Cells.{IsApplication}
use Rattle.pc_sheet.specs.Sheet.{Universe, Family}
use Rattle.pc_sheet.specs.Entailment.{AreWithin}
use Rattle.pc_sheet.specs.Sizes.{argument_sorts, cell_number, cells_in, product, rank_from, size_of}
use Rattle.pc_sheet.specs.declared.ids.FamilyId.{FamilyId}
use Rattle.pc_sheet.specs.declared.ids.SortId.{SortId}
use Rattle.pc_sheet.specs.declared.ids.ValueId.{ValueId}
use Rattle.pc_books.specs.SchemeView.{family_of}
use Rattle.pc_books.specs.Sound.{AreCounted}
use Rattle.pc_books.specs.declared.scheme.FamilyDecl.{FamilyDecl}
use Rattle.pc_books.proofs.CountLemmas.{read_counts}

-- a tuple stands before all tuples of a greater front
pub rank_below : (r : ℕ) (ns : List ℕ) (vs : List ValueId) → AreWithin ns vs → rank_from r ns vs + 1 ≤ (r + 1) * product ns
rank_below r [] [] h = omega arith
rank_below r [] (v ∷ vs) h = absurd h
rank_below r (n ∷ ns) [] h = absurd h
rank_below r (n ∷ ns) (v ∷ vs) h =
    let rest = rank_below (r * n + v.0) ns vs h.1 in
    let front : r * n + v.0 + 1 ≤ (r + 1) * n = omega (arith, h.0) in
    let whole = mul-le-mul_right (product ns) front in
    let turned = mul_assoc (r + 1) n (product ns) in
    omega (arith, rest, whole, turned)

pub as_many : (ns : List ℕ) (vs : List ValueId) → AreWithin ns vs → length vs ≡ length ns
as_many [] [] h = omega arith
as_many [] (v ∷ vs) h = absurd h
as_many (n ∷ ns) [] h = absurd h
as_many (n ∷ ns) (v ∷ vs) h = ap suc (as_many ns vs h.1)

module _ (size : SortId → ℕ) (ss : List SortId) (vs : List ValueId) (i : ℕ) where
  -- one more part
  pub rank_next : (r : ℕ) (s : SortId) (v : ValueId) → i < length ss → i < length vs → get_or ss i s ≡ s → get_or vs i v ≡ v
      → rank_from (r * size s + v.0) (map size (drop (i + 1) ss)) (drop (i + 1) vs) ≡ rank_from r (map size (drop i ss)) (drop i vs)
  rank_next r s v ls lv es ev =
      sym (ap₂ (λ xs ys. rank_from r (map size xs) ys) (drop_more ss i s ls ∙ ap (λ x. x ∷ drop (i + 1) ss) es) (drop_more vs i v lv ∙ ap (λ x. x ∷ drop (i + 1) vs) ev))

  within_is : (s : SortId) (v : ValueId) → i < length ss → i < length vs → get_or ss i s ≡ s → get_or vs i v ≡ v
      → AreWithin (map size (drop i ss)) (drop i vs) ≡ ((v.0 < size s) × AreWithin (map size (drop (i + 1) ss)) (drop (i + 1) vs))
  within_is s v ls lv es ev = ap₂ (λ xs ys. AreWithin (map size xs) ys) (drop_more ss i s ls ∙ ap (λ x. x ∷ drop (i + 1) ss) es) (drop_more vs i v lv ∙ ap (λ x. x ∷ drop (i + 1) vs) ev)

  pub fits_next : (s : SortId) (v : ValueId) (W : Type 0) → i < length ss → i < length vs → get_or ss i s ≡ s → get_or vs i v ≡ v → v.0 < size s
      → AreWithin (map size (drop i ss)) (drop i vs) ↔ W → AreWithin (map size (drop (i + 1) ss)) (drop (i + 1) vs) ↔ W
  fits_next s v W ls lv es ev below h =
      let is = within_is s v ls lv es ev in (
        λ rest. h.0 (subst (λ (X : Type 0). X) (sym is) (below, rest)),
        λ w. (let both : (v.0 < size s) × AreWithin (map size (drop (i + 1) ss)) (drop (i + 1) vs) = subst (λ (X : Type 0). X) is (h.1 w) in both.1),
      )

  pub fits_not : (s : SortId) (v : ValueId) (W : Type 0) → i < length ss → i < length vs → get_or ss i s ≡ s → get_or vs i v ≡ v → size s ≤ v.0
      → AreWithin (map size (drop i ss)) (drop i vs) ↔ W → W → ⊥
  fits_not s v W ls lv es ev above h w =
      let both : (v.0 < size s) × AreWithin (map size (drop (i + 1) ss)) (drop (i + 1) vs) = subst (λ (X : Type 0). X) (within_is s v ls lv es ev) (h.1 w) in
      absurd (omega (arith, both.0, above))

  -- at the end
  pub rank_ended : (r : ℕ) → length ss ≤ i → length vs ≤ i → rank_from r (map size (drop i ss)) (drop i vs) ≡ r
  rank_ended r ls lv = ap₂ (λ xs ys. rank_from r (map size xs) ys) (drop_all i ss ls) (drop_all i vs lv)

  pub fits_ended : (W : Type 0) → length ss ≤ i → length vs ≤ i → AreWithin (map size (drop i ss)) (drop i vs) ↔ W → W
  fits_ended W ls lv h = h.0 (subst (λ (X : Type 0). X) (sym (ap₂ (λ xs ys. AreWithin (map size xs) ys) (drop_all i ss ls) (drop_all i vs lv))) tt)

-- ---- the cell of a family that was read at its place

pub family_read : (ds es : List FamilyDecl) (i j : ℕ) (d : FamilyDecl) → es ≡ ds → j ≡ i → d ≡ get_or es j d → j < length es → slice_get (map family_of ds) i ≡ Some (family_of d)
family_read ds es i j d same place read within =
    slice_get-map family_of ds i
    ∙ ap (option_map family_of) (slice_get-get_or ds i d (omega (arith, within, place, ap length same)) ∙ ap Some (sym (read ∙ ap₂ (λ xs k. get_or xs k d) same place)))

module _ (u : Universe) (family : FamilyId) (args : List ValueId) (f : Family) (read : slice_get u.families family.0 ≡ Some f) where
  pub is_application : AreWithin (map (size_of u) f.sorts) args → IsApplication u (record { family = family; arguments = args })
  is_application h = subst (λ o. IsSomeAnd o (λ g. AreWithin (map (size_of u) g.sorts) args)) (sym read) h

  pub fits_family : IsApplication u (record { family = family; arguments = args }) → AreWithin (map (size_of u) f.sorts) args
  fits_family h = subst (λ o. IsSomeAnd o (λ g. AreWithin (map (size_of u) g.sorts) args)) read h

  pub number_is : (first rank : ℕ) → first ≡ sum_by (cells_in u) (take family.0 u.families) → rank ≡ rank_from 0 (map (size_of u) f.sorts) args → first + rank ≡ cell_number u family args
  number_is first rank hf hr = ap₂ (λ a b. a + b) hf (hr ∙ ap (λ o. rank_from 0 (map (size_of u) (argument_sorts o)) args) (sym read))

pub before_next : (u : Universe) (f : Family) (args : List ValueId) (rank : ℕ) → AreWithin (map (size_of u) f.sorts) args → rank ≡ rank_from 0 (map (size_of u) f.sorts) args → rank < cells_in u f
before_next u f args rank h is = let below = rank_below 0 (map (size_of u) f.sorts) args h in omega (arith, below, is)

-- the cells of a family that fit arguments, at a place that was read
pub record Fitting (u : Universe) (family : FamilyId) (args : List ValueId) (d : FamilyDecl) (rank total : ℕ) : Type 0 where
  pub application : IsApplication u (record { family = family; arguments = args })
  pub number : d.first + rank ≡ cell_number u family args
  pub within : d.first + rank < total

module _ (u : Universe) (family : FamilyId) (args : List ValueId) (ds es : List FamilyDecl) (j total : ℕ) (d : FamilyDecl) (families : map family_of ds ≡ u.families)
    (same : es ≡ ds) (place : j ≡ family.0) (at : d ≡ get_or es j d) (inside : j < length es) (counted : AreCounted u 0 ds total) (sorts : List SortId) (sorts_are : sorts ≡ d.sorts.items) where
  abbrev read_here : slice_get u.families family.0 ≡ Some (family_of d)
  read_here = ap (λ fs. slice_get fs family.0) (sym families) ∙ family_read ds es family.0 j d same place at inside

  pub fitting : (rank : ℕ) → AreWithin (map (size_of u) sorts) args × (rank ≡ rank_from 0 (map (size_of u) sorts) args) → Fitting u family args d rank total
  fitting rank h =
      let counts = read_counts u ds es total family.0 j d same place at inside counted in
      let within = subst (λ ss. AreWithin (map (size_of u) ss) args) sorts_are h.0 in
      let is = h.1 ∙ ap (λ ss. rank_from 0 (map (size_of u) ss) args) sorts_are in
      let next = before_next u (family_of d) args rank within is in
      record {
        application = is_application u family args (family_of d) read_here within;
        number = number_is u family args (family_of d) read_here d.first rank (counts.0 ∙ ap (λ fs. sum_by (cells_in u) (take family.0 fs)) families) is;
        within = omega (arith, counts.1, counts.2, next);
      }

  pub not_fitting : (AreWithin (map (size_of u) sorts) args → ⊥) → IsApplication u (record { family = family; arguments = args }) → ⊥
  not_fitting h app = h (subst (λ ss. AreWithin (map (size_of u) ss) args) (sym sorts_are) (fits_family u family args (family_of d) read_here app))
