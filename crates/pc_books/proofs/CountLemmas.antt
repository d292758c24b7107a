-- The counts of cells that stand beside the families.
use Rattle.std.proofs.Common.{◌≡◌, ℕ, zero, suc, ◌+◌, ◌-◌, ◌<◌, ◌≤◌, List, [], ◌∷◌, Some, map, take, sum_by, length, get_or, slice_get, replicate, arith, refl, ap, ap₂, ◌∙◌, sym, subst}
use Rattle.std.specs.List.{flat_map}
use Rattle.std.proofs.lemmas.List.{length-map, length-append, length-replicate, get_or-replicate, take_all}
use Rattle.std.proofs.lemmas.List.Concat.{get_or-flat_map}
use Rattle.std.proofs.lemmas.List.Folds.{length-flat_map-take}
use Rattle.std.proofs.lemmas.List.Sums.{sum_by-cons, sum_by_more}
use Rattle.std.proofs.lemmas.Option.{slice_get-get_or}
use Rattle.pc_sheet.specs.Sheet.{Universe, Family}
use Rattle.pc_sheet.specs.Sizes.{size_of, cells_in}
use Rattle.pc_books.specs.SchemeView.{family_of}
use Rattle.pc_books.specs.Sound.{AreCounted, counted_of}
use Rattle.pc_books.specs.declared.scheme.FamilyDecl.{FamilyDecl}

module _ (u : Universe) where
  pub total_is : (n : ℕ) (ds : List FamilyDecl) (total : ℕ) → AreCounted u n ds total → total ≡ n + sum_by (cells_in u) (map family_of ds)
  total_is n [] total h = omega arith
  total_is n (d ∷ ds) total h =
      let rest = total_is (n + d.cells) ds total h.2 in
      let here = sum_by-cons (cells_in u) (family_of d) (map family_of ds) in
      omega (arith, rest, here, h.1)

  pub first_is : (n : ℕ) (ds : List FamilyDecl) (total i : ℕ) (d : FamilyDecl) → i < length ds → AreCounted u n ds total
      → (get_or ds i d).first ≡ n + sum_by (cells_in u) (take i (map family_of ds))
  first_is n [] total i d l h = absurd (omega arith)
  first_is n (e ∷ ds) total zero d l h = omega (arith, h.0)
  first_is n (e ∷ ds) total (suc i) d l h =
      let rest = first_is (n + e.cells) ds total i d (omega arith) h.2 in
      let here = sum_by-cons (cells_in u) (family_of e) (take i (map family_of ds)) in
      omega (arith, rest, here, h.1)

  pub first_within : (n : ℕ) (ds : List FamilyDecl) (total i : ℕ) (d : FamilyDecl) → i < length ds → AreCounted u n ds total
      → (get_or ds i d).first + (get_or ds i d).cells ≤ total
  first_within n [] total i d l h = absurd (omega arith)
  first_within n (e ∷ ds) total zero d l h = let rest = total_is (n + e.cells) ds total h.2 in omega (arith, rest, h.0)
  first_within n (e ∷ ds) total (suc i) d l h = first_within (n + e.cells) ds total i d (omega arith) h.2

  pub cells_is : (n : ℕ) (ds : List FamilyDecl) (total i : ℕ) (d : FamilyDecl) → i < length ds → AreCounted u n ds total → (get_or ds i d).cells ≡ cells_in u (family_of (get_or ds i d))
  cells_is n [] total i d l h = absurd (omega arith)
  cells_is n (e ∷ ds) total zero d l h = h.1
  cells_is n (e ∷ ds) total (suc i) d l h = cells_is (n + e.cells) ds total i d (omega arith) h.2

  -- of a family that was read at its place
  pub read_counts : (ds es : List FamilyDecl) (total i j : ℕ) (d : FamilyDecl) → es ≡ ds → j ≡ i → d ≡ get_or es j d → j < length es → AreCounted u 0 ds total
      → (d.first ≡ sum_by (cells_in u) (take i (map family_of ds))) × (d.first + d.cells ≤ total) × (d.cells ≡ cells_in u (family_of d))
  read_counts ds es total i j d same place read within h =
      let at : get_or ds i d ≡ d = sym (read ∙ ap₂ (λ xs k. get_or xs k d) same place) in
      let inside : i < length ds = omega (arith, within, place, ap length same) in
      let first = first_is 0 ds total i d inside h in
      let bound = first_within 0 ds total i d inside h in
      (ap (λ e. e.first) (sym at) ∙ first ∙ omega arith, subst (λ e. e.first + e.cells ≤ total) at bound, subst (λ e. e.cells ≡ cells_in u (family_of e)) at (cells_is 0 ds total i d inside h))

  pub count_past : (ds : List FamilyDecl) (total i : ℕ) → length ds ≤ i → AreCounted u 0 ds total → total ≡ sum_by (cells_in u) (take i (map family_of ds))
  count_past ds total i past h =
      let all = total_is 0 ds total h in
      let long : length (map family_of ds) ≤ i = omega (arith, length-map ds family_of) in
      let whole : take i (map family_of ds) ≡ map family_of ds = take_all i (map family_of ds) long in
      (let e : total ≡ sum_by (cells_in u) (map family_of ds) = omega (arith, all) in e) ∙ ap (sum_by (cells_in u)) (sym whole)

  abbrev sizes_in : Family → List ℕ
  sizes_in f = replicate (cells_in u f) (size_of u f.result_sort)

  -- there are as many sizes of cells as cells
  pub sizes_count : (fs : List Family) → length (flat_map sizes_in fs) ≡ sum_by (cells_in u) fs
  sizes_count [] = refl
  sizes_count (f ∷ fs) =
      let all = length-append (sizes_in f) (flat_map sizes_in fs) in
      let here = length-replicate (cells_in u f) (size_of u f.result_sort) in
      omega (arith, all, here, sizes_count fs, sum_by-cons (cells_in u) f fs)

  -- a cell's size is that of its family's result sort
  pub size_at : (fs : List Family) (i cell : ℕ) (f : Family) → i < length fs → f ≡ get_or fs i f
      → sum_by (cells_in u) (take i fs) ≤ cell → cell < sum_by (cells_in u) (take (i + 1) fs) → slice_get (flat_map sizes_in fs) cell ≡ Some (size_of u f.result_sort)
  size_at fs i cell f within read after before =
      let front = sizes_count (take i fs) in
      let more = sum_by_more (cells_in u) fs i f within in
      let last : cells_in u (get_or fs i f) ≡ cells_in u f = ap (cells_in u) (sym read) in
      let j = cell - sum_by (cells_in u) (take i fs) in
      let piece : length (sizes_in (get_or fs i f)) ≡ cells_in u (get_or fs i f) = length-replicate _ _ in
      let inside : j < length (sizes_in (get_or fs i f)) = omega (arith, more, piece) in
      let place : length (flat_map sizes_in (take i fs)) + j ≡ cell = omega (arith, front) in
      let at = get_or-flat_map sizes_in fs i j f 0 within inside in
      let whole = length-flat_map-take sizes_in fs i f within in
      let bound : cell < length (flat_map sizes_in fs) = omega (arith, whole, place, inside) in
      slice_get-get_or (flat_map sizes_in fs) cell 0 bound
      ∙ ap Some (subst (λ k. get_or (flat_map sizes_in fs) k 0 ≡ get_or (sizes_in (get_or fs i f)) j 0) place at
      ∙ get_or-replicate (cells_in u (get_or fs i f)) j (size_of u (get_or fs i f).result_sort) 0 (omega (arith, inside, piece)) ∙ ap (λ g. size_of u g.result_sort) (sym read))

  -- some family stands before a cell
  pub some_before : (fs : List Family) (i cell : ℕ) → cell < sum_by (cells_in u) (take i fs) → 0 < i
  some_before fs zero cell h = absurd (omega arith)
  some_before fs (suc i) cell h = omega arith

-- what copies of families keep
pub families_same : (ds es : List FamilyDecl) → map counted_of ds ≡ map counted_of es → map family_of ds ≡ map family_of es
families_same ds es h = sym (firsts ds) ∙ ap (map (λ p. p.0)) h ∙ firsts es
  where
    firsts : (fs : List FamilyDecl) → map (λ p. p.0) (map counted_of fs) ≡ map family_of fs
    firsts [] = refl
    firsts (f ∷ fs) = ap (λ t. family_of f ∷ t) (firsts fs)

pub counted_copy : (u : Universe) (n : ℕ) (ds es : List FamilyDecl) (total : ℕ) → map counted_of ds ≡ map counted_of es → AreCounted u n es total → AreCounted u n ds total
counted_copy u n [] [] total h counted = counted
counted_copy u n [] (e ∷ es) total h counted = absurd (cc)
counted_copy u n (d ∷ ds) [] total h counted = absurd (cc)
counted_copy u n (d ∷ ds) (e ∷ es) total h counted =
    let head : counted_of d ≡ counted_of e = cc in
    let tail : map counted_of ds ≡ map counted_of es = cc in
    let cells : d.cells ≡ e.cells = ap (λ p. p.2) head in (
      ap (λ p. p.1) head ∙ counted.0,
      cells ∙ counted.1 ∙ ap (λ p. cells_in u p.0) (sym head),
      counted_copy u (n + d.cells) ds es total tail (subst (λ k. AreCounted u (n + k) es total) (sym cells) counted.2),
    )
