-- The tuple at a place, part by part, and the cell that it makes.
use Rattle.std.proofs.Common.{◌≡◌, ℕ, zero, suc, ◌+◌, ◌-◌, ◌*◌, ◌/◌, ◌%◌, ◌<◌, ◌≤◌, List, [], ◌∷◌, Some, slice_get, IsSomeAnd, map, drop, take, length, get_or, sum_by, arith, ap, ap₂, ◌∙◌, sym, subst, refl}
use Rattle.std.proofs.Math.Nat.{mod-lt, div-add-mod, div-lt_iff_lt-mul, add-mul, mul_assoc}
use Rattle.std.proofs.lemmas.List.{drop_more, length-map}
use Rattle.std.proofs.lemmas.List.Sums.{sum_by_more}
use Rattle.std.proofs.lemmas.Option.{get_or_from_slice_get}
use Rattle.pc_sheet.specs.Cells.{Application, IsApplication, CellsAreNumberedInOrder, cells}
use Rattle.pc_sheet.specs.Entailment.{AreWithin}
use Rattle.pc_sheet.specs.Sheet.{Universe, Family}
use Rattle.pc_sheet.specs.Sizes.{argument_sorts, cell_number, cells_in, product, rank_from, size_of}
use Rattle.pc_sheet.specs.declared.ids.FamilyId.{FamilyId}
use Rattle.pc_sheet.specs.declared.ids.ValueId.{ValueId}
use Rattle.pc_books.specs.SchemeView.{family_of}
use Rattle.pc_books.specs.Sound.{AreCounted}
use Rattle.pc_books.specs.Tuples.{tuple_at}
use Rattle.pc_books.specs.declared.scheme.FamilyDecl.{FamilyDecl}
use Rattle.pc_books.proofs.CountLemmas.{read_counts}
use Rattle.pc_books.proofs.RankLemmas.{family_read}

positive : (r n p : ℕ) → r < n * p → 0 < p
positive r n zero h = absurd (omega (arith, h))
positive r n (suc p) h = omega arith

-- its parts are values of the sorts
pub tuple_within : (ns : List ℕ) (r : ℕ) → r < product ns → AreWithin ns (tuple_at ns r)
tuple_within [] r h = tt
tuple_within (n ∷ ns) r h =
    let some : 0 < product ns = positive r n (product ns) h in
    ((div-lt_iff_lt-mul some).1 h, tuple_within ns (r % product ns) (mod-lt r some))

rank_shifted : (r : ℕ) (ns : List ℕ) (vs : List ValueId) → AreWithin ns vs → rank_from r ns vs ≡ r * product ns + rank_from 0 ns vs
rank_shifted r [] [] w = omega arith
rank_shifted r [] (v ∷ vs) w = absurd w
rank_shifted r (n ∷ ns) [] w = absurd w
rank_shifted r (n ∷ ns) (v ∷ vs) w =
    let here = rank_shifted (r * n + v.0) ns vs w.1 in
    let none = rank_shifted (0 * n + v.0) ns vs w.1 in
    omega (arith, here, none, add-mul (r * n) v.0 (product ns), mul_assoc r n (product ns), add-mul (0 * n) v.0 (product ns))

-- and it stands at that place
pub tuple_rank : (ns : List ℕ) (r : ℕ) → r < product ns → rank_from 0 ns (tuple_at ns r) ≡ r
tuple_rank [] r h = omega arith
tuple_rank (n ∷ ns) r h =
    let p = product ns in
    let some : 0 < p = positive r n p h in
    let rest : r % p < p = mod-lt r some in
    let shifted = rank_shifted (0 * n + r / p) ns (tuple_at ns (r % p)) (tuple_within ns (r % p) rest) in
    let none : 0 * n + r / p ≡ r / p = omega arith in
    shifted ∙ ap₂ (λ a b. a * p + b) none (tuple_rank ns (r % p) rest) ∙ omega (arith, div-add-mod r p)

-- ---- its parts, one after another

module _ (ns : List ℕ) (r j : ℕ) (l : j < length ns) where
  abbrev next_size : ℕ
  next_size = get_or ns j 0

  abbrev later : ℕ
  later = product (drop (j + 1) ns)

  pub product_here : product (drop j ns) ≡ next_size * later
  product_here = ap product (drop_more ns j 0 l)

  pub some_later : r < product (drop j ns) → 0 < later
  some_later h = positive r next_size later (omega (arith, h, product_here))

  pub rest_below : r < product (drop j ns) → r % later < later
  rest_below h = mod-lt r (some_later h)

  pub part_below : r < product (drop j ns) → r / later < next_size
  part_below h = (div-lt_iff_lt-mul (some_later h)).1 (omega (arith, h, product_here))

  pub part_first : slice_get (tuple_at (drop j ns) r) 0 ≡ Some (record { 0 = r / later })
  part_first = ap (λ xs. slice_get (tuple_at xs r) 0) (drop_more ns j 0 l)

  pub part_after : (i : ℕ) → j < i → slice_get (tuple_at (drop j ns) r) (i - j) ≡ slice_get (tuple_at (drop (j + 1) ns) (r % later)) (i - (j + 1))
  part_after i after =
      let place : i - j ≡ suc (i - (j + 1)) = omega arith in
      ap₂ (λ xs k. slice_get (tuple_at xs r) k) (drop_more ns j 0 l) place

-- ---- the cell

pub cell_is : (u : Universe) (k : FamilyId) (f : Family) (cell : ℕ) → CellsAreNumberedInOrder → slice_get u.families k.0 ≡ Some f
    → sum_by (cells_in u) (take k.0 u.families) ≤ cell → cell < sum_by (cells_in u) (take k.0 u.families) + cells_in u f
    → slice_get (cells u) cell ≡ Some (record { family = k; arguments = tuple_at (map (size_of u) f.sorts) (cell - sum_by (cells_in u) (take k.0 u.families)) })
cell_is u k f cell law read after before =
    let first = sum_by (cells_in u) (take k.0 u.families) in
    let sizes = map (size_of u) f.sorts in
    let within : cell - first < product sizes = omega (arith, before) in
    let c : Application = record { family = k; arguments = tuple_at sizes (cell - first) } in
    let application : IsApplication u c = subst (λ o. IsSomeAnd o (λ g. AreWithin (map (size_of u) g.sorts) (tuple_at sizes (cell - first)))) (sym read) (tuple_within sizes (cell - first) within) in
    let number : cell_number u k (tuple_at sizes (cell - first)) ≡ cell =
    ap (λ o. first + rank_from 0 (map (size_of u) (argument_sorts o)) (tuple_at sizes (cell - first))) read
    ∙ (let rank = tuple_rank sizes (cell - first) within in omega (arith, rank, after)) in
    ap (slice_get (cells u)) (sym number) ∙ (law u).stands c application

-- ---- the cell of a family's declaration

pub some_family : (ds : List FamilyDecl) (k : ℕ) → k < length ds → (d : FamilyDecl) × (d ≡ get_or ds k d)
some_family [] k l = absurd (omega arith)
some_family (d ∷ ds) zero l = (d, refl)
some_family (d ∷ ds) (suc k) l = some_family ds k (omega arith)

pub record Placed (u : Universe) (d : FamilyDecl) (k cell : ℕ) : Type 0 where
  pub after : d.first ≤ cell
  pub before : cell - d.first < product (map (size_of u) d.sorts.items)
  pub is : slice_get (cells u) cell ≡ Some (record { family = record { 0 = k }; arguments = tuple_at (map (size_of u) d.sorts.items) (cell - d.first) })

pub placed : (u : Universe) (ds : List FamilyDecl) (total k cell : ℕ) (d : FamilyDecl) → CellsAreNumberedInOrder → map family_of ds ≡ u.families → d ≡ get_or ds k d → k < length ds → AreCounted u 0 ds total
    → sum_by (cells_in u) (take k u.families) ≤ cell → cell < sum_by (cells_in u) (take (k + 1) u.families) → Placed u d k cell
placed u ds total k cell d law families at within counted after before =
    let counts = read_counts u ds ds total k k d refl refl at within counted in
    let read : slice_get u.families k ≡ Some (family_of d) = ap (λ fs. slice_get fs k) (sym families) ∙ family_read ds ds k k d refl refl at within in
    let inside : k < length u.families = omega (arith, within, length-map ds family_of, ap length families) in
    let more = sum_by_more (cells_in u) u.families k (family_of d) inside in
    let here : get_or u.families k (family_of d) ≡ family_of d = get_or_from_slice_get u.families k (family_of d) (family_of d) read in
    let first : d.first ≡ sum_by (cells_in u) (take k u.families) = counts.0 ∙ ap (λ fs. sum_by (cells_in u) (take k fs)) families in
    let upto : cell < sum_by (cells_in u) (take k u.families) + cells_in u (family_of d) = omega (arith, before, more, ap (cells_in u) here) in
    record {
      after = omega (arith, first, after);
      before = omega (arith, first, upto, after);
      is = cell_is u (record { 0 = k }) (family_of d) cell law read after upto
          ∙ ap (λ (n : ℕ). Some (record { family = record { 0 = k }; arguments = tuple_at (map (size_of u) d.sorts.items) (cell - n) })) (sym first);
    }
