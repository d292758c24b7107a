-- What a book's sheet says of the parts that stand for it.
use Rattle.std.proofs.Common.{◌≡◌, ℕ, zero, suc, ◌≤◌, List, [], ◌∷◌, map, length, get_or, slice_get, All, arith, subst}
use Rattle.std.proofs.Math.ListN.{get_or-map}
use Rattle.std.proofs.lemmas.List.{length-map}
use Rattle.std.proofs.lemmas.List.Elements.{All-head, All-tail}
use Rattle.pc_sheet.specs.Sheet.{Values, listed, range, Table, Universe, Sheet}
use Rattle.pc_sheet.specs.Sizes.{count_of, size_of, values_of_sort}
use Rattle.pc_sheet.specs.Entailment.{AreWithin, cell_sizes}
use Rattle.pc_sheet.specs.WellFormed.{IsWellFormed, IsWellFormedTable, IsWellFormedUniverse, AreWellFormedEntries, AreWellFormedValues}
use Rattle.pc_sheet.specs.declared.ids.Entry.{Entry}
use Rattle.pc_books.specs.SchemeView.{universe_of, family_of, sort_of, table_of, values_of}
use Rattle.pc_books.specs.Sound.{IsSound, AreCounted}
use Rattle.pc_sheet.specs.declared.ids.SortId.{SortId}
use Rattle.pc_sheet.specs.declared.ids.ValueId.{ValueId}
use Rattle.pc_books.specs.declared.scheme.Scheme.{Scheme}
use Rattle.pc_books.specs.declared.scheme.SortDecl.{SortDecl}
use Rattle.pc_books.proofs.CountLemmas.{total_is, sizes_count}

pub All-unmap : {X Y : Type 0} (P : Y → Type 0) (f : X → Y) (xs : List X) → All P (map f xs) → All (λ x. P (f x)) xs
All-unmap P f xs h k d l = subst P (get_or-map f xs k d) (h k (f d) (omega (arith, length-map xs f)))

few_values : (v : Values) → AreWellFormedValues v → count_of v ≤ 256
few_values (listed names) h = h.1
few_values (range low high) h = h.3

short_row : (ns : List ℕ) (vs : List ValueId) → AreWithin ns vs → length vs ≤ length ns
short_row [] [] h = omega arith
short_row [] (v ∷ vs) h = absurd h
short_row (n ∷ ns) [] h = absurd h
short_row (n ∷ ns) (v ∷ vs) h = let rest = short_row ns vs h.1 in omega (arith, rest)

short_rows : (u : Universe) (t : Table) → IsWellFormedTable u t → All (λ r. length r ≤ 4) t.rows
short_rows u t h k d l = let short = short_row (map (size_of u) t.sorts) (get_or t.rows k d) (h.rows k d l) in omega (arith, short, length-map t.sorts (size_of u), h.arity)

pub sound_of : (s : Scheme) → IsWellFormedUniverse (universe_of s) → AreCounted (universe_of s) 0 s.families.items s.cells → IsSound s
sound_of s h counted =
    let total = total_is (universe_of s) 0 s.families.items s.cells counted in
    record {
      arities = All-unmap (λ f. length f.sorts ≤ 4) family_of s.families.items (λ k d l. (h.families k d l).arity);
      sizes = All-unmap (λ t. count_of t.values ≤ 256) sort_of s.sorts.items (λ k d l. few_values _ (h.sorts k d l));
      counted = counted;
      few_cells = omega (arith, total, h.cell_limit);
      rows = All-unmap (λ t. All (λ r. length r ≤ 4) t.rows) table_of s.tables.items (λ k d l. short_rows (universe_of s) (get_or (map table_of s.tables.items) k d) (h.tables k d l));
    }

-- entries that are in order keep a sheet well formed
pub with_entries : (s : Sheet) (es : List Entry) → IsWellFormed s → AreWellFormedEntries s.universe es → IsWellFormed (record s { entries = es })
with_entries s es h k = record { universe = h.universe; rules = h.rules; entries = k }

-- the kept count is the number of cells
pub count_is : (s : Scheme) → AreCounted (universe_of s) 0 s.families.items s.cells → s.cells ≡ length (cell_sizes (universe_of s))
count_is s counted =
    let total = total_is (universe_of s) 0 s.families.items s.cells counted in
    let sizes = sizes_count (universe_of s) (universe_of s).families in
    omega (arith, total, sizes)

small_at : (ds : List SortDecl) (i : ℕ) → All (λ t. count_of (values_of t.values) ≤ 256) ds → count_of (values_of_sort (slice_get (map sort_of ds) i)) ≤ 256
small_at [] i h = omega arith
small_at (d ∷ ds) zero h = All-head (λ t. count_of (values_of t.values) ≤ 256) d ds h
small_at (d ∷ ds) (suc i) h = small_at ds i (All-tail (λ t. count_of (values_of t.values) ≤ 256) d ds h)

-- no sort has more than 256 values
pub size_small : (s : Scheme) (id : SortId) → IsSound s → size_of (universe_of s) id ≤ 256
size_small s id sound = small_at s.sorts.items id.0 sound.sizes
