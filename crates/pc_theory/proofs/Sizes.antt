-- How many values the cells of a well-formed universe have.
use Rattle.std.proofs.Common.{ℕ, zero, suc, ◌<◌, ◌≤◌, List, [], ◌∷◌, length, get_or, replicate, slice_index_or, All, arith, sym, subst}
use Rattle.std.specs.List.{flat_map}
use Rattle.std.proofs.lemmas.List.Elements.{All-nil, All-append, All-replicate, All-head, All-tail}
use Rattle.std.proofs.lemmas.Option.{slice_get-get_or}
use Rattle.pc_sheet.specs.Sheet.{Values, listed, range, Sort, Family, Universe}
use Rattle.pc_sheet.specs.Sizes.{count_of, values_of_sort, size_of, cells_in}
use Rattle.pc_sheet.specs.Entailment.{cell_sizes}
use Rattle.pc_sheet.specs.WellFormed.{AreWellFormedValues, IsWellFormedFamily, IsWellFormedUniverse}
use Rattle.pc_sheet.specs.declared.ids.CellId.{CellId}
use Rattle.pc_sheet.specs.declared.ids.SortId.{SortId}
use Rattle.pc_components.specs.Pairs.{size_at}

abbrev IsFine : ℕ → Type 0
IsFine n = (1 ≤ n) × (n ≤ 256)

fine_values : (values : Values) → AreWellFormedValues values → IsFine (count_of values)
fine_values (listed names) h = h
fine_values (range low high) h = (omega arith, h.3)

size_fine : (u : Universe) → IsWellFormedUniverse u → (s : SortId) → s.0 < length u.sorts → IsFine (size_of u s)
size_fine u h s below =
    let none : Sort = record { name = []; values = listed [] } in
    subst (λ o. IsFine (count_of (values_of_sort o))) (sym (slice_get-get_or u.sorts s.0 none below)) (fine_values (get_or u.sorts s.0 none).values (h.sorts s.0 none below))

sizes_fine : (u : Universe) (fs : List Family) → IsWellFormedUniverse u → All (IsWellFormedFamily u) fs → All IsFine (flat_map (λ f. replicate (cells_in u f) (size_of u f.result_sort)) fs)
sizes_fine u [] h all = All-nil IsFine
sizes_fine u (f ∷ fs) h all =
    All-append IsFine (replicate (cells_in u f) (size_of u f.result_sort)) (flat_map (λ g. replicate (cells_in u g) (size_of u g.result_sort)) fs)
    (All-replicate IsFine (cells_in u f) (size_of u f.result_sort) (size_fine u h f.result_sort (All-head (IsWellFormedFamily u) f fs all).result_sort))
    (sizes_fine u fs h (All-tail (IsWellFormedFamily u) f fs all))

at_most : (ns : List ℕ) → All IsFine ns → (c : ℕ) → slice_index_or ns c 0 ≤ 256
at_most [] all c = omega arith
at_most (n ∷ ns) all zero = (All-head IsFine n ns all).1
at_most (n ∷ ns) all (suc c) = at_most ns (All-tail IsFine n ns all) c

pub size_few : (u : Universe) → IsWellFormedUniverse u → (c : CellId) → size_at (cell_sizes u) c ≤ 256
size_few u h c = at_most (cell_sizes u) (sizes_fine u u.families h h.families) c.0
