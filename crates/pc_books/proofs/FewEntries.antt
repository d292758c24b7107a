-- A sheet has no more entries than its cells may have.
use Rattle.std.proofs.Common.{◌≡◌, ◌≢◌, ℕ, zero, suc, ◌<◌, ◌≤◌, ◌*◌, Bool, true, not, eqb, eq-eqb, inl, inr, ◌∙◌, List, [], ◌∷◌, length, slice_get, IsSomeAnd, All, arith, ap, refl, sym}
use Rattle.std.specs.List.{filter}
use Rattle.std.proofs.lemmas.Bool.{cases_eq, true≢false}
use Rattle.std.proofs.lemmas.List.Elements.{All-head, All-contains}
use Rattle.std.proofs.lemmas.List.Filters.{length-filter_both}
use Rattle.pc_sheet.specs.Limits.{most_entries}
use Rattle.pc_sheet.specs.Entailment.{cell_sizes}
use Rattle.pc_sheet.specs.Sheet.{Universe}
use Rattle.pc_sheet.specs.WellFormed.{is_of_cell, entries_of, IsEntryOf, AreWellFormedEntries}
use Rattle.pc_sheet.specs.declared.ids.CellId.{CellId}
use Rattle.pc_sheet.specs.declared.ids.Entry.{Entry}
use Rattle.pc_lemmas.proofs.Elements.{all_from, kept_is}
use Rattle.pc_books.proofs.EntryLemmas.{length_kept_twice}

-- a place that is there is below the length
below : (sizes : List ℕ) (k : ℕ) (P : ℕ → Type 0) → IsSomeAnd (slice_get sizes k) P → k < length sizes
below [] k P h = absurd h
below (n ∷ ns) zero P h = omega arith
below (n ∷ ns) (suc k) P h = let rest = below ns k P h in omega (arith, rest)

abbrev is_elsewhere : CellId → Entry → Bool
is_elsewhere c e = not (is_of_cell c e)

abbrev elsewhere : CellId → List Entry → List Entry
elsewhere c es = filter (is_elsewhere c) es

-- by the cells, the last one first
few_below : (n most : ℕ) (es : List Entry) → All (λ e. e.cell.0 < n) es → ((c : CellId) → length (entries_of c es) ≤ most) → length es ≤ most * n
few_below zero most [] within few = omega arith
few_below zero most (e ∷ es) within few = let none = All-head (λ f. f.cell.0 < 0) e es within in absurd (omega (arith, none))
few_below (suc n) most es within few =
    let last : CellId = record { 0 = n } in
    let rest = elsewhere last es in
    let rest_within : All (λ e. e.cell.0 < n) rest = all_from (λ e. e.cell.0 < n) rest (λ e c.
    let is = kept_is (is_elsewhere last) es e c in
    let small : e.cell.0 < suc n = All-contains (λ f. f.cell.0 < suc n) es e within is.0 in
    not_last e n small is.1) in
    let ih = few_below n most rest rest_within (λ c. let h = length_kept_twice (is_of_cell c) (is_elsewhere last) es in let k = few c in omega (arith, h, k)) in
    let both = length-filter_both (is_of_cell last) (is_elsewhere last) (λ e. refl) es in
    let own = few last in
    omega (arith, ih, both, own)
  where
    not_last : (e : Entry) (k : ℕ) → e.cell.0 < suc k → not (eqb e.cell.0 k) ≡ true → e.cell.0 < k
    not_last e k small is = elim (cases_eq e.cell.0 k) [
      | inl same ↦ absurd (true≢false (sym is ∙ ap not (eq-eqb e.cell.0 k same)))
      | inr other ↦ omega (arith, small, other)
    ]

pub entries_few : (u : Universe) (entries : List Entry) → AreWellFormedEntries u entries → length entries ≤ most_entries * length (cell_sizes u)
entries_few u entries formed =
    few_below (length (cell_sizes u)) most_entries entries
    (all_from (λ e. e.cell.0 < length (cell_sizes u)) entries (λ e c. below (cell_sizes u) e.cell.0 (λ n. e.value.0 < n) (All-contains (IsEntryOf u) entries e formed.each c))) formed.few
