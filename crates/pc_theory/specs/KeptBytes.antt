-- How many bytes the lines may count for that are kept of searches.
use Rattle.std.specs.Prelude.{ℕ, ◌+◌, [], length, sum_by, slice_index_or}
use Rattle.pc_components.specs.View.{Kept}
use Rattle.pc_search.specs.Found.{search_bytes}
use Rattle.pc_theory.specs.declared.spending.PartSpending.{PartSpending}
use Rattle.pc_theory.specs.declared.spending.Spending.{Spending}

-- of one part's search: by its axioms, its variables, and the clauses learned and calls made for it
abbrev pub part_bytes : Kept → PartSpending → ℕ
part_bytes kept s =
    search_bytes (length (slice_index_or kept.axioms s.part [])) (length (slice_index_or kept.variables s.part [])) (s.tally.learned + s.tally.calls)

-- of those of all parts that were searched
abbrev pub spent_bytes : Kept → Spending → ℕ
spent_bytes kept s = sum_by (part_bytes kept) s.parts.items
