-- The clauses at some places.
use Rattle.std.specs.Prelude.{ℕ, List, [], map, slice_index_or}

abbrev pub clauses_at : {L : Type 0} → List (List L) → List ℕ → List (List L)
clauses_at clauses places = map (λ place. slice_index_or clauses place []) places
