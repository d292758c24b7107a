-- What a declared name stands for.
use Rattle.std.specs.Prelude.{◌≡◌, ℕ, ◌+◌, ℤ, List, [], ◌∷◌, Option, None, Some, slice_get, IsSomeAnd}
use Rattle.pc_sheet.specs.Sheet.{Values, listed, range, Universe}
use Rattle.pc_sheet.specs.WellSorted.{names_of_values}
use Rattle.pc_sheet.specs.declared.ids.SortId.{SortId}
use Rattle.pc_books.specs.declared.names.Named.{Named}
use Rattle.pc_books.specs.declared.names.Named.TheVariants.{Sort, Table, Family, Value}

-- the sort, table, family or value of that number is declared by that name
abbrev pub IsNameOf : Universe → List ℕ → Named → Type 0
IsNameOf u name (Sort s) = IsSomeAnd (slice_get u.sorts s.0) (λ sort. sort.name ≡ name)
IsNameOf u name (Table t) = IsSomeAnd (slice_get u.tables t.0) (λ table. table.name ≡ name)
IsNameOf u name (Family f) = IsSomeAnd (slice_get u.families f.0) (λ family. family.name ≡ name)
IsNameOf u name (Value s v) = IsSomeAnd (slice_get u.sorts s.0) (λ sort. slice_get (names_of_values sort.values) v.0 ≡ Some name)

-- the values' names with what they stand for, the first having that place
abbrev pub value_keys : SortId → ℕ → List (List ℕ) → List (List ℕ × Named)
value_keys s k [] = []
value_keys s k (name ∷ names) = (name, Value s (record { 0 = k })) ∷ value_keys s (k + 1) names

-- a listed sort's name and its values' names with what they stand for
abbrev pub sort_keys : SortId → List ℕ → List (List ℕ) → List (List ℕ × Named)
sort_keys s name names = (name, Sort s) ∷ value_keys s 0 names

-- the bounds of a range
abbrev pub bounds_of : Values → Option (ℤ × ℤ)
bounds_of (listed names) = None
bounds_of (range low high) = Some (low, high)
