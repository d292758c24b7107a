-- The literals of clauses.
use Rattle.std.specs.Prelude.{ℕ, List, [], slice_index_or}
use Rattle.pc_lits.specs.declared.literal.Lit.{Lit}

abbrev pub body_in : List (List Lit) → ℕ → List Lit
body_in bodies number = slice_index_or bodies number []
