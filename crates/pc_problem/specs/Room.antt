-- Room in the counts of a search.
use Rattle.std.specs.Prelude.{ℕ, ◌<◌, ◌^◌}
use Rattle.pc_lits.specs.declared.tally.Tally.{Tally}

-- fewer than two to the n clauses were learned, and as few calls made
abbrev pub HasRoom : ℕ → Tally → Type 0
HasRoom n tally = (tally.learned < 2 ^ n) × (tally.calls < 2 ^ n)
