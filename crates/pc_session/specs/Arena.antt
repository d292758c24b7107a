-- How many bytes the lines count for in which derivations are kept.
use Rattle.std.specs.Prelude.{◌≡◌, ◌⊎◌, ℕ, ◌+◌, ◌*◌, ◌<◌, ◌≤◌, Bool, true, false, List, Option, Some, cond, nat_lt}
use Rattle.pc_sheet.specs.Sheet.{Sheet}
use Rattle.pc_sheet.specs.declared.ids.CellId.{CellId}
use Rattle.pc_components.specs.View.{Kept}
use Rattle.pc_cache.specs.Rows.{Cached, TargetRow, bytes_alive, bytes_of_rows}
use Rattle.pc_theory.specs.KeptBytes.{spent_bytes}
use Rattle.pc_theory.specs.Spendings.{IsSpendingOf}
use Rattle.pc_theory.specs.declared.spending.Spending.{Spending}
use Rattle.pc_session.specs.Views.{Counts, SessionView, counts_of}

-- at most so many at the start of an edit that searches: those of the reasons, were no line shared, where all are more than twice as
-- many and 1,048,576 more
abbrev pub compacted : List TargetRow → ℕ → ℕ
compacted rows bytes = cond (nat_lt (2 * bytes_of_rows rows + 1048576) bytes) (bytes_of_rows rows) bytes

-- all lines count for 1,048,576 bytes more than twice what is live
abbrev pub is_due : Cached → Bool
is_due cache = nat_lt (2 * bytes_alive cache + 1048576) cache.bytes

-- the lines on which no reason rests are gone, and what is left counts as live
pub record IsCompacted (old new : Cached) : Type 0 where
  pub rows : new.rows ≡ old.rows
  pub bytes : new.bytes + old.spare ≡ old.bytes
  pub spare : new.spare ≡ 0
  pub live : new.live ≡ new.bytes

-- compacted exactly where it is due, and else as it was
pub record IsLeftWhereDue (old new : Cached) : Type 0 where
  pub due : is_due old ≡ true → IsCompacted old new
  pub rest : is_due old ≡ false → new ≡ old

-- what a refused edit leaves of so many, of which no reason rests on some: what there was, or, of more than 1,048,576, exactly those on
-- which reasons rest
abbrev pub IsLeft : ℕ → ℕ → ℕ → ℕ → Type 0
IsLeft bytes spare after spare_after = ((after ≡ bytes) × (spare_after ≡ spare)) ⊎ ((1048576 < bytes) × (after + spare ≡ bytes) × (spare_after ≡ 0))

-- what an accepted edit of an entry leaves: what there was, or no more than what is left when it is compacted and all new reasons
abbrev pub IsBounded : List TargetRow → ℕ → List TargetRow → ℕ → Type 0
IsBounded rows before new_rows after = (after ≡ before) ⊎ (after ≤ compacted rows before + bytes_of_rows new_rows)

-- what is left where the touched parts were searched: beside so many that stood before, no more than these searches' axioms, learned
-- clauses and calls allow, of which the tally is
abbrev pub IsWithinSpent : Sheet → Option CellId → Kept → Counts → ℕ → ℕ → Type 0
IsWithinSpent sheet touched kept counts before after = (s : Spending) × IsSpendingOf sheet touched s × (counts_of s.tally ≡ counts) × (after ≤ before + spent_bytes kept s)

-- what an accepted edit of the cell's entries leaves: what there was, or no more than what is left when it is compacted and what the search
-- of the cell's part allows
abbrev pub IsBoundedBySpent : SessionView → CellId → SessionView → Type 0
IsBoundedBySpent old cell new =
    (new.bytes ≡ old.bytes) ⊎ IsWithinSpent new.sheet (Some cell) new.components new.tally (compacted old.rows old.bytes) new.bytes
