-- How many bytes an edit or a load leaves, by what was spent.
use Rattle.std.proofs.Common.{◌≡◌, ℕ, ◌+◌, ◌≤◌, [], Option, None, ap, sym, arith}
use Rattle.pc_sheet.specs.Sheet.{Sheet}
use Rattle.pc_sheet.specs.declared.ids.CellId.{CellId}
use Rattle.pc_components.specs.View.{Kept}
use Rattle.pc_lits.specs.declared.tally.Tally.{Tally}
use Rattle.pc_cache.specs.Patches.{PatchView, patch_bytes}
use Rattle.pc_theory.specs.KeptBytes.{spent_bytes}
use Rattle.pc_theory.specs.Spendings.{IsSpendingOf}
use Rattle.pc_theory.specs.declared.spending.Spending.{Spending}
use Rattle.pc_session.specs.Arena.{IsWithinSpent}
use Rattle.pc_session.specs.Views.{Counts, counts_of}

placed_behind : (before patch after spent : ℕ) → after ≡ before + patch → patch ≤ spent → after ≤ before + spent
placed_behind before patch after spent is few = omega (arith, is, few)

-- what was put beside so many
pub within_put : (sheet : Sheet) (touched : Option CellId) (kept : Kept) (tally : Tally) (s : Spending) (patch : PatchView) (before after : ℕ) → IsSpendingOf sheet touched s → tally ≡ s.tally → after ≡ before + patch_bytes patch
    → patch_bytes patch ≤ spent_bytes kept s → IsWithinSpent sheet touched kept (counts_of tally) before after
within_put sheet touched kept tally s patch before after spends is put few = (s, spends, ap counts_of (sym is), placed_behind before (patch_bytes patch) after (spent_bytes kept s) put few)

later : (before more after spent : ℕ) → before ≤ more → after ≤ before + spent → after ≤ more + spent
later before more after spent up few = omega (arith, up, few)

-- and beside more
pub within_up : (sheet : Sheet) (touched : Option CellId) (kept : Kept) (counts : Counts) (before more after : ℕ) → before ≤ more → IsWithinSpent sheet touched kept counts before after → IsWithinSpent sheet touched kept counts more after
within_up sheet touched kept counts before more after up h = (h.0, h.1, h.2, later before more after (spent_bytes kept h.0) up h.3)

-- what was put into nothing
pub within_new : (sheet : Sheet) (kept : Kept) (tally : Tally) (s : Spending) (before patch : PatchView) (after : ℕ) → IsSpendingOf sheet None s → tally ≡ s.tally → before ≡ record { rows = []; settled = 0; last = [] } → after ≡ patch_bytes patch
    → patch_bytes patch ≤ patch_bytes before + spent_bytes kept s → IsWithinSpent sheet None kept (counts_of tally) 0 after
within_new sheet kept tally s before patch after spends is blank put few = (s, spends, ap counts_of (sym is), into_none (patch_bytes before) (patch_bytes patch) after (spent_bytes kept s) (ap patch_bytes blank) put few)
  where
    into_none : (before patch after spent : ℕ) → before ≡ 0 → after ≡ patch → patch ≤ before + spent → after ≤ 0 + spent
    into_none before patch after spent none is few = omega (arith, none, is, few)
