-- How many bytes the lines count for that a search puts into a patch.
use Rattle.std.proofs.Common.{◌≡◌, ℕ, zero, suc, ◌+◌, ◌*◌, ◌≤◌, List, [], ◌∷◌, ◌++◌, Option, None, Some, length, slice_get, ap, sym, subst, arith}
use Rattle.std.proofs.Math.Nat.{mul-le-mul_left}
use Rattle.pc_log.specs.Lines.{LogLine}
use Rattle.pc_log.specs.Sizes.{bytes_of}
use Rattle.pc_cache.specs.Patches.{PatchView, patch_bytes, AreOfLog}
use Rattle.pc_solver.specs.InLog.{LogGrows}
use Rattle.pc_solver.specs.Solver.{Problem, IsSolverLog}
use Rattle.pc_search.specs.Found.{search_bytes, steps_in}
use Rattle.pc_search.specs.Laws.{SearchLogsAreSmall}

-- ---- lines of one log

stays : (xs ys : List LogLine) (i : ℕ) (line : LogLine) → slice_get xs i ≡ Some line → slice_get (xs ++ ys) i ≡ Some line
stays [] ys i line at = absurd (cc)
stays (x ∷ xs) ys zero line at = at
stays (x ∷ xs) ys (suc i) line at = stays xs ys i line at

-- lines of a log are lines of one that has grown from it
pub of_grown : (lines : List (Option LogLine)) (log grown : List LogLine) (rose more : ℕ) → LogGrows log grown rose more → AreOfLog lines log → AreOfLog lines grown
of_grown lines log grown rose more g are i line there = subst (λ (ls : List LogLine). slice_get ls i ≡ Some line) (sym g.added) (stays log g.lines i line (are i line there))

-- ---- a patch of which all is settled

no_line : (line : LogLine) → None ≡ Some line → ⊥
no_line line same = cc

module _ (old new : PatchView) (is : new ≡ record { rows = old.rows; settled = patch_bytes old; last = [] }) where
  pub settled_all : new.settled ≡ patch_bytes old
  settled_all = ap (λ (p : PatchView). p.settled) is

  pub of_any_log : (log : List LogLine) → AreOfLog new.last log
  of_any_log log = subst (λ (p : PatchView). AreOfLog p.last log) (sym is) (λ i line there. absurd (no_line line there))

-- ---- bytes

within_more : (a m s w before after b : ℕ) → s ≤ w → b ≤ a + m * s → after ≤ before + b → after ≤ before + (a + m * w)
within_more a m s w before after b few small is =
    let more : m * s ≤ m * w = mul-le-mul_left m few in
    omega (arith, more, small, is)

-- where all lines are of the log of a search with so few steps
pub bytes_within : SearchLogsAreSmall → (p : Problem) (log : List LogLine) (most before after : ℕ) → IsSolverLog p [] log → steps_in log ≤ most → after ≤ before + bytes_of log
    → after ≤ before + search_bytes (length p.used) (length p.own) most
bytes_within small p log most before after lawful few is =
    within_more (16 * length p.used) (24 + 8 * length p.own) (steps_in log) most before after (bytes_of log) few (small p log lawful) is

-- and with more steps
pub bytes_up : (axioms own less more before after : ℕ) → less ≤ more → after ≤ before + search_bytes axioms own less → after ≤ before + search_bytes axioms own more
bytes_up axioms own less more before after up is =
    within_more (16 * axioms) (24 + 8 * own) less more before after (search_bytes axioms own less) up (omega arith) is
