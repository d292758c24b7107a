-- Changes of rows that are not made yet, as they are seen.
use Rattle.std.specs.Prelude.{◌≡◌, ◌+◌, ◌≤◌, ℕ, List, Option, Some, slice_get}
use Rattle.pc_log.specs.Lines.{LogLine}
use Rattle.pc_log.specs.Sizes.{bytes_of}
use Rattle.pc_log.specs.Sparse.{bytes_there, line_there}
use Rattle.pc_cache.specs.Rows.{TargetRow}

-- the changes; how many bytes the lines count for to which none is added any more; and the others, at the places of one log
pub record PatchView : Type 0 where
  pub rows : List TargetRow
  pub settled : ℕ
  pub last : List (Option LogLine)

-- how many bytes all its lines count for
abbrev pub patch_bytes : PatchView → ℕ
patch_bytes p = p.settled + bytes_there p.last

-- each line stands in the log, at the same place
abbrev pub AreOfLog : List (Option LogLine) → List LogLine → Type 0
AreOfLog lines log = (i : ℕ) (line : LogLine) → line_there lines i ≡ Some line → slice_get log i ≡ Some line

-- where the lines to which others are added are of the log, or of one that it has grown from, they are still of it, and no other ones are settled
abbrev pub Shares : PatchView → PatchView → List LogLine → Type 0
Shares old new log = AreOfLog old.last log → (new.settled ≡ old.settled) × AreOfLog new.last log

-- lines of a log, beside settled ones, count for no more than the log
abbrev pub LinesOfALogAreFew : Type 0
LinesOfALogAreFew = (p : PatchView) (log : List LogLine) → AreOfLog p.last log → patch_bytes p ≤ p.settled + bytes_of log
