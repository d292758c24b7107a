-- What was found, put in order and appended is trimmed.
use Rattle.std.proofs.Common.{◌≡◌, ℕ, ◌+◌, ◌<◌, ◌≤◌, List, [], ◌++◌, length}
use Rattle.std.specs.List.Sorted.{IsPermutation, IsNonDecreasing}
use Rattle.pc_log.specs.declared.trimming.Span.{Span}
use Rattle.pc_log.specs.Lines.{LogLine}
use Rattle.pc_log.specs.Spans.{IsSpanOf, lines_of_span}
use Rattle.pc_log.specs.Trimmed.{IsTrimmed}
use Rattle.pc_log.specs.inside.Reached.{AreFound, renumbered}
use Rattle.pc_log.proofs.ReachLemmas.{in_order}
use Rattle.pc_log.proofs.TrimmedLemmas.{trimmed_by, closed_by, grew}
use Rattle.pc_log.proofs.SpanLemmas.{trimmed_alone}

module _ (lines : List LogLine) (last : ℕ) (reached slots sorted : List ℕ) (old new : List LogLine) (within : last < length lines) (found : AreFound lines last reached slots)
    (moved : IsPermutation reached sorted) (rising : IsNonDecreasing sorted) (added : new ≡ old ++ renumbered lines sorted (length old)) where
  pub sorted_is_trimmed : IsTrimmed lines last old new
  sorted_is_trimmed = trimmed_by lines last old new sorted within (in_order lines last reached slots sorted found moved rising) added

  pub sorted_is_some : 1 ≤ length new
  sorted_is_some = grew lines last old new sorted_is_trimmed

  pub sorted_alone : (span : Span) → span.first.0 ≡ length old → span.last.0 + 1 ≡ length new → IsSpanOf new span × IsTrimmed lines last [] (lines_of_span new span)
  sorted_alone span first end =
      trimmed_alone lines last old new span sorted_is_trimmed
      (closed_by lines last old new sorted span within (in_order lines last reached slots sorted found moved rising) added first end) first end
