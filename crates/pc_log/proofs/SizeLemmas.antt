-- How many bytes lines count for.
use Rattle.std.proofs.Common.{◌≡◌, ℕ, ◌+◌, ◌*◌, List, ◌∷◌, length, refl, ap}
use Rattle.std.proofs.lemmas.List.{length-map}
use Rattle.std.proofs.lemmas.List.Sums.{sum_by-cons}
use Rattle.pc_log.specs.declared.log.StepId.{StepId}
use Rattle.pc_log.specs.Lines.{LogLine, AxiomLine, BlockLine, StepLine}
use Rattle.pc_log.specs.Sizes.{line_bytes, bytes_of}
use Rattle.pc_log.specs.Trimmed.{moved}

-- a line with others
pub bytes-cons : (line : LogLine) (lines : List LogLine) → bytes_of (line ∷ lines) ≡ line_bytes line + bytes_of lines
bytes-cons line lines = sum_by-cons line_bytes line lines

-- lines that moved count for as much
pub bytes_of_moved : (to : ℕ → ℕ) (line : LogLine) → line_bytes (moved to line) ≡ line_bytes line
bytes_of_moved to (AxiomLine number) = refl
bytes_of_moved to (BlockLine number clause) = refl
bytes_of_moved to (StepLine clause hints learned) = ap (λ n. 16 + 4 * length clause + 8 * n) (length-map hints (λ (h : StepId). let x : StepId = record { 0 = to h.0 } in x))
