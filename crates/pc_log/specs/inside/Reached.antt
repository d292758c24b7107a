-- The lines that `trim` reaches, and how it appends them.
use Rattle.std.specs.Prelude.{◌≡◌, ℕ, ◌+◌, ◌<◌, ◌≤◌, ◌⊎◌, ◌↔◌, List, Contains, map, take, length, slice_index_or}
use Rattle.pc_log.specs.declared.log.StepId.{StepId}
use Rattle.pc_log.specs.Lines.{LogLine, AxiomLine, BlockLine, StepLine}
use Rattle.pc_log.specs.Rests.{Rests}
use Rattle.pc_log.specs.Sparse.{index_of, line_at}
use Rattle.pc_log.specs.Trimmed.{moved}

-- the slot of each reached line says where the line stands among them
abbrev pub AreSlotted : List ℕ → List ℕ → Type 0
AreSlotted reached slots = (k d : ℕ) → k < length reached → (slice_index_or reached k d < length slots) × (slice_index_or slots (slice_index_or reached k d) 0 ≡ k)

-- more lines were reached, exactly these
pub record AreReached (before after slots : List ℕ) (IsOneMore : ℕ → Type 0) : Type 0 where
  pub slotted : AreSlotted after slots
  pub front : take (length before) after ≡ before
  pub exactly : (j : ℕ) → Contains after j ↔ (Contains before j ⊎ IsOneMore j)

-- the lines that the last one rests on, each once, in any order
pub record AreFound (lines : List LogLine) (last : ℕ) (reached slots : List ℕ) : Type 0 where
  pub slotted : AreSlotted reached slots
  pub exactly : (j : ℕ) → Contains reached j ↔ Rests lines last j
  pub up_to : (j : ℕ) → Contains reached j → j ≤ last

-- ---- appended

-- a line with these hints, where it has hints
abbrev pub with_hints : LogLine → List StepId → LogLine
with_hints (AxiomLine number) hints = AxiomLine number
with_hints (BlockLine number clause) hints = BlockLine number clause
with_hints (StepLine clause before learned) hints = StepLine clause hints learned

-- where a line comes to stand: behind the lines of the other log and those before it among these places
abbrev pub new_place : List ℕ → ℕ → ℕ → ℕ
new_place places base i = base + index_of i places

-- the lines at these places, moved behind others
abbrev pub renumbered : List LogLine → List ℕ → ℕ → List LogLine
renumbered lines places base = map (λ i. moved (new_place places base) (line_at lines i)) places
