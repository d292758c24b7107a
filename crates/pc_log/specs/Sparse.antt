-- Lines at their places, with gaps, and derivations among them.
use Rattle.std.specs.Prelude.{◌≡◌, ℕ, suc, ◌≤◌, ◌==◌, ◌↔◌, ◌⊎◌, List, [], ◌∷◌, Option, Some, None, Contains, cond, map, slice_index_or}
use Rattle.std.specs.List.{sum_by}
use Rattle.std.specs.List.Sorted.{IsStrictlyIncreasing}
use Rattle.pc_log.specs.Lines.{LogLine, AxiomLine, hints_of}
use Rattle.pc_log.specs.Rests.{Rests}
use Rattle.pc_log.specs.Sizes.{line_bytes}
use Rattle.pc_log.specs.Trimmed.{moved}

-- ---- places of a log's lines

abbrev pub line_at : List LogLine → ℕ → LogLine
line_at lines i = slice_index_or lines i (AxiomLine 0)

-- the places of the line `last` and of the lines that it rests on, in their order
pub record AreRested (lines : List LogLine) (last : ℕ) (places : List ℕ) : Type 0 where
  pub rise : IsStrictlyIncreasing places
  pub exactly : (j : ℕ) → Contains places j ↔ Rests lines last j
  pub up_to : (j : ℕ) → Contains places j → j ≤ last

-- where a number stands in a list; its length, where it stands nowhere
abbrev pub index_of : ℕ → List ℕ → ℕ
index_of i [] = 0
index_of i (x ∷ xs) = cond (x == i) 0 (suc (index_of i xs))

-- ---- lines with gaps

-- the line at this place, or none where there is a gap, and past the end
abbrev pub line_there : List (Option LogLine) → ℕ → Option LogLine
line_there lines i = slice_index_or lines i None

-- the axiom 0 for a gap
abbrev pub line_or : Option LogLine → LogLine
line_or None = AxiomLine 0
line_or (Some line) = line

-- the line at this place, where there is one
abbrev pub line_in : List (Option LogLine) → ℕ → LogLine
line_in lines i = line_or (line_there lines i)

-- a line stands at this place
abbrev pub IsThere : List (Option LogLine) → ℕ → Type 0
IsThere lines i = (line : LogLine) × (line_there lines i ≡ Some line)

-- each line stays where it is
abbrev pub Keeps : List (Option LogLine) → List (Option LogLine) → Type 0
Keeps old new = (i : ℕ) (line : LogLine) → line_there old i ≡ Some line → line_there new i ≡ Some line

-- no other line stands at this place
abbrev pub CanStand : LogLine → ℕ → List (Option LogLine) → Type 0
CanStand line i lines = (other : LogLine) → line_there lines i ≡ Some other → other ≡ line

-- at these places stand no other lines than the source's
abbrev pub MayStand : (ℕ → LogLine) → List ℕ → List (Option LogLine) → Type 0
MayStand source places lines = (i : ℕ) → Contains places i → CanStand (source i) i lines

-- at these places stand the source's lines
abbrev pub LinesStand : (ℕ → LogLine) → List ℕ → List (Option LogLine) → Type 0
LinesStand source places lines = (i : ℕ) → Contains places i → line_there lines i ≡ Some (source i)

-- each line stood there before, or is the source's at one of these places
abbrev pub AddsOnly : (ℕ → LogLine) → List ℕ → List (Option LogLine) → List (Option LogLine) → Type 0
AddsOnly source places old new =
    (i : ℕ) (line : LogLine) → line_there new i ≡ Some line → (line_there old i ≡ Some line) ⊎ (Contains places i × (line ≡ source i))

-- a gap counts for nothing
abbrev pub bytes_or : Option LogLine → ℕ
bytes_or None = 0
bytes_or (Some line) = line_bytes line

abbrev pub bytes_there : List (Option LogLine) → ℕ
bytes_there lines = sum_by bytes_or lines

-- the source's lines at these places, each hint counted by where its line stands among them
abbrev pub picked_from : (ℕ → LogLine) → List ℕ → List LogLine
picked_from source places = map (λ i. moved (λ h. index_of h places) (source i)) places

-- the derivation that lines with gaps have at these places
abbrev pub picked : List (Option LogLine) → List ℕ → List LogLine
picked lines places = picked_from (line_in lines) places

-- lines stand at these places, which rise, and the hints of each are such places
pub record IsPicked (lines : List (Option LogLine)) (places : List ℕ) : Type 0 where
  pub there : (i : ℕ) → Contains places i → IsThere lines i
  pub rise : IsStrictlyIncreasing places
  pub closed : (i h : ℕ) → Contains places i → Contains (hints_of (line_in lines i)) (record { 0 = h }) → Contains places h
