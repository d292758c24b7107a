-- What a run does next, and how that may end it.
use Rattle.std.specs.Prelude.{◌≡◌, ℕ, ◌+◌, ◌<◌, ◌≤◌, ◌⊎◌, List, ◌++◌, length}
use Rattle.pc_lines.specs.Lines.{HasNoEnd, IsOpenLine, IsWholeLine, IsLongStart}
use Rattle.pc_port.specs.declared.TheConstants.{CHUNK}
use Rattle.pc_lines.specs.declared.TheConstants.{SHEET_LIMIT}
use Rattle.pc_refusals.specs.declared.status.Status.{Status}
use Rattle.pc_refusals.specs.Events.{Event, took, gave}

-- What a run takes in: a line of a sheet, behind this text of it; a line of at most so many bytes; no line more; all that the input has, of at
-- most so many bytes; or a sheet from a file.
pub data Intake : Type 0 where
  sheet_line : List ℕ → Intake
  line_within : ℕ → Intake
  no_line_within : ℕ → Intake
  rest_within : ℕ → Intake
  sheet_file : List ℕ → Intake

-- It takes something in; it needs memory, and tells this line where there is none; it tells a piece; it tells its last piece and ends so; or it ends.
pub data Stage : Type 0 where
  takes : Intake → Stage
  needs : List ℕ → Stage
  tells : List ℕ → Stage
  ends_with : List ℕ → Status → Stage
  ends : Status → Stage

-- a line with its line feed, or the last of an input without one, which then has a byte
abbrev pub IsLine : ℕ → List ℕ → Type 0
IsLine limit line = IsWholeLine limit line ⊎ (IsOpenLine limit line × (0 < length line))

-- so much may have been taken in where a read fails: no whole line
abbrev pub CanBegin : Intake → List ℕ → Type 0
CanBegin (sheet_line text) begun = HasNoEnd begun × (length (text ++ begun) ≤ SHEET_LIMIT)
CanBegin (line_within limit) begun = IsOpenLine limit begun
CanBegin (no_line_within limit) begun = IsOpenLine limit begun
CanBegin (rest_within limit) begun = length begun ≤ limit
CanBegin (sheet_file name) begun = ⊥

-- what was taken in passes its limit: by one byte, by one line, or by no more than one read gives
abbrev pub PassesLimit : Intake → Event → Type 0
PassesLimit (sheet_line text) (took begun) = (HasNoEnd begun ⊎ IsWholeLine SHEET_LIMIT begun) × (length (text ++ begun) ≡ SHEET_LIMIT + 1)
PassesLimit (line_within limit) (took begun) = IsLongStart limit begun
PassesLimit (no_line_within limit) (took begun) = IsLongStart limit begun ⊎ IsLine limit begun
PassesLimit (rest_within limit) (took bytes) = (limit < length bytes) × (length bytes ≤ limit + CHUNK)
PassesLimit (sheet_file name) (gave asked text) = (asked ≡ name) × (SHEET_LIMIT < length text)
PassesLimit intake event = ⊥
