-- What the calls of a source and a sink do to the bytes that are told, and to the count of faults.
use Rattle.std.specs.Prelude.{◌≡◌, ℕ, ◌+◌, ◌-◌, ◌^◌, ◌≤◌, min, List, take, Result, Ok, Err, MatchResult, OnErr, OnOk}
use Rattle.std.specs.declared.option.Option.{Option}
use Rattle.std.specs.Io.KnownBytes.{Appends}

-- a count of 64 bits after one event more: it stays at its greatest value
abbrev pub one_more : ℕ → ℕ
one_more count = min (count + 1) (2 ^ 64 - 1)

-- a count of 64 bits has risen, or stands at its greatest value
abbrev pub Rose : ℕ → ℕ → Type 0
Rose before after = one_more before ≤ after

-- the count of faults after a call: one more where it failed
abbrev pub count_after : {T E : Type 0} → Result T E → ℕ → ℕ
count_after (Ok x) count = count
count_after (Err e) count = one_more count

-- the count of faults rises exactly where the call fails
pub record HasCause {T E : Type 0} (before after : ℕ) (outcome : Result T E) : Type 0 where
  pub later : before ≤ after
  pub failed : OnErr outcome (Rose before after)
  pub kept : OnOk outcome (after ≡ before)

-- told bytes grew by a front of the piece
pub record AppendsFront (before after : Option (List ℕ)) (piece : List ℕ) : Type 0 where
  pub count : ℕ
  pub front : Appends before after (take count piece)

-- a write appends the whole piece at `Ok`, and a front of it at `Err`
abbrev pub WriteGives : {T E : Type 0} → Option (List ℕ) → Option (List ℕ) → Result T E → List ℕ → Type 0
WriteGives before after outcome piece = MatchResult outcome (λ _. Appends before after piece) (λ _. AppendsFront before after piece)
