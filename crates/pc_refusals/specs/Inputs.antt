-- What was taken of an input that is read to its end.
use Rattle.std.specs.Prelude.{◌≡◌, ℕ, ◌+◌, ◌<◌, ◌≤◌, List, length, Vec, Result, Ok, Err}
use Rattle.std.specs.declared.alloc.Global.{Global}
use Rattle.std.specs.declared.option.Option.{Option}
use Rattle.std.specs.Io.KnownBytes.{Consumes, IsAtEnd}
use Rattle.pc_port.specs.declared.TheConstants.{CHUNK}
use Rattle.pc_refusals.specs.declared.input.InputStop.{InputStop}
use Rattle.pc_refusals.specs.declared.input.InputStop.TheVariants.{Failed, TooLong, Memory}
use Rattle.pc_refusals.specs.declared.status.Status.{Status}
use Rattle.pc_refusals.specs.declared.status.Status.TheVariants as status
use Rattle.pc_refusals.specs.Endings.{TellsAtEnd, too_long_text, memory_text}

-- The text is all that was still to come, and it is within the limit. Nothing is left.
pub record TakesAll (limit : ℕ) (text : List ℕ) (source source' : Option (List ℕ)) : Type 0 where
  pub taken : Consumes source source' text
  pub end : IsAtEnd source'
  pub small : length text ≤ limit

-- so much was taken, within the limit
pub record TakesSome (limit : ℕ) (source source' : Option (List ℕ)) : Type 0 where
  pub text : List ℕ
  pub taken : Consumes source source' text
  pub small : length text ≤ limit

-- more than the limit was taken, by no more than one read gives
pub record InputPassesLimit (limit : ℕ) (source source' : Option (List ℕ)) : Type 0 where
  pub text : List ℕ
  pub taken : Consumes source source' text
  pub long : limit < length text
  pub few : length text ≤ limit + CHUNK

-- what was taken where it was not all
abbrev pub StopsInput : ℕ → InputStop → Option (List ℕ) → Option (List ℕ) → Type 0
StopsInput limit Failed source source' = TakesSome limit source source'
StopsInput limit TooLong source source' = InputPassesLimit limit source source'
StopsInput limit Memory source source' = TakesSome limit source source'

abbrev pub InputGives : ℕ → Result (Vec ℕ Global) InputStop → Option (List ℕ) → Option (List ℕ) → Type 0
InputGives limit (Ok text) source source' = TakesAll limit text.items source source'
InputGives limit (Err stop) source source' = StopsInput limit stop source source'

-- What is told where it was not all: nothing of a failed read, that there was more than the limit, or that memory was wanting.
abbrev pub TellsInputStop : InputStop → Status → Option (List ℕ) → Option (List ℕ) → Type 0
TellsInputStop Failed result sink sink' = (result ≡ status.ReadFault) × (sink' ≡ sink)
TellsInputStop TooLong result sink sink' = TellsAtEnd status.TooLong too_long_text result sink sink'
TellsInputStop Memory result sink sink' = TellsAtEnd status.Memory memory_text result sink sink'
