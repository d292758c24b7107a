-- What was taken of an input, read after read.
use Rattle.std.proofs.Common.{◌≡◌, ℕ, ◌-◌, ◌≤◌, ◌<◌, List, [], ◌++◌, length, ap, subst, ◌∙◌, arith, Option, Result, Ok, Err, Vec, length-append}
use Rattle.std.specs.Prelude.{IsErrAnd}
use Rattle.std.specs.declared.alloc.Global.{Global}
use Rattle.std.specs.Io.KnownBytes.{Consumes, Keeps, IsAtEnd}
use Rattle.std.proofs.KnownBytes.{Consumes-trans, Consumes-kept}
use Rattle.std.proofs.lemmas.List.{append-nil}
use Rattle.pc_port.specs.declared.TheConstants.{CHUNK}
use Rattle.pc_refusals.specs.declared.input.InputStop.{InputStop}
use Rattle.pc_refusals.specs.declared.input.InputStop.TheVariants.{Failed, TooLong, Memory}
use Rattle.pc_refusals.specs.Inputs.{TakesAll, TakesSome, InputPassesLimit, InputGives}

module _ (limit : ℕ) (source mid rest : Option (List ℕ)) (text : List ℕ) (so_far : Consumes source mid text) (small : length text ≤ limit) where
  -- a read that failed took nothing
  pub fails : Keeps mid rest → TakesSome limit source rest
  fails kept = record { text = text; taken = Consumes-kept source mid rest text so_far kept; small = small }

  module _ (piece : List ℕ) (taken : Consumes mid rest piece) where
    -- a read that gave nothing came to the end
    pub ends : piece ≡ [] → IsAtEnd rest → TakesAll limit text source rest
    ends none at_end = record {
      taken = subst (λ (l : List ℕ). Consumes source rest l) (ap (λ (l : List ℕ). text ++ l) none ∙ append-nil text) (Consumes-trans source mid rest text piece so_far taken);
      end = at_end;
      small = small;
    }

    pub passes : (count : ℕ) → length piece ≡ count → count ≤ CHUNK → limit - length text < count → InputPassesLimit limit source rest
    passes count size few long = record {
      text = text ++ piece;
      taken = Consumes-trans source mid rest text piece so_far taken;
      long = omega (arith, length-append text piece, size, long);
      few = omega (arith, length-append text piece, size, few, small);
    }

    pub goes_on : (count : ℕ) → length piece ≡ count → count ≤ limit - length text → TakesSome limit source rest
    goes_on count size room = record {
      text = text ++ piece;
      taken = Consumes-trans source mid rest text piece so_far taken;
      small = omega (arith, length-append text piece, size, room, small);
    }

-- want of memory, within the limit
pub lacks_memory : (limit : ℕ) (outcome : Result (Vec ℕ Global) InputStop) (source rest : Option (List ℕ)) → IsErrAnd outcome (λ stop. stop ≡ Memory) → TakesSome limit source rest → InputGives limit outcome source rest
lacks_memory limit (Ok text) source rest stops some = absurd stops
lacks_memory limit (Err Failed) source rest stops some = some
lacks_memory limit (Err TooLong) source rest stops some = absurd (cc stops)
lacks_memory limit (Err Memory) source rest stops some = some
