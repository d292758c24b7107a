-- One text written after another.
use Rattle.std.proofs.Common.{◌≡◌, ℕ, List, [], ◌++◌, Option, Result, Ok, Err, IsErr, arith, refl, subst, ◌∙◌}
use Rattle.std.proofs.KnownBytes.{Appends-nil, Appends-trans}
use Rattle.pc_port.proofs.Told.{front_of_first, front_of_second}
use Rattle.pc_writer.specs.Writes.{Writes}

-- nothing was written
pub Writes-nil : {S T E : Type 0} (given : S → Option (List ℕ)) (faults : S → ℕ) (sink : S) (done : T) → Writes {E = E} given faults sink sink (Ok done) []
Writes-nil given faults sink done = record { bytes = Appends-nil (given sink); cause = record { later = omega arith; failed = tt; kept = refl } }

module _ {S : Type 0} {given : S → Option (List ℕ)} {faults : S → ℕ} {before after : S} where
  -- a text that was cut short is the front of all that was to be written
  pub Writes-cut : {T U D E : Type 0} {xs : List ℕ} {fault : E} (outcome : Result U D) (ys : List ℕ) → IsErr outcome → Writes {T = T} given faults before after (Err fault) xs → Writes given faults before after outcome (xs ++ ys)
  Writes-cut (Ok x) ys fails wrote = absurd (cc)
  Writes-cut {xs = xs} (Err e) ys fails wrote =
      record { bytes = front_of_first (given before) (given after) xs ys wrote.bytes; cause = record { later = wrote.cause.later; failed = wrote.cause.failed; kept = tt } }

  pub Writes-front : {T D E : Type 0} {xs : List ℕ} {fault : E} (ys : List ℕ) → Writes {T = T} {E = E} given faults before after (Err fault) xs → Writes {T = D} given faults before after (Err fault) (xs ++ ys)
  Writes-front {fault = fault} ys wrote = Writes-cut (Err fault) ys refl wrote

module _ {S : Type 0} {given : S → Option (List ℕ)} {faults : S → ℕ} {before middle after : S} where
  -- one text and then another
  pub Writes-then : {T U D E : Type 0} {done : T} {xs ys : List ℕ} {outcome : Result U E} → Writes {E = D} given faults before middle (Ok done) xs → Writes given faults middle after outcome ys → Writes given faults before after outcome (xs ++ ys)
  Writes-then {xs = xs} {ys = ys} {outcome = Ok x} first second =
      record {
        bytes = Appends-trans (given before) (given middle) (given after) xs ys first.bytes second.bytes;
        cause = record { later = omega (arith, first.cause.later, second.cause.later); failed = tt; kept = second.cause.kept ∙ first.cause.kept };
      }
  Writes-then {xs = xs} {ys = ys} {outcome = Err e} first second =
      record {
        bytes = front_of_second (given before) (given middle) (given after) xs ys first.bytes second.bytes;
        cause = record { later = omega (arith, first.cause.later, second.cause.later); failed = omega (arith, first.cause.later, second.cause.failed); kept = tt };
      }

-- the same text
pub Writes-same : {S T E : Type 0} {given : S → Option (List ℕ)} {faults : S → ℕ} {before after : S} {outcome : Result T E} {xs ys : List ℕ} → xs ≡ ys → Writes given faults before after outcome xs → Writes given faults before after outcome ys
Writes-same {given = given} {faults = faults} {before = before} {after = after} {outcome = outcome} same wrote = subst (Writes given faults before after outcome) same wrote
