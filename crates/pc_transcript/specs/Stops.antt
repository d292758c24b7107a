-- Why no state is made of a sheet's text, and how that ends a run.
use Rattle.std.specs.Prelude.{◌≡◌, ℕ, List, ◌++◌}
use Rattle.std.specs.declared.option.Option.{Option}
use Rattle.pc_refusals.specs.declared.refusal.SheetRefusal.{SheetRefusal}
use Rattle.pc_refusals.specs.declared.status.Status.{Status}
use Rattle.pc_refusals.specs.declared.status.Status.TheVariants.{SheetRefused}
use Rattle.pc_refusals.specs.declared.status.Status.TheVariants as st
use Rattle.pc_refusals.specs.Refusals.{sheet_refusal_text}
use Rattle.pc_refusals.specs.Endings.{TellsAtEnd, sheet_memory_text}
use Rattle.pc_transcript.specs.declared.machine.LoadStop.{LoadStop}
use Rattle.pc_transcript.specs.declared.machine.LoadStop.TheVariants.{Refused, Memory}
use Rattle.pc_transcript.specs.Answer.{IsToldBehind}

-- why no state is made of a text: a refusal with what is told after it, or want of memory, and then the notes stay
abbrev pub StopsBy : {Q N : Type 0} → (Q → List ℕ → Type 0) → (SheetRefusal → List ℕ → Type 0) → N → N → LoadStop Q → Type 0
StopsBy IsProof Has notes notes' (Refused why proof) = (more : List ℕ) → IsToldBehind IsProof proof more → Has why more
StopsBy IsProof Has notes notes' Memory = notes' ≡ notes

-- a sheet's refusal was told, with what shows that it is right, or that memory was wanted for it
abbrev pub TellsStop : {Q : Type 0} → (Q → List ℕ → Type 0) → LoadStop Q → Status → Option (List ℕ) → Option (List ℕ) → Type 0
TellsStop IsProof (Refused why proof) result sink sink' = (more : List ℕ) × IsToldBehind IsProof proof more × TellsAtEnd SheetRefused (sheet_refusal_text why ++ more) result sink sink'
TellsStop IsProof Memory result sink sink' = TellsAtEnd st.Memory sheet_memory_text result sink sink'
