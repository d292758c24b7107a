-- An answer notes at most one more.
use Rattle.std.proofs.Common.{◌≡◌, ℕ, List, ap, inl, inr}
use Rattle.pc_refusals.specs.declared.refusal.Refusal.{Refusal}
use Rattle.pc_transcript.specs.Answer.{Answer, silent, accepted, shown, refused, no_memory}
use Rattle.pc_spreadsheet.specs.Tasks.{State}
use Rattle.pc_spreadsheet.specs.Allowed.{Notes, Allows, RefusesLine, as_judged, as_contradiction, as_spent, as_proof_spent, as_ask_spent}
use Rattle.pc_run_laws.specs.Statuses.{IsOneMore}

none_more : (old new : State × Notes) → new ≡ old → IsOneMore old.1 new.1
none_more old new same = inl (ap (λ (pair : State × Notes). pair.1) same)

refusal_notes : (old new : State × Notes) (line : List ℕ) (why : Refusal) (more : List ℕ) → RefusesLine old line why more new → IsOneMore old.1 new.1
refusal_notes old new line why more (as_judged judged none same) = none_more old new same
refusal_notes old new line why more (as_contradiction r contradiction certificate is same) = none_more old new same
refusal_notes old new line why more (as_spent counts spends is none same) = inr (_, spends.2.spent.noted)
refusal_notes old new line why more (as_proof_spent counts spends is none same) = inr (_, spends.2.1.noted)
refusal_notes old new line why more (as_ask_spent counts spends is none same) = inr (_, spends.2.2.noted)

pub notes_one : (old new : State × Notes) (line : List ℕ) (answer : Answer) → Allows old line answer new → IsOneMore old.1 new.1
notes_one old new line silent allowed = none_more old new allowed.1
notes_one old new line accepted allowed = inl (ap (λ (pair : State × Notes). pair.1) allowed.3)
notes_one old new line (shown text) allowed = none_more old new allowed.3
notes_one old new line (refused why more) allowed = refusal_notes old new line why more allowed
notes_one old new line no_memory allowed = none_more old new allowed.1
