-- How far the lines of a journal's posts are answered.
use Rattle.std.specs.Prelude.{◌≡◌, ℕ, List}
use Rattle.std.specs.declared.option.Option.{Option}
use Rattle.std.specs.List.{list_any}
use Rattle.pc_refusals.specs.Events.{Outside, Happened, streams, around}
use Rattle.pc_transcript.specs.declared.serve.Marks.{Marks}
use Rattle.pc_transcript.specs.Answer.{Answer, is_refused, is_no_memory}
use Rattle.pc_transcript.specs.Transcript.{Transcript, Legal, lines}
use Rattle.pc_journal.specs.Course.{answers_told}

-- these lines are answered, from the start on
pub record Progress {S : Type 0} (Allows : S → List ℕ → Answer → S → Type 0) (start state : S) (marks : Marks) (done : List (List ℕ)) (sink sink' : Option (List ℕ)) : Type 0 where
  pub transcript : Transcript
  pub legal : Legal Allows start transcript state
  pub lines_are : lines transcript ≡ done
  pub refused : marks.refused ≡ list_any (λ pair. is_refused pair.1) transcript
  pub no_memory : marks.no_memory ≡ list_any (λ pair. is_no_memory pair.1) transcript
  pub happened : (o : Outside) (l : Option (List ℕ)) (n m : ℕ) → Happened (answers_told transcript) (around o (streams l n sink m)) (around o (streams l n sink' m))
