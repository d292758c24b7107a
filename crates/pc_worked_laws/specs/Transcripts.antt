-- Legal and illegal transcripts of two lines, over a state that is a number: `count` adds one, and `show` tells whether it is 0.
use Rattle.std.specs.Prelude.{◌≡◌, ℕ, zero, suc, ◌+◌, List, [], ◌∷◌, ◌++◌, codes}
use Rattle.std.specs.declared.option.Option.TheVariants.{Some}
use Rattle.pc_refusals.specs.declared.refusal.Refusal.TheVariants.{NoRule}
use Rattle.pc_refusals.specs.declared.status.Status.TheVariants.{Done, SomeRefused}
use Rattle.pc_transcript.specs.Answer.{Answer, silent, accepted, shown, refused, no_memory}
use Rattle.pc_refusals.specs.Endings.{printed}
use Rattle.pc_writer.specs.SheetText.{ended}
use Rattle.pc_transcript.specs.Transcript.{Legal, status_of, output_of}
use Rattle.pc_run_laws.specs.Answered.{AnswersAll}

-- what is shown
abbrev pub told : ℕ → List ℕ
told zero = ended (codes "none")
told (suc n) = ended (codes "some")

-- how a line may be answered in a state, and which state it leaves
abbrev pub CountsUp : ℕ → List ℕ → Answer → ℕ → Type 0
CountsUp old line silent new = (line ≡ []) × (new ≡ old)
CountsUp old line accepted new = (line ≡ codes "count") × (new ≡ old + 1)
CountsUp old line (shown text) new = (line ≡ codes "show") × (text ≡ told old) × (new ≡ old)
CountsUp old line (refused why more) new = (why ≡ NoRule) × (more ≡ []) × (new ≡ old)
CountsUp old line no_memory new = new ≡ old

abbrev pub count_line : List ℕ
count_line = ended (codes "count")

abbrev pub show_line : List ℕ
show_line = ended (codes "show")

pub record WorkedTranscripts : Type 0 where
  pub none : Legal CountsUp 3 [] 3
  -- what is shown is the state that the line before left
  pub counted : Legal CountsUp 0 ((count_line, accepted) ∷ (show_line, shown (told 1)) ∷ []) 1
  pub stale : ¬ Legal CountsUp 0 ((count_line, accepted) ∷ (show_line, shown (told 0)) ∷ []) 1
  pub turned : ¬ Legal CountsUp 0 ((show_line, shown (told 1)) ∷ (count_line, accepted) ∷ []) 1
  -- after a refusal the state stays
  pub refused_stays : Legal CountsUp 0 ((count_line, refused NoRule []) ∷ (show_line, shown (told 0)) ∷ []) 0
  pub refused_moves : ¬ Legal CountsUp 0 ((count_line, refused NoRule []) ∷ (show_line, shown (told 1)) ∷ []) 1
  -- no line goes without its answer
  pub unanswered : ¬ Legal CountsUp 0 ((count_line, silent) ∷ (show_line, shown (told 0)) ∷ []) 0
  -- a carriage return is no part of the line's text
  pub with_return : Legal CountsUp 0 ((codes "count" ++ 13 ∷ 10 ∷ [], accepted) ∷ (show_line, shown (told 1)) ∷ []) 1
  pub status_counted : status_of ((count_line, accepted) ∷ (show_line, shown (told 1)) ∷ []) ≡ Done
  pub status_refused : status_of ((count_line, refused NoRule []) ∷ (show_line, shown (told 0)) ∷ []) ≡ SomeRefused
  pub output : output_of ((count_line, accepted) ∷ (show_line, shown (told 1)) ∷ []) ≡ codes "ok\nsome\n"

-- of an input that tells its bytes, to its end
pub record WorkedAnswers : Type 0 where
  pub all : AnswersAll CountsUp 0 1 Done (printed (codes "ok\nsome\n") []) (Some (codes "count\nshow\n")) (Some [])
  -- the last line without its line feed counts
  pub last_line : AnswersAll CountsUp 0 1 Done (printed (codes "ok\nsome\n") []) (Some (codes "count\nshow")) (Some [])
  -- bytes are left
  pub not_to_the_end : ¬ AnswersAll CountsUp 0 1 Done (printed (codes "ok\n") []) (Some (codes "count\nshow\n")) (Some (codes "show\n"))
  -- a line is left out
  pub one_less : ¬ AnswersAll CountsUp 0 1 Done (printed (codes "some\n") []) (Some (codes "count\nshow\n")) (Some [])
  -- another status
  pub told_as_refused : ¬ AnswersAll CountsUp 0 1 SomeRefused (printed (codes "ok\nsome\n") []) (Some (codes "count\nshow\n")) (Some [])
