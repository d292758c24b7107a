-- Runs of command lines, over a state that is a number: `count` adds one and may want memory, `drop` is refused.
use Rattle.std.specs.Prelude.{◌≡◌, ℕ, ◌+◌, ◌<◌, List, [], ◌∷◌, ◌++◌, length, codes}
use Rattle.std.specs.declared.option.Option.TheVariants.{Some, None}
use Rattle.pc_lines.specs.Lines.{IsLongStart}
use Rattle.pc_refusals.specs.declared.refusal.Refusal.TheVariants.{NoRule}
use Rattle.pc_refusals.specs.declared.status.Status.{Status}
use Rattle.pc_refusals.specs.declared.status.Status.TheVariants.{SomeRefused, ReadFault, WriteFault, Memory, TooLong}
use Rattle.pc_refusals.specs.Events.{Outside, Event, took, told, input_failed, output_failed}
use Rattle.pc_refusals.specs.Stages.{needs}
use Rattle.pc_refusals.specs.Runs.{IsSpare, Run, Ran}
use Rattle.pc_transcript.specs.declared.TheConstants.{LINE_LIMIT}
use Rattle.pc_transcript.specs.Answer.{Answer, silent, accepted, shown, refused, no_memory}
use Rattle.pc_transcript.specs.Course.{AnswersLines}
use Rattle.pc_run_laws.specs.Limits.{HasPassed}

-- how a line may be answered in a state, and which state it leaves
abbrev pub Counts : ℕ → List ℕ → Answer → ℕ → Type 0
Counts old line silent new = (line ≡ []) × (new ≡ old)
Counts old line accepted new = (line ≡ codes "count") × (new ≡ old + 1)
Counts old line (shown text) new = ⊥
Counts old line (refused why more) new = (line ≡ codes "drop") × (why ≡ NoRule) × (more ≡ []) × (new ≡ old)
Counts old line no_memory new = (line ≡ codes "count") × (new ≡ old)

-- no shelf, an input that has this left and was so often at fault, and an output that was given this
abbrev pub before_it : List ℕ → ℕ → List ℕ → ℕ → Outside
before_it input input_faults output output_faults = record { kept = None; asked = []; shelf_faults = 0; input = Some input; input_faults = input_faults; output = Some output; output_faults = output_faults }

pub record WorkedRuns : Type 0 where
  -- a command is refused
  pub with_refusal : Ran (AnswersLines Counts 0) 0 SomeRefused 1 (before_it (codes "count\ndrop\n") 0 [] 0) (before_it [] 0 (codes "ok\nrefused 18 no-rule\n") 0)
  -- a read fails in mid-line: the complete line is answered
  pub read_fails : Ran (AnswersLines Counts 0) 0 ReadFault 1 (before_it (codes "count\ncou") 0 [] 0) (before_it [] 1 (codes "ok\n") 0)
  -- a write fails in mid-answer, where a line more was read ahead
  pub write_fails : Ran (AnswersLines Counts 0) 6 WriteFault 1 (before_it (codes "count\ncount\n") 0 [] 0) (before_it [] 0 (codes "o") 1)
  -- a line is too long, and what stands behind it was not read
  pub passes_limit : (line more : List ℕ) → IsLongStart LINE_LIMIT line → Ran (AnswersLines Counts 0) 0 TooLong 0 (before_it (line ++ more) 0 [] 0) (before_it more 0 (codes "refused 19 too-long\n") 0)
  -- a line wants memory, and the next one is answered
  pub wants_memory : Ran (AnswersLines Counts 0) 0 Memory 1 (before_it (codes "count\ncount\n") 0 [] 0) (before_it [] 0 (codes "refused 15 memory\nok\n") 0)
  -- the start of such a line passes a limit, and a line that isn't longer than one may be doesn't
  pub has_passed : (line : List ℕ) → IsLongStart LINE_LIMIT line → HasPassed (AnswersLines Counts 0) (took line ∷ told (codes "refused 19 too-long\n") ∷ [])
  pub has_not_passed : ¬ HasPassed (AnswersLines Counts 0) (took (codes "count\n") ∷ [])
  -- want of memory never ends the answering of lines
  pub goes_on : (start end : ℕ) (events : List Event) (line : List ℕ) → ¬ AnswersLines Counts start events (needs line) end

-- events that are of no run, each but for one of them
pub record WrongRuns : Type 0 where
  -- a read fails where the line before was taken and not answered
  pub unanswered : (status : Status) (end : ℕ) → ¬ Run (AnswersLines Counts 0) (took (codes "count\n") ∷ took (codes "cou") ∷ input_failed ∷ []) status end
  -- a failed write is tried again
  pub tried_again : (status : Status) (end : ℕ) → ¬ Run (AnswersLines Counts 0) (took (codes "count\n") ∷ told (codes "o") ∷ output_failed ∷ told (codes "ok\n") ∷ []) status end
  -- two are counted where one answer was cut off
  pub counted_twice : (status : Status) → ¬ Run (AnswersLines Counts 0) (took (codes "count\n") ∷ told (codes "o") ∷ output_failed ∷ []) status 2
  -- more is read ahead than may be, or by two reads
  pub too_far : (most : ℕ) (events : List Event) (held : List ℕ) → most < length held → ¬ IsSpare most events (took held ∷ [])
  pub read_twice : (most : ℕ) (events : List Event) (one two : List ℕ) → ¬ IsSpare most events (took one ∷ took two ∷ [])
  -- it is read on where nothing was told since
  pub read_on : (most : ℕ) (line held : List ℕ) → ¬ IsSpare most (took line ∷ []) (took held ∷ [])
