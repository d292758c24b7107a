-- How a run ends at an input that should be a journal's text, and how it goes on from its journal.
use Rattle.std.proofs.Common.{◌≡◌, ◌≢◌, ℕ, List, [], ◌∷◌, refl, ap, Option, Err}
use Rattle.pc_port.specs.Port.{Rose}
use Rattle.pc_collab.specs.declared.TheConstants.{JOURNAL_LIMIT}
use Rattle.pc_collab.specs.declared.reading.JournalFault.TheVariants.{BadLine, Gap, OutOfOrder, Memory}
use Rattle.pc_collab.specs.Journal.{Post}
use Rattle.pc_collab.specs.Reading.{IsTextOf, LineFault, bad_line, gap, out_of_order, IsFirstFaultOfJournal}
use Rattle.pc_refusals.specs.declared.input.InputStop.{InputStop}
use Rattle.pc_refusals.specs.declared.input.InputStop.TheVariants.{Failed}
use Rattle.pc_refusals.specs.declared.status.Status.{Status}
use Rattle.pc_refusals.specs.declared.status.Status.TheVariants.{WriteFault, SheetRefused}
use Rattle.pc_refusals.specs.Endings.{TellsAtEnd}
use Rattle.pc_refusals.specs.Events.{Event, took_rest, streams}
use Rattle.pc_refusals.specs.Stages.{Stage}
use Rattle.pc_refusals.specs.Runs.{on_course}
use Rattle.pc_refusals.specs.Did.{Ends, Did}
use Rattle.pc_refusals.proofs.Dids.{ends_at, ended, did_more}
use Rattle.pc_refusals.proofs.InputRuns.{taken_all, lacks_memory, ends_at_input}
use Rattle.pc_journal.specs.Told.{from_input, refused_text}
use Rattle.pc_journal.specs.Course.{FromInput, awaits_journal, needs_memory, is_refused, has_journal}
use Rattle.pc_journal.specs.declared.taking.JournalStop.{JournalStop}
use Rattle.pc_journal.specs.declared.taking.JournalStop.TheVariants.{Input, Text}
use Rattle.pc_journal.specs.inside.Taking.{TakesText, JournalGives, TellsStop}

module _ {N : Type 0} (Rest : List Post → List Event → Stage → N → Type 0) (notes : N) (l l' : Option (List ℕ)) (n n' : ℕ) (g g' : Option (List ℕ)) (m m' : ℕ) (result : Status) where
  -- from the journal on
  pub goes_on : (posts : List Post) (notes' : N) → TakesText l l' (λ text. IsTextOf text posts) → n' ≡ n → Did (Rest posts) result notes' (streams l' n' g m) (streams l' n' g' m') → Did (FromInput Rest notes) result notes' (streams l n g m) (streams l' n' g' m')
  goes_on posts notes' takes same did =
      did_more (Rest posts) (FromInput Rest notes) (took_rest takes.text ∷ []) (λ (x : N). x) (λ events stage x c. has_journal takes.text posts events takes.takes.small takes.reads c refl) result notes' (streams l n g m) (streams l' n' g m) (streams l' n' g' m') (taken_all JOURNAL_LIMIT takes.text l l' n n' g m takes.takes same) did

module _ {N : Type 0} (Rest : List Post → List Event → Stage → N → Type 0) (notes : N) (l l' : Option (List ℕ)) (n n' : ℕ) (g g' : Option (List ℕ)) (m m' : ℕ) (result : Status) (rose : result ≡ WriteFault → Rose m m') (kept : result ≢ WriteFault → m' ≡ m) where
  faulty : (fault : LineFault) (line : ℕ) (takes : TakesText l l' (λ text. IsFirstFaultOfJournal text line fault)) → TellsAtEnd SheetRefused (refused_text from_input fault line) result g g' → n' ≡ n → Did (FromInput Rest notes) result notes (streams l n g m) (streams l' n' g' m')
  faulty fault line takes told same =
      let text = takes.text in
      ended (FromInput Rest notes) (streams l n g m) (took_rest text ∷ []) result notes l' n' g g' m m'
      (ends_at (FromInput Rest notes) (took_rest text ∷ []) SheetRefused result (refused_text from_input fault line) notes g g' (on_course (is_refused text line fault takes.takes.small takes.reads refl)) (λ e. absurd (cc e)) (λ e. absurd (cc e)) told)
      (taken_all JOURNAL_LIMIT text l l' n n' g m takes.takes same) rose kept

  -- the input gives no journal
  pub stopped : (why : JournalStop) → JournalGives (Err why) l l' → TellsStop why result g g' → (why ≡ Input Failed → Rose n n') → (why ≢ Input Failed → n' ≡ n) → Did (FromInput Rest notes) result notes (streams l n g m) (streams l' n' g' m')
  stopped (Input why) stops told fails same =
      ends_at_input (FromInput Rest notes) JOURNAL_LIMIT notes (awaits_journal refl) (λ some small. needs_memory some small refl) l l' n n' g g' m m' result rose kept why stops told (λ e. fails (ap (λ (s : InputStop). Input s) e)) (λ other. same (λ e. other (cc e)))
  stopped (Text (BadLine line)) takes told fails same = faulty bad_line line takes told (same (λ e. absurd (cc e)))
  stopped (Text (Gap line)) takes told fails same = faulty gap line takes told (same (λ e. absurd (cc e)))
  stopped (Text (OutOfOrder line)) takes told fails same = faulty out_of_order line takes told (same (λ e. absurd (cc e)))
  stopped (Text Memory) takes told fails same =
      lacks_memory (FromInput Rest notes) JOURNAL_LIMIT notes (awaits_journal refl) (λ some small. needs_memory some small refl) l l' n n' g g' m m' result rose kept record { text = takes.text; taken = takes.takes.taken; small = takes.takes.small } (same (λ e. absurd (cc e))) told

  -- from the journal on, at a line that is told
  pub ends_from : (posts : List Post) (notes' : N) → TakesText l l' (λ text. IsTextOf text posts) → n' ≡ n → Ends (Rest posts) [] result notes' g g' → Did (FromInput Rest notes) result notes' (streams l n g m) (streams l' n' g' m')
  ends_from posts notes' takes same ends = goes_on Rest notes l l' n n' g g' m m' result posts notes' takes same (ended (Rest posts) (streams l' n' g m) [] result notes' l' n' g g' m m' ends (λ o. refl) rose kept)
