-- How a run ends at a file's text that is no journal's, or no sheet's.
use Rattle.std.proofs.Common.{ℕ, List, [], ◌++◌, refl, sym, subst, Option, Err}
use Rattle.pc_collab.specs.declared.reading.JournalFault.{JournalFault}
use Rattle.pc_collab.specs.declared.reading.JournalFault.TheVariants.{BadLine, Gap, OutOfOrder, Memory}
use Rattle.pc_collab.specs.Reading.{LineFault, bad_line, gap, out_of_order, IsFirstFaultOfJournal, ReadGives}
use Rattle.pc_refusals.specs.declared.refusal.SheetRefusal.{SheetRefusal}
use Rattle.pc_refusals.specs.declared.status.Status.{Status}
use Rattle.pc_refusals.specs.declared.status.Status.TheVariants.{SheetRefused}
use Rattle.pc_refusals.specs.declared.status.Status.TheVariants as status
use Rattle.pc_refusals.specs.Refusals.{sheet_refusal_text}
use Rattle.pc_refusals.specs.Endings.{TellsAtEnd, memory_text, sheet_memory_text}
use Rattle.pc_refusals.specs.Runs.{on_course, without_memory}
use Rattle.pc_transcript.specs.declared.machine.LoadStop.{LoadStop}
use Rattle.pc_transcript.specs.declared.machine.LoadStop.TheVariants as load_stop
use Rattle.pc_transcript.specs.Answer.{Answer}
use Rattle.pc_transcript.specs.Stops.{StopsBy, TellsStop}
use Rattle.pc_journal.specs.Told.{from_file, refused_text, TellsFault}
use Rattle.pc_journal.specs.Course.{MergeText, needs_memory_for_text, text_is_refused, PostText, needs_sheet_memory, sheet_is_refused}
use Rattle.pc_refusals.specs.Did.{Ends}
use Rattle.pc_refusals.proofs.Dids.{ends_at}

module _ (text : List ℕ) where
  faulty : (fault : LineFault) (line : ℕ) (result : Status) (g g' : Option (List ℕ)) → IsFirstFaultOfJournal text line fault → TellsAtEnd SheetRefused (refused_text from_file fault line) result g g' → Ends (MergeText text) [] result tt g g'
  faulty fault line result g g' first told =
      ends_at (MergeText text) [] SheetRefused result (refused_text from_file fault line) tt g g' (on_course (text_is_refused line fault first refl)) (λ e. absurd (cc e)) (λ e. absurd (cc e)) told

  pub text_faulty : (fault : JournalFault) (result : Status) (g g' : Option (List ℕ)) → ReadGives text (Err fault) → TellsFault from_file fault result g g' → Ends (MergeText text) [] result tt g g'
  text_faulty (BadLine line) result g g' first told = faulty bad_line line result g g' first told
  text_faulty (Gap line) result g g' first told = faulty gap line result g g' first told
  text_faulty (OutOfOrder line) result g g' first told = faulty out_of_order line result g g' first told
  text_faulty Memory result g g' first told = ends_at (MergeText text) [] status.Memory result memory_text tt g g' (without_memory memory_text (needs_memory_for_text refl)) (λ e. absurd (cc e)) (λ e. absurd (cc e)) told

-- no state is made of a sheet's text
module _ {S N Q : Type 0} (IsSheet : List ℕ → S → Type 0) (Refuses : List ℕ → SheetRefusal → List ℕ → N → N → Type 0) (Allows : S × N → List ℕ → Answer → S × N → Type 0) (IsProof : Q → List ℕ → Type 0) (notes : N) (text : List ℕ) where
  pub no_sheet : (stop : LoadStop Q) (notes' : N) (result : Status) (g g' : Option (List ℕ)) → StopsBy IsProof (λ why more. Refuses text why more notes notes') notes notes' stop → TellsStop IsProof stop result g g'
      → Ends (PostText IsSheet Refuses Allows notes text) [] result notes' g g'
  no_sheet (load_stop.Refused why proof) notes' result g g' stops told =
      ends_at (PostText IsSheet Refuses Allows notes text) [] SheetRefused result (sheet_refusal_text why ++ told.0) notes' g g' (on_course (sheet_is_refused why told.0 (stops told.0 told.1) refl)) (λ e. absurd (cc e)) (λ e. absurd (cc e)) told.2
  no_sheet load_stop.Memory notes' result g g' stops told =
      subst (λ (x : N). Ends (PostText IsSheet Refuses Allows notes text) [] result x g g') (sym stops)
      (ends_at (PostText IsSheet Refuses Allows notes text) [] status.Memory result sheet_memory_text notes g g' (without_memory sheet_memory_text (needs_sheet_memory refl)) (λ e. absurd (cc e)) (λ e. absurd (cc e)) told)
