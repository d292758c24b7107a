-- Faults show in the counts, whatever the course.
use Rattle.std.proofs.Common.{◌≡◌, ◌≢◌, ℕ, Bool, true, false, List, [], ◌∷◌, ◌++◌, refl, sym, ◌∙◌, ap, subst, inl, inr, take}
use Rattle.std.specs.List.{list_any}
use Rattle.pc_port.specs.Port.{Rose}
use Rattle.pc_refusals.specs.declared.refusal.SheetRefusal.{SheetRefusal}
use Rattle.pc_refusals.specs.declared.status.Status.{Status}
use Rattle.pc_refusals.specs.declared.status.Status.TheVariants.{ReadFault, WriteFault}
use Rattle.pc_refusals.specs.Events.{Outside, Event, took, took_rest, gave, told, input_failed, shelf_failed, output_failed, Does, Happened}
use Rattle.pc_refusals.specs.Stages.{Intake, sheet_line, line_within, no_line_within, rest_within, sheet_file, Stage, takes, needs, ends, ends_with, PassesLimit}
use Rattle.pc_refusals.specs.Runs.{IsSpare, nothing, ahead, Comes, on_course, past_limit, without_memory, Run, ended, ended_with, read_failed, read_failed_at_file, write_failed, Ran}
use Rattle.pc_transcript.specs.Answer.{Answer, is_refused as was_refused, is_no_memory}
use Rattle.pc_transcript.specs.Transcript.{Transcript, worse_of}
use Rattle.pc_transcript.specs.Course.{events_of, IsLineTaken, IsSheetTaken, AnswersLines, awaits_line, awaits_end, has_answer, has_all, FromSheet, needs_memory, is_refused, answers, FromInput, awaits_sheet, keeps_sheet, has_sheet, Replay, needs_room, from_input, Edit, awaits_file, has_file}
use Rattle.pc_transcript.specs.Course as course
use Rattle.pc_run_laws.specs.Causes.{HasCauses}
use Rattle.pc_run_laws.proofs.FlatLemmas.{happened-split}

-- ---- events without a fault

abbrev pub IsCalm : Event → Type 0
IsCalm input_failed = ⊥
IsCalm (shelf_failed name) = ⊥
IsCalm output_failed = ⊥
IsCalm event = Unit {0}

abbrev pub AreCalm : List Event → Type 0
AreCalm [] = Unit {0}
AreCalm (event ∷ events) = IsCalm event × AreCalm events

pub calm-append : (xs ys : List Event) → AreCalm xs → AreCalm ys → AreCalm (xs ++ ys)
calm-append [] ys first second = second
calm-append (x ∷ xs) ys first second = (first.0, calm-append xs ys first.1 second)

-- the counts stay, and so does what the shelf keeps
record Stays (a b : Outside) : Type 0 where
  input : b.input_faults ≡ a.input_faults
  shelf : b.shelf_faults ≡ a.shelf_faults
  output : b.output_faults ≡ a.output_faults
  kept : b.kept ≡ a.kept

stays_same : (a b : Outside) → b ≡ a → Stays a b
stays_same a b is = record { input = ap (λ (o : Outside). o.input_faults) is; shelf = ap (λ (o : Outside). o.shelf_faults) is; output = ap (λ (o : Outside). o.output_faults) is; kept = ap (λ (o : Outside). o.kept) is }

stays-trans : (a b c : Outside) → Stays a b → Stays b c → Stays a c
stays-trans a b c p q = record { input = q.input ∙ p.input; shelf = q.shelf ∙ p.shelf; output = q.output ∙ p.output; kept = q.kept ∙ p.kept }

one_stays : (event : Event) (a b : Outside) → IsCalm event → Does event a b → Stays a b
one_stays (took bytes) a b calm does = record { input = ap (λ (o : Outside). o.input_faults) does.0; shelf = ap (λ (o : Outside). o.shelf_faults) does.0; output = ap (λ (o : Outside). o.output_faults) does.0; kept = ap (λ (o : Outside). o.kept) does.0 }
one_stays (took_rest bytes) a b calm does = record { input = ap (λ (o : Outside). o.input_faults) does.0; shelf = ap (λ (o : Outside). o.shelf_faults) does.0; output = ap (λ (o : Outside). o.output_faults) does.0; kept = ap (λ (o : Outside). o.kept) does.0 }
one_stays (gave name text) a b calm does = record { input = ap (λ (o : Outside). o.input_faults) does.0; shelf = ap (λ (o : Outside). o.shelf_faults) does.0; output = ap (λ (o : Outside). o.output_faults) does.0; kept = ap (λ (o : Outside). o.kept) does.0 }
one_stays (told piece) a b calm does = record { input = ap (λ (o : Outside). o.input_faults) does.0; shelf = ap (λ (o : Outside). o.shelf_faults) does.0; output = ap (λ (o : Outside). o.output_faults) does.0; kept = ap (λ (o : Outside). o.kept) does.0 }
one_stays input_failed a b calm does = absurd calm
one_stays (shelf_failed name) a b calm does = absurd calm
one_stays output_failed a b calm does = absurd calm

all_stay : (events : List Event) (a b : Outside) → AreCalm events → Happened events a b → Stays a b
all_stay [] a b calm happened = stays_same a b happened
all_stay (event ∷ events) a b calm happened = stays-trans a happened.0 b (one_stays event a happened.0 calm.0 happened.1) (all_stay events happened.0 b calm.1 happened.2)

-- behind events without a fault a read failed: the input alone was at fault
pub read_fails : (events : List Event) (a b : Outside) → AreCalm events → Happened (events ++ input_failed ∷ []) a b → Rose a.input_faults b.input_faults × (b.shelf_faults ≡ a.shelf_faults)
read_fails events a b calm happened =
    let two = happened-split events (input_failed ∷ []) a b happened in
    let first = all_stay events a two.0 calm two.1 in
    let does = two.2.1 in
    let same = two.2.2 in
    (subst (λ (n : ℕ). Rose n b.input_faults) first.input (subst (λ (n : ℕ). Rose two.0.input_faults n) (sym (ap (λ (o : Outside). o.input_faults) same)) does.1), ap (λ (o : Outside). o.shelf_faults) same ∙ ap (λ (o : Outside). o.shelf_faults) does.0 ∙ first.shelf)

-- ---- what passes a limit is no fault

passes_calmly : (intake : Intake) (event : Event) → PassesLimit intake event → IsCalm event
passes_calmly (sheet_line before) (took bytes) passes = tt
passes_calmly (sheet_line before) (took_rest bytes) passes = absurd passes
passes_calmly (sheet_line before) (gave name text) passes = absurd passes
passes_calmly (sheet_line before) (told piece) passes = absurd passes
passes_calmly (sheet_line before) input_failed passes = absurd passes
passes_calmly (sheet_line before) (shelf_failed name) passes = absurd passes
passes_calmly (sheet_line before) output_failed passes = absurd passes
passes_calmly (line_within limit) (took bytes) passes = tt
passes_calmly (line_within limit) (took_rest bytes) passes = absurd passes
passes_calmly (line_within limit) (gave name text) passes = absurd passes
passes_calmly (line_within limit) (told piece) passes = absurd passes
passes_calmly (line_within limit) input_failed passes = absurd passes
passes_calmly (line_within limit) (shelf_failed name) passes = absurd passes
passes_calmly (line_within limit) output_failed passes = absurd passes
passes_calmly (no_line_within limit) (took bytes) passes = tt
passes_calmly (no_line_within limit) (took_rest bytes) passes = absurd passes
passes_calmly (no_line_within limit) (gave name text) passes = absurd passes
passes_calmly (no_line_within limit) (told piece) passes = absurd passes
passes_calmly (no_line_within limit) input_failed passes = absurd passes
passes_calmly (no_line_within limit) (shelf_failed name) passes = absurd passes
passes_calmly (no_line_within limit) output_failed passes = absurd passes
passes_calmly (rest_within limit) (took bytes) passes = tt
passes_calmly (rest_within limit) (took_rest bytes) passes = absurd passes
passes_calmly (rest_within limit) (gave name text) passes = absurd passes
passes_calmly (rest_within limit) (told piece) passes = absurd passes
passes_calmly (rest_within limit) input_failed passes = absurd passes
passes_calmly (rest_within limit) (shelf_failed name) passes = absurd passes
passes_calmly (rest_within limit) output_failed passes = absurd passes
passes_calmly (sheet_file file) (took bytes) passes = absurd passes
passes_calmly (sheet_file file) (took_rest bytes) passes = absurd passes
passes_calmly (sheet_file file) (gave name text) passes = tt
passes_calmly (sheet_file file) (told piece) passes = absurd passes
passes_calmly (sheet_file file) input_failed passes = absurd passes
passes_calmly (sheet_file file) (shelf_failed name) passes = absurd passes
passes_calmly (sheet_file file) output_failed passes = absurd passes

-- ---- courses without a fault

abbrev pub IsFine : Status → Type 0
IsFine status = (status ≢ ReadFault) × (status ≢ WriteFault)

abbrev pub EndsFine : Stage → Type 0
EndsFine (ends status) = IsFine status
EndsFine (ends_with line status) = IsFine status
EndsFine stage = Unit {0}

module _ {N : Type 0} (Course : List Event → Stage → N → Type 0) (obeys : (events : List Event) (stage : Stage) (notes : N) → Course events stage notes → AreCalm events × EndsFine stage) where
  pub comes_calmly : (events : List Event) (stage : Stage) (notes : N) → Comes Course events stage notes → AreCalm events × EndsFine stage
  comes_calmly events stage notes (on_course c) = obeys events stage notes c
  comes_calmly events stage notes (past_limit before intake event c passes is) = (subst AreCalm (sym is) (calm-append before (event ∷ []) (obeys before (takes intake) notes c).0 (passes_calmly intake event passes, tt)), ((λ e. absurd (cc e)), (λ e. absurd (cc e))))
  comes_calmly events stage notes (without_memory line c) = ((obeys events (needs line) notes c).0, ((λ e. absurd (cc e)), (λ e. absurd (cc e))))

  fine : (status : Status) (a b : Outside) → IsFine status → Stays a b → HasCauses status a b
  fine status a b is stays = record { read_fault = λ e. absurd (is.0 e); no_read_fault = λ e. (stays.input, stays.shelf); write_fault = λ e. absurd (is.1 e); no_write_fault = λ e. stays.output; kept = stays.kept }

  spare_stays : (most : ℕ) (events spare : List Event) (a b : Outside) → IsSpare most events spare → Happened spare a b → Stays a b
  spare_stays most events spare a b nothing happened = stays_same a b happened
  spare_stays most events spare a b (ahead held few other some) happened = all_stay (took held ∷ []) a b (tt, tt) happened

  caused : (most : ℕ) (status : Status) (notes : N) (events spare : List Event) (a m b : Outside) → Run Course events status notes → IsSpare most events spare → Happened events a m → Happened spare m b → HasCauses status a b
  caused most status notes events spare a m b (ended comes) is_spare happened rest =
      let so = comes_calmly events (ends status) notes comes in
      fine status a b so.1 (stays-trans a m b (all_stay events a m so.0 happened) (spare_stays most events spare m b is_spare rest))
  caused most status notes events spare a m b (ended_with before line comes is) is_spare happened rest =
      let so = comes_calmly before (ends_with line status) notes comes in
      let calm = calm-append before (told line ∷ []) so.0 (tt, tt) in
      fine status a b so.1 (stays-trans a m b (all_stay events a m (subst AreCalm (sym is) calm) happened) (spare_stays most events spare m b is_spare rest))
  caused most status notes events spare a m b (read_failed before intake begun c can is) is_spare happened rest =
      let so = obeys before (takes intake) notes c in
      let two = happened-split before (took begun ∷ input_failed ∷ []) a m (subst (λ (es : List Event). Happened es a m) is happened) in
      let x = two.2.0 in
      let first = stays-trans a two.0 x (all_stay before a two.0 so.0 two.1) (one_stays (took begun) two.0 x tt two.2.1) in
      let y = two.2.2.0 in
      let does = two.2.2.1 in
      let last = stays-trans y m b (stays_same y m two.2.2.2) (spare_stays most events spare m b is_spare rest) in
      record {
        read_fault = λ e. inl (subst (λ (n : ℕ). Rose n b.input_faults) first.input (subst (λ (n : ℕ). Rose x.input_faults n) (sym last.input) does.1), last.shelf ∙ ap (λ (o : Outside). o.shelf_faults) does.0 ∙ first.shelf);
        no_read_fault = λ e. absurd (e refl);
        write_fault = λ e. absurd (cc e);
        no_write_fault = λ e. last.output ∙ ap (λ (o : Outside). o.output_faults) does.0 ∙ first.output;
        kept = last.kept ∙ ap (λ (o : Outside). o.kept) does.0 ∙ first.kept;
      }
  caused most status notes events spare a m b (read_failed_at_file before name c is) is_spare happened rest =
      let so = obeys before (takes (sheet_file name)) notes c in
      let two = happened-split before (shelf_failed name ∷ []) a m (subst (λ (es : List Event). Happened es a m) is happened) in
      let x = two.0 in
      let first = all_stay before a x so.0 two.1 in
      let y = two.2.0 in
      let does = two.2.1 in
      let last = stays-trans y m b (stays_same y m two.2.2) (spare_stays most events spare m b is_spare rest) in
      record {
        read_fault = λ e. inr (subst (λ (n : ℕ). Rose n b.shelf_faults) first.shelf (subst (λ (n : ℕ). Rose x.shelf_faults n) (sym last.shelf) does.1), last.input ∙ ap (λ (o : Outside). o.input_faults) does.0 ∙ first.input);
        no_read_fault = λ e. absurd (e refl);
        write_fault = λ e. absurd (cc e);
        no_write_fault = λ e. last.output ∙ ap (λ (o : Outside). o.output_faults) does.0 ∙ first.output;
        kept = last.kept ∙ ap (λ (o : Outside). o.kept) does.0 ∙ first.kept;
      }
  caused most status notes events spare a m b (write_failed before stage piece count comes tell is) is_spare happened rest =
      let so = comes_calmly before stage notes comes in
      let part = take count piece in
      let two = happened-split before (told part ∷ output_failed ∷ []) a m (subst (λ (es : List Event). Happened es a m) is happened) in
      let x = two.2.0 in
      let first = stays-trans a two.0 x (all_stay before a two.0 so.0 two.1) (one_stays (told part) two.0 x tt two.2.1) in
      let y = two.2.2.0 in
      let does = two.2.2.1 in
      let last = stays-trans y m b (stays_same y m two.2.2.2) (spare_stays most events spare m b is_spare rest) in
      record {
        read_fault = λ e. absurd (cc e);
        no_read_fault = λ e. (last.input ∙ ap (λ (o : Outside). o.input_faults) does.0 ∙ first.input, last.shelf ∙ ap (λ (o : Outside). o.shelf_faults) does.0 ∙ first.shelf);
        write_fault = λ e. subst (λ (n : ℕ). Rose n b.output_faults) first.output (subst (λ (n : ℕ). Rose x.output_faults n) (sym last.output) does.1);
        no_write_fault = λ e. absurd (e refl);
        kept = last.kept ∙ ap (λ (o : Outside). o.kept) does.0 ∙ first.kept;
      }

  pub has_causes : (most : ℕ) (status : Status) (notes : N) (a b : Outside) → Ran Course most status notes a b → HasCauses status a b
  has_causes most status notes a b ran =
      let two = happened-split ran.events ran.spare a b ran.happened in
      caused most status notes ran.events ran.spare a two.0 b ran.run ran.is_spare two.1 two.2

-- ---- the two modes that answer command lines

pub lines_calm : (t : Transcript) → AreCalm (events_of t)
lines_calm [] = tt
lines_calm (pair ∷ more) = (tt, (tt, lines_calm more))

pub worse_fine : (no_memory refused : Bool) → IsFine (worse_of no_memory refused)
worse_fine true refused = ((λ e. absurd (cc e)), (λ e. absurd (cc e)))
worse_fine false true = ((λ e. absurd (cc e)), (λ e. absurd (cc e)))
worse_fine false false = ((λ e. absurd (cc e)), (λ e. absurd (cc e)))

line_calm : (line : List ℕ) (taken : List Event) → IsLineTaken line taken → AreCalm taken
line_calm line taken is = elim is [
  | inl w ↦ subst AreCalm (sym w.1) (tt, tt)
  | inr w ↦ subst AreCalm (sym w.2) (tt, tt)
]

sheet_calm : (text : List ℕ) (taken : List Event) → IsSheetTaken text taken → AreCalm taken
sheet_calm text taken is = elim is.ends [
  | inl w ↦ subst AreCalm (sym w.2) (tt, tt)
  | inr w ↦ subst AreCalm (sym w.1) (tt, tt)
]

pub answers_calmly : {S : Type 0} (Allows : S → List ℕ → Answer → S → Type 0) (start : S) (events : List Event) (stage : Stage) (end : S) → AnswersLines Allows start events stage end → AreCalm events × EndsFine stage
answers_calmly Allows start events stage end (awaits_line t legal whole few is) = (subst AreCalm (sym is) (lines_calm t), tt)
answers_calmly Allows start events stage end (awaits_end t legal whole full is) = (subst AreCalm (sym is) (lines_calm t), tt)
answers_calmly Allows start events stage end (has_answer t mid line taken answer legal whole few of_line allowed is) = (subst AreCalm (sym is) (calm-append (events_of t) taken (lines_calm t) (line_calm line taken of_line)), tt)
answers_calmly Allows start events stage end (has_all t legal each all count is) = (subst AreCalm (sym is) (calm-append (events_of t) (took_rest [] ∷ []) (lines_calm t) (tt, tt)), worse_fine (list_any (λ pair. is_no_memory pair.1) t) (list_any (λ pair. was_refused pair.1) t))

module _ {S N : Type 0} (IsSheet : List ℕ → S → Type 0) (Refuses : List ℕ → SheetRefusal → List ℕ → N → N → Type 0) (Allows : S × N → List ℕ → Answer → S × N → Type 0) where
  sheet_calmly : (text : List ℕ) (notes : N) (events : List Event) (stage : Stage) (notes' : N) → FromSheet IsSheet Refuses Allows text notes events stage notes' → AreCalm events × EndsFine stage
  sheet_calmly text notes events stage notes' (needs_memory is) = (subst AreCalm (sym is) tt, tt)
  sheet_calmly text notes events stage notes' (is_refused why more has is) = (subst AreCalm (sym is) tt, ((λ e. absurd (cc e)), (λ e. absurd (cc e))))
  sheet_calmly text notes events stage notes' (answers start end is lines) = answers_calmly Allows (start, notes) events stage (end, notes') lines

  input_calmly : (notes : N) (events : List Event) (stage : Stage) (notes' : N) → FromInput IsSheet Refuses Allows notes events stage notes' → AreCalm events × EndsFine stage
  input_calmly notes events stage notes' (awaits_sheet earlier others small is) = (subst AreCalm (sym is) (tt, tt), tt)
  input_calmly notes events stage notes' (keeps_sheet text front small is) = (subst AreCalm (sym is) (tt, tt), tt)
  input_calmly notes events stage notes' (has_sheet text taken more sheet from is) =
      let so = sheet_calmly text notes more stage notes' from in
      (subst AreCalm (sym is) (calm-append taken more (sheet_calm text taken sheet) so.0), so.1)

  pub replay_calmly : (notes : N) (events : List Event) (stage : Stage) (notes' : N) → Replay IsSheet Refuses Allows notes events stage notes' → AreCalm events × EndsFine stage
  replay_calmly notes events stage notes' (needs_room is) = (subst AreCalm (sym is) tt, tt)
  replay_calmly notes events stage notes' (from_input from) = input_calmly notes events stage notes' from

  pub edit_calmly : (file : List ℕ) (notes : N) (events : List Event) (stage : Stage) (notes' : N) → Edit IsSheet Refuses Allows file notes events stage notes' → AreCalm events × EndsFine stage
  edit_calmly file notes events stage notes' (course.needs_memory is) = (subst AreCalm (sym is) tt, tt)
  edit_calmly file notes events stage notes' (awaits_file is) = (subst AreCalm (sym is) tt, tt)
  edit_calmly file notes events stage notes' (has_file text more small from is) =
      let so = sheet_calmly text notes more stage notes' from in
      (subst AreCalm (sym is) (tt, so.0), so.1)
