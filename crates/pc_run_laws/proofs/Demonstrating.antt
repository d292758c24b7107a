-- From the events of a demonstration to what it says by its status.
use Rattle.std.proofs.Common.{◌≡◌, ◌≢◌, ℕ, Bool, true, false, List, [], ◌∷◌, ◌++◌, refl, sym, ◌∙◌, ap, subst, inl, inr, map, take, append-nil, Option}
use Rattle.std.specs.List.{list_any}
use Rattle.std.specs.Io.KnownBytes.{Appends}
use Rattle.pc_refusals.specs.declared.status.Status.{Status}
use Rattle.pc_refusals.specs.declared.status.Status.TheVariants.{Done, SomeRefused, Usage, SheetRefused, ReadFault, WriteFault, Memory, TooLong, CertRefused}
use Rattle.pc_refusals.specs.Endings.{printed, IsPrinted}
use Rattle.pc_refusals.specs.Events.{Outside, Event, took, took_rest, gave, told, input_failed, shelf_failed, output_failed, Happened}
use Rattle.pc_refusals.specs.Stages.{Stage, ends_with}
use Rattle.pc_refusals.specs.Runs.{IsOutput, HasTook, IsSpare, nothing, ahead, Tells, goes_on, ends_so, Comes, on_course, past_limit, without_memory, Run, ended, ended_with, read_failed, read_failed_at_file, write_failed, Ran}
use Rattle.pc_transcript.specs.Answer.{is_refused as was_refused, is_no_memory}
use Rattle.pc_transcript.specs.Transcript.{Transcript, worse_of}
use Rattle.pc_run_laws.specs.Flat.{told_in}
use Rattle.pc_run_laws.proofs.FlatLemmas.{told_together, happened-split}
use Rattle.pc_run_laws.proofs.BackToStatus.{told-append}
use Rattle.pc_spreadsheet.specs.Allowed.{Notes}
use Rattle.pc_demo.specs.Course as demo
use Rattle.pc_demo.specs.Course.{Demo}
use Rattle.pc_demo.specs.Demonstration.{told_of}
use Rattle.pc_demo.specs.Demonstration as demonstration
use Rattle.pc_run_laws.specs.Demonstrations.{Goes, lacks_memory, is_refused, completes, IsCutOff, at_loaded, at_answer, at_last, Demonstrated}

-- ---- events of the output alone

abbrev AreOutput : List Event → Type 0
AreOutput [] = Unit {0}
AreOutput (event ∷ events) = IsOutput event × AreOutput events

output-append : (xs ys : List Event) → AreOutput xs → AreOutput ys → AreOutput (xs ++ ys)
output-append [] ys first second = second
output-append (x ∷ xs) ys first second = (first.0, output-append xs ys first.1 second)

none_taken : (events : List Event) → AreOutput events → HasTook events → ⊥
none_taken [] output some = some
none_taken (took bytes ∷ events) output some = output.0
none_taken (took_rest bytes ∷ events) output some = output.0
none_taken (gave name text ∷ events) output some = output.0
none_taken (told piece ∷ events) output some = elim some [
  | inl w ↦ w
  | inr w ↦ none_taken events output.1 w
]
none_taken (input_failed ∷ events) output some = output.0
none_taken (shelf_failed name ∷ events) output some = output.0
none_taken (output_failed ∷ events) output some = elim some [
  | inl w ↦ w
  | inr w ↦ none_taken events output.1 w
]

abbrev ElseSame : Outside → Outside → Type 0
ElseSame a b = b ≡ record a { output = b.output; output_faults = b.output_faults }

else_same : (events : List Event) (a b : Outside) → AreOutput events → Happened events a b → ElseSame a b
else_same [] a b output happened = subst (λ (o : Outside). ElseSame a o) (sym happened) refl
else_same (took bytes ∷ events) a b output happened = absurd output.0
else_same (took_rest bytes ∷ events) a b output happened = absurd output.0
else_same (gave name text ∷ events) a b output happened = absurd output.0
else_same (told piece ∷ events) a b output happened =
    else_same events happened.0 b output.1 happened.2 ∙ ap (λ (o : Outside). record o { output = b.output; output_faults = b.output_faults }) happened.1.0
else_same (input_failed ∷ events) a b output happened = absurd output.0
else_same (shelf_failed name ∷ events) a b output happened = absurd output.0
else_same (output_failed ∷ events) a b output happened =
    else_same events happened.0 b output.1 happened.2 ∙ ap (λ (o : Outside). record o { output = b.output; output_faults = b.output_faults }) happened.1.0

no_spare : (most : ℕ) (events spare : List Event) (mid b : Outside) → AreOutput events → IsSpare most events spare → Happened spare mid b → b ≡ mid
no_spare most events spare mid b output nothing happened = happened
no_spare most events spare mid b output (ahead held few telling some) happened = absurd (none_taken events output some)

-- ---- what is told

pub answers_told : (t : Transcript) → told_in (map (λ pair. told (told_of pair.1)) t) ≡ demonstration.told_in t
answers_told [] = refl
answers_told (pair ∷ more) = ap (λ (xs : List ℕ). told_of pair.1 ++ xs) (answers_told more)

answers_output : (t : Transcript) → AreOutput (map (λ pair. told (told_of pair.1)) t)
answers_output [] = tt
answers_output (pair ∷ more) = (tt, answers_output more)

worse_whole : (no_memory refused : Bool) → worse_of no_memory refused ≢ WriteFault
worse_whole true refused = λ e. absurd (cc e)
worse_whole false true = λ e. absurd (cc e)
worse_whole false false = λ e. absurd (cc e)

-- where no write failed, all was written
pub all_printed : (status : Status) (sink sink' : Option (List ℕ)) (before last : List ℕ) → status ≢ WriteFault → Appends sink sink' (before ++ last) → IsPrinted status sink sink' (printed before last)
all_printed Done sink sink' before last whole written = written
all_printed SomeRefused sink sink' before last whole written = written
all_printed Usage sink sink' before last whole written = written
all_printed SheetRefused sink sink' before last whole written = written
all_printed ReadFault sink sink' before last whole written = written
all_printed WriteFault sink sink' before last whole written = absurd (whole refl)
all_printed Memory sink sink' before last whole written = written
all_printed TooLong sink sink' before last whole written = written
all_printed CertRefused sink sink' before last whole written = written

module _ (blocks budget : ℕ) (notes : Notes) where
  goes_whole : (notes' : Notes) (before last : List ℕ) (status : Status) → Goes blocks budget notes notes' (printed before last) status → status ≢ WriteFault
  goes_whole notes' before last status (lacks_memory same is) = λ e. absurd (cc e)
  goes_whole notes' before last status (is_refused why more refuses is) = λ e. absurd (cc e)
  goes_whole notes' before last status (completes start end loaded cleared t loads clears sums is) = worse_whole (list_any (λ pair. is_no_memory pair.1) t) (list_any (λ pair. was_refused pair.1) t)

  demo_output : (events : List Event) (stage : Stage) (notes' : Notes) → Demo blocks budget notes events stage notes' → AreOutput events
  demo_output events stage notes' (demo.needs_memory none) = subst AreOutput (sym none) tt
  demo_output events stage notes' (demo.is_refused why more refuses none) = subst AreOutput (sym none) tt
  demo_output events stage notes' (demo.is_loaded start loaded loads none) = subst AreOutput (sym none) tt
  demo_output events stage notes' (demo.has_answer start loaded t done mid end answer loads clears few allowed is) = subst AreOutput (sym is) (tt, answers_output t)
  demo_output events stage notes' (demo.is_cleared start loaded t end cleared loads clears sums is) = subst AreOutput (sym is) (tt, answers_output t)

  comes_output : (events : List Event) (stage : Stage) (notes' : Notes) → Comes (Demo blocks budget notes) events stage notes' → AreOutput events
  comes_output events stage notes' (on_course h) = demo_output events stage notes' h
  comes_output events stage notes' (past_limit before intake event h passes is) = elim h [ ]
  comes_output events stage notes' (without_memory line h) = demo_output events _ notes' h

  -- the last piece, and what was told before it
  record Last (notes' : Notes) (line : List ℕ) (status : Status) (said : List ℕ) : Type 0 where
    before : List ℕ
    said_is : said ≡ before
    goes : Goes blocks budget notes notes' (printed before line) status

  last_piece : (events : List Event) (line : List ℕ) (status : Status) (notes' : Notes) → Comes (Demo blocks budget notes) events (ends_with line status) notes' → Last notes' line status (told_in events)
  last_piece events line status notes' (on_course (demo.is_refused why more refuses none)) = record { before = []; said_is = ap told_in none; goes = is_refused why more refuses refl }
  last_piece events line status notes' (on_course (demo.is_cleared start loaded t end cleared loads clears sums is)) = record {
    before = loaded ++ demonstration.told_in t;
    said_is = ap told_in is ∙ ap (λ (xs : List ℕ). loaded ++ xs) (answers_told t);
    goes = completes start end loaded cleared t loads clears sums refl;
  }
  last_piece events line status notes' (past_limit before intake event h passes is) = elim h [ ]
  last_piece events line status notes' (without_memory same (demo.needs_memory none)) = record { before = []; said_is = ap told_in none; goes = lacks_memory refl refl }

  -- ---- where a write failed

  said_so : (events before : List Event) (piece : List ℕ) (said : List ℕ) (tail : List Event) (a b : Outside) → events ≡ before ++ tail → told_in before ≡ said → told_in tail ≡ piece → Happened events a b → Appends a.output b.output (said ++ piece)
  said_so events before piece said tail a b is said_is tail_is happened =
      subst (λ (xs : List ℕ). Appends a.output b.output xs) (ap told_in is ∙ told-append before tail ∙ ap (λ (xs : List ℕ). xs ++ told_in tail) said_is ∙ ap (λ (xs : List ℕ). said ++ xs) tail_is) (told_together events a b happened)

  cut_at : (notes' : Notes) (events before : List Event) (piece said : List ℕ) (count : ℕ) (a b : Outside) → events ≡ before ++ told (take count piece) ∷ output_failed ∷ [] → told_in before ≡ said → AreOutput before → IsCutOff blocks budget notes notes' (printed said piece) → Happened events a b
      → Demonstrated blocks budget WriteFault notes notes' a b
  cut_at notes' events before piece said count a b is said_is output cut happened =
      let tail = told (take count piece) ∷ output_failed ∷ [] in
      record {
        text = printed said piece;
        course = inr (refl, cut);
        written = record { count = count; written = said_so events before (take count piece) said tail a b is said_is (append-nil (take count piece)) happened };
        else_same = else_same events a b (subst AreOutput (sym is) (output-append before tail output (tt, (tt, tt)))) happened;
      }

  cut_piece : (notes' : Notes) (events before : List Event) (stage : Stage) (piece : List ℕ) (count : ℕ) (a b : Outside) → events ≡ before ++ told (take count piece) ∷ output_failed ∷ [] → Tells piece stage → Comes (Demo blocks budget notes) before stage notes' → Happened events a b
      → Demonstrated blocks budget WriteFault notes notes' a b
  cut_piece notes' events before stage piece count a b is goes_on (on_course (demo.is_loaded start loaded loads none)) happened =
      cut_at notes' events before piece [] count a b is (ap told_in none) (subst AreOutput (sym none) tt) (at_loaded start loaded loads refl refl) happened
  cut_piece notes' events before stage piece count a b is goes_on (on_course (demo.has_answer start loaded t done mid end answer loads clears few allowed before_is)) happened =
      cut_at notes' events before piece (loaded ++ demonstration.told_in t) count a b is (ap told_in before_is ∙ ap (λ (xs : List ℕ). loaded ++ xs) (answers_told t)) (subst AreOutput (sym before_is) (tt, answers_output t))
      (at_answer start end loaded done mid t answer loads few clears allowed refl) happened
  cut_piece notes' events before stage piece count a b is (ends_so status) comes happened =
      let last = last_piece before piece status notes' comes in
      cut_at notes' events before piece last.before count a b is last.said_is (comes_output before (ends_with piece status) notes' comes) (at_last status last.goes) happened

  -- ---- the whole

  run_output : (events : List Event) (status : Status) (notes' : Notes) → Run (Demo blocks budget notes) events status notes' → AreOutput events
  run_output events status notes' (ended (on_course h)) = elim h [ ]
  run_output events status notes' (ended_with before line comes is) = subst AreOutput (sym is) (output-append before (told line ∷ []) (comes_output before (ends_with line status) notes' comes) (tt, tt))
  run_output events status notes' (read_failed before intake begun h can is) = elim h [ ]
  run_output events status notes' (read_failed_at_file before name h is) = elim h [ ]
  run_output events status notes' (write_failed before stage piece count comes tell is) =
      subst AreOutput (sym is) (output-append before (told (take count piece) ∷ output_failed ∷ []) (comes_output before stage notes' comes) (tt, (tt, tt)))

  by_run : (events : List Event) (status : Status) (notes' : Notes) (a b : Outside) → Run (Demo blocks budget notes) events status notes' → Happened events a b → Demonstrated blocks budget status notes notes' a b
  by_run events status notes' a b (ended (on_course h)) happened = elim h [ ]
  by_run events status notes' a b (ended_with before line comes is) happened =
      let last = last_piece before line status notes' comes in
      record {
        text = printed last.before line;
        course = inl last.goes;
        written = all_printed status a.output b.output last.before line (goes_whole notes' last.before line status last.goes) (said_so events before line last.before (told line ∷ []) a b is last.said_is (append-nil line) happened);
        else_same = else_same events a b (subst AreOutput (sym is) (output-append before (told line ∷ []) (comes_output before (ends_with line status) notes' comes) (tt, tt))) happened;
      }
  by_run events status notes' a b (read_failed before intake begun h can is) happened = elim h [ ]
  by_run events status notes' a b (read_failed_at_file before name h is) happened = elim h [ ]
  by_run events status notes' a b (write_failed before stage piece count comes tell is) happened = cut_piece notes' events before stage piece count a b is tell comes happened

pub demonstrated : (blocks budget most : ℕ) (status : Status) (notes notes' : Notes) (a b : Outside) → Ran (Demo blocks budget notes) most status notes' a b → Demonstrated blocks budget status notes notes' a b
demonstrated blocks budget most status notes notes' a b ran =
    let two = happened-split ran.events ran.spare a b ran.happened in
    let same = no_spare most ran.events ran.spare two.0 b (run_output blocks budget notes ran.events status notes' ran.run) ran.is_spare two.2 in
    by_run blocks budget notes ran.events status notes' a b ran.run (subst (λ (o : Outside). Happened ran.events a o) (sym same) two.1)
