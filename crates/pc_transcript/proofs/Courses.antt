-- How a run ends before its command lines, and how it goes on with them.
use Rattle.std.proofs.Common.{◌≡◌, ◌≢◌, ℕ, List, [], ◌∷◌, ◌≤◌, ◌++◌, length, length-append, arith, refl, sym, ◌∙◌, subst, inl, inr, Option}
use Rattle.std.specs.Io.KnownBytes.{Consumes, prepend_known}
use Rattle.pc_port.specs.Port.{Rose}
use Rattle.pc_port.specs.declared.TheConstants.{CHUNK}
use Rattle.pc_lines.specs.declared.TheConstants.{SHEET_LIMIT}
use Rattle.pc_refusals.specs.declared.status.Status.{Status}
use Rattle.pc_refusals.specs.declared.status.Status.TheVariants.{SheetRefused, ReadFault, WriteFault, Memory, TooLong}
use Rattle.pc_refusals.specs.declared.refusal.SheetRefusal.{SheetRefusal}
use Rattle.pc_refusals.specs.Refusals.{sheet_refusal_text}
use Rattle.pc_refusals.specs.Endings.{too_long_text, TellsAtEnd, sheet_memory_text}
use Rattle.pc_refusals.specs.Events.{Outside, Event, took, took_rest, input_failed, Happened, Streams, streams, around}
use Rattle.pc_refusals.specs.Stages.{sheet_line, Stage, ends_with}
use Rattle.pc_refusals.specs.Runs.{HasTook, Comes, on_course, past_limit, without_memory, Run, read_failed, Ran}
use Rattle.pc_refusals.specs.Runs as runs
use Rattle.pc_refusals.proofs.EventLemmas.{happened-append, happened-push, took_does, took_rest_does, read_fails_does, Consumes-split, has_took-left, has_took-right, ends-more}
use Rattle.pc_refusals.proofs.RunLemmas.{tells_last, comes-more, run-more}
use Rattle.pc_refusals.proofs.Rans.{ran_by}
use Rattle.pc_transcript.specs.declared.machine.LoadStop.{LoadStop}
use Rattle.pc_transcript.specs.declared.machine.LoadStop.TheVariants as load_stop
use Rattle.pc_transcript.specs.Answer.{Answer}
use Rattle.pc_transcript.specs.Stops.{StopsBy, TellsStop}
use Rattle.pc_transcript.specs.SheetPart.{joined_lines}
use Rattle.pc_transcript.specs.SheetTaking.{TakesSheet, StopsInSheet}
use Rattle.pc_transcript.specs.Course.{AnswersLines, FromSheet, is_refused, answers, IsSheetTaken, awaits_sheet, keeps_sheet, has_sheet, Replay, needs_room, from_input}
use Rattle.pc_transcript.specs.Course as course
use Rattle.pc_transcript.specs.inside.SoFar.{IsLeft, all, ahead, RanOn, GoesOn, by_line, by_run}
use Rattle.pc_transcript.specs.inside.Taking.{PassesSheet, HasSome}
use Rattle.pc_transcript.proofs.Ends.{holds_nothing, held_taken}

-- ---- from what a reader holds to what its source has left

pub spare_of : {N : Type 0} (Course : List Event → Stage → N → Type 0) (status : Status) (notes : N) (a : Outside) (left : Option (List ℕ)) (n : ℕ) (g : Option (List ℕ)) (m : ℕ) (o : Outside) (events : List Event) → Run Course events status notes → (rest : Option (List ℕ)) → Happened events a (around o (streams rest n g m)) → IsLeft events rest left
    → Ran Course CHUNK status notes a (around o (streams left n g m))
spare_of Course status notes a left n g m o events run rest happened (all is) =
    ran_by Course CHUNK status notes events a (around o (streams left n g m)) run (subst (λ (l : Option (List ℕ)). Happened events a (around o (streams l n g m))) is happened)
spare_of Course status notes a left n g m o events run rest happened (ahead held few is other some) = record {
  events = events;
  run = run;
  spare = took held ∷ [];
  is_spare = runs.ahead held few other some;
  happened = happened-push events (took held) a (around o (streams rest n g m)) (around o (streams left n g m)) happened (took_does o rest left n n g m held refl (subst (λ (l : Option (List ℕ)). Consumes l left held) (sym is) (held_taken held left)));
}

pub finish : {N : Type 0} (Course : List Event → Stage → N → Type 0) (status : Status) (notes : N) (before : Streams) (left : Option (List ℕ)) (n : ℕ) (g : Option (List ℕ)) (m : ℕ)
    → RanOn Course status notes before (streams left n g m) → (o : Outside) → Ran Course CHUNK status notes (around o before) (around o (streams left n g m))
finish Course status notes before left n g m ran o = spare_of Course status notes (around o before) left n g m o ran.events ran.run ran.rest (ran.happened o) ran.is_left

-- ---- no state is made of the sheet

pub stopped : {S N Q : Type 0} (IsSheet : List ℕ → S → Type 0) (Refuses : List ℕ → SheetRefusal → List ℕ → N → N → Type 0) (Allows : S × N → List ℕ → Answer → S × N → Type 0) (IsProof : Q → List ℕ → Type 0) (stop : LoadStop Q) (result : Status) (notes notes' : N) (sheet : List ℕ) (rest : Option (List ℕ)) (before after : Streams)
    → StopsBy IsProof (λ why more. Refuses sheet why more notes notes') notes notes' stop → after.input ≡ before.input → after.input_faults ≡ before.input_faults → TellsStop IsProof stop result before.output after.output
    → (result ≡ WriteFault → Rose before.output_faults after.output_faults) → (result ≢ WriteFault → after.output_faults ≡ before.output_faults) → GoesOn (FromSheet IsSheet Refuses Allows sheet notes) result notes' rest before after
stopped {N = N} IsSheet Refuses Allows IsProof (load_stop.Refused why proof) result notes notes' sheet rest before after stops unread unfailed told rose kept =
    by_line (sheet_refusal_text why ++ told.0) SheetRefused (on_course (is_refused why told.0 (stops told.0 told.1) refl)) (λ e. absurd (cc e)) (λ e. absurd (cc e)) unread unfailed told.2 rose kept
stopped {N = N} IsSheet Refuses Allows IsProof load_stop.Memory result notes notes' sheet rest before after stops unread unfailed told rose kept =
    by_line sheet_memory_text Memory (subst (λ (n : N). Comes (FromSheet IsSheet Refuses Allows sheet notes) [] (ends_with sheet_memory_text Memory) n) (sym stops) (without_memory sheet_memory_text (course.needs_memory refl))) (λ e. absurd (cc e)) (λ e. absurd (cc e)) unread unfailed told rose kept

-- the sheet is read, and from its state the rest is answered so
pub opened : {S N : Type 0} (IsSheet : List ℕ → S → Type 0) (Refuses : List ℕ → SheetRefusal → List ℕ → N → N → Type 0) (Allows : S × N → List ℕ → Answer → S × N → Type 0) (result : Status) (notes notes' : N) (sheet : List ℕ) (start end : S) (rest : Option (List ℕ)) (before after : Streams)
    → IsSheet sheet start → RanOn (AnswersLines Allows (start, notes)) result (end, notes') (record before { input = rest }) after → GoesOn (FromSheet IsSheet Refuses Allows sheet notes) result notes' rest before after
opened {S = S} {N = N} IsSheet Refuses Allows result notes notes' sheet start end rest before after is ran = by_run record {
  events = ran.events;
  run = run-more (AnswersLines Allows (start, notes)) (FromSheet IsSheet Refuses Allows sheet notes) [] (λ (pair : S × N). pair.1) (λ events stage pair c. answers start pair.0 is c) ran.events result (end, notes') ran.run;
  rest = ran.rest;
  happened = ran.happened;
  is_left = ran.is_left;
}

short : (xs ys : List ℕ) → length (xs ++ ys) ≤ SHEET_LIMIT → length xs ≤ SHEET_LIMIT
short xs ys small = omega (arith, small, length-append xs ys)

pub left_more : (first events : List Event) (rest left : Option (List ℕ)) → IsLeft events rest left → IsLeft (first ++ events) rest left
left_more first events rest left (all is) = all is
left_more first events rest left (ahead held few is other some) = ahead held few is (ends-more first events other) (has_took-right first events some)

-- ---- the mode `replay`

module _ {S N : Type 0} (IsSheet : List ℕ → S → Type 0) (Refuses : List ℕ → SheetRefusal → List ℕ → N → N → Type 0) (Allows : S × N → List ℕ → Answer → S × N → Type 0) (notes : N) where
  -- a line that ends the run is told, where so much was taken
  tells : (events : List Event) (status result : Status) (line : List ℕ) (notes' : N) (before : Streams) (held : List ℕ) (left : Option (List ℕ)) (n : ℕ) (g g' : Option (List ℕ)) (m m' : ℕ)
      → Comes (Replay IsSheet Refuses Allows notes) events (ends_with line status) notes' → ((o : Outside) → Happened events (around o before) (around o (streams (prepend_known held left) n g m))) → length held ≤ CHUNK → HasTook events
      → status ≢ WriteFault → status ≢ ReadFault → TellsAtEnd status line result g g' → (result ≡ WriteFault → Rose m m') → (result ≢ WriteFault → m' ≡ m)
      → RanOn (Replay IsSheet Refuses Allows notes) result notes' before (streams left n g' m')
  tells events status result line notes' before held left n g g' m m' comes happened few some not_write not_read told rose kept =
      let rest = prepend_known held left in
      let last = tells_last (Replay IsSheet Refuses Allows notes) events status result line notes' rest n g g' m m' comes told not_write rose kept in
      record {
        events = events ++ last.last;
        run = last.run;
        rest = rest;
        happened = λ o. happened-append events last.last (around o before) (around o (streams rest n g m)) (around o (streams rest n g' m')) (happened o) (last.happened o);
        is_left = ahead held few refl (ends-more events last.last last.ends) (has_took-left events last.last some);
      }

  pub lacks_room : (result : Status) (l : Option (List ℕ)) (n : ℕ) (g g' : Option (List ℕ)) (m m' : ℕ) → TellsAtEnd Memory sheet_memory_text result g g' → (result ≡ WriteFault → Rose m m') → (result ≢ WriteFault → m' ≡ m)
      → RanOn (Replay IsSheet Refuses Allows notes) result notes (streams l n g m) (streams l n g' m')
  lacks_room result l n g g' m m' told rose kept =
      let last = tells_last (Replay IsSheet Refuses Allows notes) [] Memory result sheet_memory_text notes l n g g' m m' (without_memory sheet_memory_text (needs_room refl)) told (λ e. absurd (cc e)) rose kept in
      record { events = last.last; run = last.run; rest = l; happened = last.happened; is_left = all refl }

  pub lacks_memory : (result : Status) (l : Option (List ℕ)) (held : List ℕ) (left : Option (List ℕ)) (n n' : ℕ) (g g' : Option (List ℕ)) (m m' : ℕ) → HasSome l (prepend_known held left) → length held ≤ CHUNK → n' ≡ n → TellsAtEnd Memory sheet_memory_text result g g'
      → (result ≡ WriteFault → Rose m m') → (result ≢ WriteFault → m' ≡ m) → RanOn (Replay IsSheet Refuses Allows notes) result notes (streams l n g m) (streams left n' g' m')
  lacks_memory result l held left n n' g g' m m' some few same told rose kept =
      let rest = prepend_known held left in
      tells (took some.text ∷ []) Memory result sheet_memory_text notes (streams l n g m) held left n' g g' m m' (without_memory sheet_memory_text (from_input (keeps_sheet some.text some.front some.small refl)))
      (λ o. (around o (streams rest n' g m), took_does o l rest n n' g m some.text same some.taken, refl)) few (inl tt) (λ e. absurd (cc e)) (λ e. absurd (cc e)) told rose kept

  pub long_sheet : (result : Status) (l : Option (List ℕ)) (held : List ℕ) (left : Option (List ℕ)) (n n' : ℕ) (g g' : Option (List ℕ)) (m m' : ℕ) → PassesSheet l (prepend_known held left) → length held ≤ CHUNK → n' ≡ n → TellsAtEnd TooLong too_long_text result g g'
      → (result ≡ WriteFault → Rose m m') → (result ≢ WriteFault → m' ≡ m) → RanOn (Replay IsSheet Refuses Allows notes) result notes (streams l n g m) (streams left n' g' m')
  long_sheet result l held left n n' g g' m m' passes few same told rose kept =
      let rest = prepend_known held left in
      let text = joined_lines passes.earlier in
      let parts = Consumes-split l rest text passes.begun passes.taken in
      let mid = parts.0 in
      tells (took text ∷ took passes.begun ∷ []) TooLong result too_long_text notes (streams l n g m) held left n' g g' m m'
      (past_limit (took text ∷ []) (sheet_line text) (took passes.begun) (from_input (awaits_sheet passes.earlier passes.others passes.small refl)) (passes.one_line, passes.long) refl)
      (λ o. (around o (streams mid n g m), took_does o l mid n n g m text refl parts.1, (around o (streams rest n' g m), took_does o mid rest n n' g m passes.begun same parts.2, refl))) few (inl tt) (λ e. absurd (cc e)) (λ e. absurd (cc e)) told rose kept

  pub fails_in_sheet : (l : Option (List ℕ)) (held : List ℕ) (left : Option (List ℕ)) (n n' : ℕ) (g : Option (List ℕ)) (m : ℕ) → StopsInSheet l (prepend_known held left) → held ≡ [] → Rose n n'
      → RanOn (Replay IsSheet Refuses Allows notes) ReadFault notes (streams l n g m) (streams left n' g m)
  fails_in_sheet l held left n n' g m fails none rose =
      let rest = prepend_known held left in
      let text = joined_lines fails.earlier in
      let parts = Consumes-split l rest text fails.begun fails.taken in
      let mid = parts.0 in
      record {
        events = took text ∷ took fails.begun ∷ input_failed ∷ [];
        run = read_failed (took text ∷ []) (sheet_line text) fails.begun (from_input (awaits_sheet fails.earlier fails.others (short text fails.begun fails.small) refl)) (fails.no_end, fails.small) refl;
        rest = rest;
        happened = λ o. (around o (streams mid n g m), took_does o l mid n n g m text refl parts.1, (around o (streams rest n g m), took_does o mid rest n n g m fails.begun refl parts.2, (around o (streams rest n' g m), read_fails_does o rest n n' g m rose, refl)));
        is_left = all (holds_nothing held left none);
      }

  -- ---- from the sheet on

  -- the sheet's part was taken
  record Takes (sheet : List ℕ) (l rest : Option (List ℕ)) : Type 0 where
    event : Event
    taken : IsSheetTaken sheet (event ∷ [])
    some : HasTook (event ∷ [])
    happened : (o : Outside) (n n' : ℕ) (g : Option (List ℕ)) (m : ℕ) → n' ≡ n → Happened (event ∷ []) (around o (streams l n g m)) (around o (streams rest n' g m))

  takes_of : (sheet : List ℕ) (l rest : Option (List ℕ)) → TakesSheet sheet l rest → Takes sheet l rest
  takes_of sheet l rest takes = elim takes.part.ends [
    | inl begins ↦ record {
      event = took sheet;
      taken = record { earlier = takes.part.earlier; last = takes.part.last; is = takes.part.is; others = takes.part.others; ends = inl (begins.0, begins.1, refl); small = takes.small };
      some = inl tt;
      happened = λ o n n' g m same. (around o (streams rest n' g m), took_does o l rest n n' g m sheet same takes.taken, refl);
    }
    | inr last ↦ record {
      event = took_rest sheet;
      taken = record { earlier = takes.part.earlier; last = takes.part.last; is = takes.part.is; others = takes.part.others; ends = inr (last.0, refl); small = takes.small };
      some = inl tt;
      happened = λ o n n' g m same. (around o (streams rest n' g m), took_rest_does o l rest n n' g m sheet same takes.taken last.1, refl);
    }
  ]

  pub replays_from : (result : Status) (notes' : N) (sheet : List ℕ) (l : Option (List ℕ)) (held : List ℕ) (left left' : Option (List ℕ)) (n n' n'' : ℕ) (g g' : Option (List ℕ)) (m m' : ℕ) → TakesSheet sheet l (prepend_known held left) → length held ≤ CHUNK → n' ≡ n
      → GoesOn (FromSheet IsSheet Refuses Allows sheet notes) result notes' (prepend_known held left) (streams left n' g m) (streams left' n'' g' m')
      → RanOn (Replay IsSheet Refuses Allows notes) result notes' (streams l n g m) (streams left' n'' g' m')
  replays_from result notes' sheet l held left left' n n' n'' g g' m m' takes few same (by_line line ending comes not_write not_read unread unfailed told rose kept) =
      let rest = prepend_known held left in
      let t = takes_of sheet l rest takes in
      let first = t.event ∷ [] in
      subst (λ (x : Option (List ℕ)). RanOn (Replay IsSheet Refuses Allows notes) result notes' (streams l n g m) (streams x n'' g' m')) (sym unread)
      (tells first ending result line notes' (streams l n g m) held left n'' g g' m m'
      (comes-more (FromSheet IsSheet Refuses Allows sheet notes) (Replay IsSheet Refuses Allows notes) first (λ (x : N). x) (λ events stage x c. from_input (has_sheet sheet first events t.taken c refl)) [] (ends_with line ending) notes' comes)
      (λ o. t.happened o n n'' g m (unfailed ∙ same)) few t.some not_write not_read told rose kept)
  replays_from result notes' sheet l held left left' n n' n'' g g' m m' takes few same (by_run ran) =
      let rest = prepend_known held left in
      let t = takes_of sheet l rest takes in
      let first = t.event ∷ [] in
      record {
        events = first ++ ran.events;
        run = run-more (FromSheet IsSheet Refuses Allows sheet notes) (Replay IsSheet Refuses Allows notes) first (λ (x : N). x) (λ events stage x c. from_input (has_sheet sheet first events t.taken c refl)) ran.events result notes' ran.run;
        rest = ran.rest;
        happened = λ o. happened-append first ran.events (around o (streams l n g m)) (around o (streams rest n' g m)) (around o (streams ran.rest n'' g' m')) (t.happened o n n' g m same) (ran.happened o);
        is_left = left_more first ran.events ran.rest left' ran.is_left;
      }
