-- From the events of a run on a file's sheet to what it said by its status.
use Rattle.std.proofs.Common.{◌≡◌, ℕ, ◌<◌, ◌≤◌, List, [], ◌∷◌, ◌++◌, length, refl, sym, ◌∙◌, ap, subst, inl, inr, ◌⊎◌, Option, append_assoc, append-nil, take}
use Rattle.std.specs.List.{flat_map, list_any}
use Rattle.std.specs.Io.KnownBytes.{Consumes, Appends, IsAtEnd}
use Rattle.std.proofs.lemmas.List.Concat.{flat_map-append}
use Rattle.pc_port.specs.Port.{Rose}
use Rattle.pc_port.specs.declared.TheConstants.{CHUNK}
use Rattle.pc_lines.specs.declared.TheConstants.{SHEET_LIMIT}
use Rattle.pc_refusals.specs.declared.status.Status.{Status}
use Rattle.pc_refusals.specs.declared.status.Status.TheVariants.{ReadFault, WriteFault, Memory}
use Rattle.pc_refusals.specs.declared.refusal.SheetRefusal.{SheetRefusal}
use Rattle.pc_refusals.specs.Endings.{Printing, printed, too_long_text, sheet_memory_text, IsPrinted}
use Rattle.pc_lines.specs.Files.{AsksOnce, TakesFile}
use Rattle.pc_refusals.specs.Files.{LacksMemoryForFile, HasLongFile}
use Rattle.pc_refusals.specs.Events.{Outside, Event, took, took_rest, gave, told, input_failed, shelf_failed, output_failed, Does, Happened}
use Rattle.pc_refusals.specs.Stages.{Intake, sheet_file, Stage, takes, tells, ends, ends_with, CanBegin, PassesLimit}
use Rattle.pc_refusals.specs.Runs.{HasTook, last_or, IsOutput, IsSpare, nothing, ahead, Tells, goes_on, ends_so, Comes, on_course, past_limit, without_memory, Run, ended, ended_with, read_failed, read_failed_at_file, write_failed, Ran}
use Rattle.pc_transcript.specs.Answer.{Answer, answer_text, is_refused as was_refused, is_no_memory}
use Rattle.pc_transcript.specs.Transcript.{Transcript, input_of, output_of, worse_of}
use Rattle.pc_transcript.specs.Course.{events_of, IsLineTaken, has_answer, has_all, needs_memory, is_refused, answers, Edit, awaits_file, has_file}
use Rattle.pc_refusals.proofs.EventLemmas.{last_or-append}
use Rattle.pc_run_laws.specs.Flat.{taken_in, told_in}
use Rattle.pc_run_laws.specs.Moments.{moment}
use Rattle.pc_run_laws.specs.Answered.{IsReadAhead, AnswersAll, AnswersTaken, StopsAtLimit, AnswersSome}
use Rattle.pc_run_laws.specs.Edits.{OpensFile, EditStops, lacks_memory, has_long_file, refuses_file, passes_limit, Edits, stops, lacks_file, fails_at_lines, answers_all, cut_at_end, cut_at_answer, Edited}
use Rattle.pc_run_laws.proofs.FlatLemmas.{taken_together, told_together, happened-split}
use Rattle.pc_run_laws.proofs.BackToStatus.{spare_of, no_spare, taken_after, told_after, told-append, line_of, is_took, printed_all, awaits, told_alone, cut_alone}
use Rattle.pc_run_laws.proofs.CauseLemmas.{AreCalm, calm-append, lines_calm, read_fails}

-- ---- what the shelf was asked for

abbrev asked_of : Event → List (List ℕ)
asked_of (gave name text) = name ∷ []
asked_of (shelf_failed name) = name ∷ []
asked_of event = []

abbrev asked_in : List Event → List (List ℕ)
asked_in events = flat_map asked_of events

asks : (event : Event) (a b : Outside) → Does event a b → b.asked ≡ a.asked ++ asked_of event
asks (took bytes) a b does = ap (λ (o : Outside). o.asked) does.0 ∙ sym (append-nil a.asked)
asks (took_rest bytes) a b does = ap (λ (o : Outside). o.asked) does.0 ∙ sym (append-nil a.asked)
asks (gave name text) a b does = ap (λ (o : Outside). o.asked) does.0
asks (told piece) a b does = ap (λ (o : Outside). o.asked) does.0 ∙ sym (append-nil a.asked)
asks input_failed a b does = ap (λ (o : Outside). o.asked) does.0 ∙ sym (append-nil a.asked)
asks (shelf_failed name) a b does = ap (λ (o : Outside). o.asked) does.0
asks output_failed a b does = ap (λ (o : Outside). o.asked) does.0 ∙ sym (append-nil a.asked)

asked_together : (events : List Event) (a b : Outside) → Happened events a b → b.asked ≡ a.asked ++ asked_in events
asked_together [] a b happened = ap (λ (o : Outside). o.asked) happened ∙ sym (append-nil a.asked)
asked_together (event ∷ events) a b happened =
    asked_together events happened.0 b happened.2 ∙ ap (λ (xs : List (List ℕ)). xs ++ asked_in events) (asks event a happened.0 happened.1) ∙ append_assoc a.asked (asked_of event) (asked_in events)

pub asks_nothing : (events : List Event) (a b : Outside) → asked_in events ≡ [] → Happened events a b → b.asked ≡ a.asked
asks_nothing events a b none happened = asked_together events a b happened ∙ ap (λ (xs : List (List ℕ)). a.asked ++ xs) none ∙ append-nil a.asked

asked_of_lines : (t : Transcript) → asked_in (events_of t) ≡ []
asked_of_lines [] = refl
asked_of_lines (pair ∷ more) = asked_of_lines more

asked_after : (t : Transcript) (more : List Event) → asked_in (events_of t ++ more) ≡ asked_in more
asked_after t more = flat_map-append asked_of (events_of t) more ∙ ap (λ (xs : List (List ℕ)). xs ++ asked_in more) (asked_of_lines t)

line_asks_nothing : (line : List ℕ) (taken : List Event) → IsLineTaken line taken → asked_in taken ≡ []
line_asks_nothing line taken is = elim is [
  | inl w ↦ ap asked_in w.1
  | inr w ↦ ap asked_in w.2
]

spare_asks : (events spare : List Event) (mid b : Outside) → IsSpare CHUNK events spare → Happened spare mid b → b.asked ≡ mid.asked
spare_asks events spare mid b nothing happened = ap (λ (o : Outside). o.asked) happened
spare_asks events spare mid b (ahead held few other some) happened = ap (λ (o : Outside). o.asked) happened.2 ∙ ap (λ (o : Outside). o.asked) happened.1.0

pub has_took-split : (xs ys : List Event) → HasTook (xs ++ ys) → HasTook xs ⊎ HasTook ys
has_took-split [] ys some = inr some
has_took-split (x ∷ xs) ys some = elim some [
  | inl w ↦ inl (inl w)
  | inr w ↦ elim (has_took-split xs ys w) [
    | inl v ↦ inl (inr v)
    | inr v ↦ inr v
  ]
]

pub gave_alone : (name text : List ℕ) → HasTook (gave name text ∷ []) → ⊥
gave_alone name text some = elim some [
  | inl w ↦ w
  | inr w ↦ w
]

-- what passes the limit of a file is that it was given
pub is_gave : (file : List ℕ) (event : Event) → PassesLimit (sheet_file file) event → (text : List ℕ) × (event ≡ gave file text) × (SHEET_LIMIT < length text)
is_gave file (took bytes) passes = absurd passes
is_gave file (took_rest bytes) passes = absurd passes
is_gave file (gave name text) passes = (text, ap (λ (n : List ℕ). gave n text) passes.0, passes.1)
is_gave file (told piece) passes = absurd passes
is_gave file input_failed passes = absurd passes
is_gave file (shelf_failed name) passes = absurd passes
is_gave file output_failed passes = absurd passes

module _ {S N : Type 0} (IsSheet : List ℕ → S → Type 0) (Refuses : List ℕ → SheetRefusal → List ℕ → N → N → Type 0) (Allows : S × N → List ℕ → Answer → S × N → Type 0) (file : List ℕ) (notes : N) where
  abbrev Course : N → Status → Printing → Outside → Outside → Type 0
  Course notes' status text a b = Edits IsSheet Refuses Allows file text (moment a notes) (moment b notes') status

  -- all that it says but how often the shelf was asked
  record Says (notes' : N) (status : Status) (a b : Outside) : Type 0 where
    text : Printing
    course : Course notes' status text a b
    written : IsPrinted status a.output b.output text

  -- ---- that the shelf was asked at most once

  stop_asks : (notes' : N) (status : Status) (text : Printing) (a b : Outside) → EditStops IsSheet Refuses Allows file text (moment a notes) (moment b notes') status → AsksOnce file a.asked b.asked
  stop_asks notes' status text a b (lacks_memory lacks same) = lacks.asks
  stop_asks notes' status text a b (has_long_file long same) = inr long.takes.takes.once
  stop_asks notes' status text a b (refuses_file sheet why more taken small refuses unread is) = inr taken.once
  stop_asks notes' status text a b (passes_limit opens) = inr opens.takes.once

  asks_once : (notes' : N) (status : Status) (text : Printing) (a b : Outside) → Course notes' status text a b → AsksOnce file a.asked b.asked
  asks_once notes' status text a b (stops so by) = stop_asks notes' so text a b by
  asks_once notes' status text a b (lacks_file lacks same rose kept) = inr lacks.once
  asks_once notes' status text a b (fails_at_lines opens rose kept) = inr opens.takes.once
  asks_once notes' status text a b (answers_all so opens) = inr opens.takes.once
  asks_once notes' status text a b (cut_at_end so by) = stop_asks notes' so text a b by
  asks_once notes' status text a b (cut_at_answer opens) = inr opens.takes.once

  -- ---- from the file on

  takes_file : (text : List ℕ) (a given b : Outside) → Does (gave file text) a given → b.asked ≡ given.asked → TakesFile a.kept file a.asked b.asked text
  takes_file text a given b does still = record { once = still ∙ ap (λ (o : Outside). o.asked) does.0; whole = does.1 }

  opened : (Answers : S × N → S × N → Option (List ℕ) → Option (List ℕ) → Type 0) (notes' : N) (text : List ℕ) (start end : S) (a given b : Outside) → length text ≤ SHEET_LIMIT → IsSheet text start → Does (gave file text) a given → b.asked ≡ given.asked
      → Answers (start, notes) (end, notes') given.input b.input → OpensFile IsSheet file (moment a notes) (moment b notes') Answers
  opened Answers notes' text start end a given b small is does still by = record {
    sheet = text;
    takes = takes_file text a given b does still;
    small = small;
    start = start;
    is = is;
    end = end;
    answers = subst (λ (x : Option (List ℕ)). Answers (start, notes) (end, notes') x b.input) (ap (λ (o : Outside). o.input) does.0) by;
  }

  -- ---- at the end of its course

  at_course_end : (notes' : N) (status : Status) (events spare : List Event) (a b : Outside) → Edit IsSheet Refuses Allows file notes events (ends status) notes' → (mid : Outside) → Happened events a mid → IsSpare CHUNK events spare → Happened spare mid b → Says notes' status a b
  at_course_end notes' status events spare a b (has_file text more small (answers start end is_sheet (has_all t legal each all count more_is)) events_are) mid happened is_spare rest =
      let two = subst (λ (es : List Event). Happened es a mid) events_are happened in
      let given = two.0 in
      let last = happened-split (events_of t) (took_rest [] ∷ []) given mid (subst (λ (es : List Event). Happened es given mid) more_is two.2) in
      let at_end : IsAtEnd mid.input = subst (λ (o : Outside). IsAtEnd o.input) (sym last.2.2) last.2.1.2 in
      let none = no_spare events spare mid b (λ some last. subst IsOutput (ap (last_or (took [])) (events_are ∙ ap (λ (es : List Event). gave file text ∷ es) more_is) ∙ last_or-append (gave file text) (events_of t) (took_rest [] ∷ [])) last) is_spare rest in
      let same : b.input ≡ mid.input = ap (λ (o : Outside). o.input) none in
      let still : b.asked ≡ given.asked = ap (λ (o : Outside). o.asked) none ∙ asks_nothing more given mid (ap asked_in more_is ∙ asked_after t (took_rest [] ∷ [])) two.2 in
      let commands : taken_in more ≡ input_of t = ap taken_in more_is ∙ taken_after t (took_rest [] ∷ []) ∙ append-nil (input_of t) in
      let said : told_in events ≡ output_of t = ap told_in events_are ∙ ap told_in more_is ∙ told_after t (took_rest [] ∷ []) ∙ append-nil (output_of t) in
      let written : Appends a.output b.output (output_of t) = subst (λ (x : Option (List ℕ)). Appends a.output x (output_of t)) (sym (ap (λ (o : Outside). o.output) none)) (subst (λ (xs : List ℕ). Appends a.output mid.output xs) said (told_together events a mid happened)) in
      let no_memory = list_any (λ pair. is_no_memory pair.1) t in
      let refused = list_any (λ pair. was_refused pair.1) t in
      record {
        text = printed (output_of t) [];
        course = answers_all (worse_of no_memory refused) (opened (λ start end. AnswersAll Allows start end (worse_of no_memory refused) (printed (output_of t) [])) notes' text start end a given b small is_sheet two.1 still record {
          transcript = t;
          legal = legal;
          commands = input_of t;
          taken = subst (λ (x : Option (List ℕ)). Consumes given.input x (input_of t)) (sym same) (subst (λ (xs : List ℕ). Consumes given.input mid.input xs) commands (taken_together more given mid two.2));
          at_end = subst (λ (x : Option (List ℕ)). IsAtEnd x) (sym same) at_end;
          all = all;
          each = each;
          count = count;
          text_is = refl;
          status_is = refl;
        });
        written = printed_all no_memory refused a.output b.output (output_of t) written;
      }

  -- ---- where a read failed

  at_read_fault : (notes' : N) (before : List Event) (intake : Intake) (begun : List ℕ) (events : List Event) (a b : Outside) → Edit IsSheet Refuses Allows file notes before (takes intake) notes' → CanBegin intake begun → events ≡ before ++ took begun ∷ input_failed ∷ [] → Happened events a b
      → Says notes' ReadFault a b
  at_read_fault notes' before intake begun events a b (awaits_file before_is) can is happened = absurd can
  at_read_fault notes' before intake begun events a b (has_file text more small (answers start end is_sheet lines_so) before_is) can is happened =
      let got = awaits IsSheet Refuses Allows notes intake more (start, notes) (end, notes') lines_so in
      let t = got.0 in
      let tail = took begun ∷ input_failed ∷ [] in
      let events_are : events ≡ gave file text ∷ (events_of t ++ tail) = is ∙ ap (λ (es : List Event). es ++ tail) before_is ∙ ap (λ (es : List Event). gave file text ∷ (es ++ tail)) got.4 in
      let two = subst (λ (es : List Event). Happened es a b) events_are happened in
      let given = two.0 in
      let still : b.asked ≡ given.asked = asks_nothing (events_of t ++ tail) given b (asked_after t tail) two.2 in
      let said : told_in events ≡ output_of t ++ [] = ap told_in events_are ∙ told_after t tail in
      let calm : AreCalm (gave file text ∷ (events_of t ++ took begun ∷ [])) = (tt, calm-append (events_of t) (took begun ∷ []) (lines_calm t) (tt, tt)) in
      let failed = read_fails (gave file text ∷ (events_of t ++ took begun ∷ [])) a b calm
      (subst (λ (es : List Event). Happened es a b) (events_are ∙ ap (λ (es : List Event). gave file text ∷ es) (sym (append_assoc (events_of t) (took begun ∷ []) (input_failed ∷ [])))) happened) in
      record {
        text = printed (output_of t) [];
        course = fails_at_lines (opened (λ start end. AnswersTaken Allows start end (printed (output_of t) [])) notes' text start end a given b small is_sheet two.1 still record {
          transcript = t;
          legal = got.1;
          whole = got.2;
          count = got.3;
          begun = begun;
          open_line = got.5 begun can;
          taken = subst (λ (xs : List ℕ). Consumes given.input b.input xs) (taken_after t tail ∙ ap (λ (xs : List ℕ). input_of t ++ xs) (append-nil begun)) (taken_together (events_of t ++ tail) given b two.2);
          text_is = refl;
        }) failed.0 failed.1;
        written = subst (λ (xs : List ℕ). Appends a.output b.output xs) said (told_together events a b happened);
      }

  at_file_fault : (notes' : N) (before : List Event) (name : List ℕ) (events : List Event) (a b : Outside) → Edit IsSheet Refuses Allows file notes before (takes (sheet_file name)) notes' → events ≡ before ++ shelf_failed name ∷ [] → Happened events a b → Says notes' ReadFault a b
  at_file_fault notes' before name events a b (awaits_file before_is) is happened =
      let events_are : events ≡ shelf_failed file ∷ [] = is ∙ ap (λ (es : List Event). es ++ shelf_failed file ∷ []) before_is in
      let two = subst (λ (es : List Event). Happened es a b) events_are happened in
      record {
        text = printed [] [];
        course = lacks_file record { once = ap (λ (o : Outside). o.asked) two.2 ∙ ap (λ (o : Outside). o.asked) two.1.0; unread = ap (λ (o : Outside). o.input) two.2 ∙ ap (λ (o : Outside). o.input) two.1.0; text_is = refl } refl
            (subst (λ (n : ℕ). Rose a.shelf_faults n) (sym (ap (λ (o : Outside). o.shelf_faults) two.2)) two.1.1) (ap (λ (o : Outside). o.input_faults) two.2 ∙ ap (λ (o : Outside). o.input_faults) two.1.0);
        written = subst (λ (xs : List ℕ). Appends a.output b.output xs) (ap told_in events_are) (told_together events a b happened);
      }
  at_file_fault notes' before name events a b (has_file text more small (answers start end is_sheet lines_so) before_is) is happened = elim lines_so [ ]

  -- ---- where it ends by a line

  record LastLine (notes' : N) (line : List ℕ) (status : Status) (said : List ℕ) (a b : Outside) : Type 0 where
    before : List ℕ
    before_is : said ≡ before
    ends : EditStops IsSheet Refuses Allows file (printed before line) (moment a notes) (moment b notes') status
    prints : (sink sink' : Option (List ℕ)) → Appends sink sink' (before ++ line) → IsPrinted status sink sink' (printed before line)

  wants_memory : (notes' : N) (said : List ℕ) (a b : Outside) → said ≡ [] → notes' ≡ notes → AsksOnce file a.asked b.asked → b.input ≡ a.input → LastLine notes' sheet_memory_text Memory said a b
  wants_memory notes' said a b none no_note asks unread =
      let lacks : LacksMemoryForFile file (printed [] sheet_memory_text) a.asked b.asked a.input b.input = record { asks = asks; unread = unread; text_is = refl } in
      record { before = []; before_is = none; ends = lacks_memory lacks no_note; prints = λ sink sink' w. w }

  last_line : (notes' : N) (line : List ℕ) (status : Status) (events : List Event) (a mid b : Outside) → Comes (Edit IsSheet Refuses Allows file notes) events (ends_with line status) notes' → Happened events a mid → IsReadAhead mid.input b.input → ((HasTook events → ⊥) → b.input ≡ mid.input) → b.asked ≡ mid.asked
      → LastLine notes' line status (told_in events) a b
  last_line notes' line status events a mid b (on_course (has_file text more small (is_refused why further has more_is) events_are)) happened read_ahead alone still =
      let is : events ≡ gave file text ∷ [] = events_are ∙ ap (λ (es : List Event). gave file text ∷ es) more_is in
      let two = subst (λ (es : List Event). Happened es a mid) is happened in
      record {
        before = [];
        before_is = ap told_in is;
        ends = refuses_file text why further (takes_file text a two.0 b two.1 (still ∙ ap (λ (o : Outside). o.asked) two.2)) small has
            (alone (λ some. gave_alone file text (subst HasTook is some)) ∙ ap (λ (o : Outside). o.input) two.2 ∙ ap (λ (o : Outside). o.input) two.1.0) refl;
        prints = λ sink sink' w. w;
      }
  last_line notes' line status events a mid b (on_course (has_file text more small (answers start end is_sheet lines_so) events_are)) happened read_ahead alone still = elim lines_so [ ]
  last_line notes' line status events a mid b (past_limit before intake event (awaits_file before_is) passes is) happened read_ahead alone still =
      let got = is_gave file event passes in
      let text = got.0 in
      let events_are : events ≡ gave file text ∷ [] = is ∙ ap (λ (es : List Event). es ++ event ∷ []) before_is ∙ ap (λ (e : Event). e ∷ []) got.1 in
      let two = subst (λ (es : List Event). Happened es a mid) events_are happened in
      let long : HasLongFile a.kept file (printed [] too_long_text) a.asked b.asked a.input b.input = record {
        takes = record { text = text; takes = takes_file text a two.0 b two.1 (still ∙ ap (λ (o : Outside). o.asked) two.2); long = got.2 };
        unread = alone (λ some. gave_alone file text (subst HasTook events_are some)) ∙ ap (λ (o : Outside). o.input) two.2 ∙ ap (λ (o : Outside). o.input) two.1.0;
        text_is = refl;
      } in
      record { before = []; before_is = ap told_in events_are; ends = has_long_file long refl; prints = λ sink sink' w. w }
  last_line notes' line status events a mid b (past_limit before intake event (has_file text more small (answers start end is_sheet lines_so) before_is) passes is) happened read_ahead alone still =
      let so = awaits IsSheet Refuses Allows notes intake more (start, notes) (end, notes') lines_so in
      let t = so.0 in
      let got = is_took intake event so.7 passes in
      let begun = got.0 in
      let tail = took begun ∷ [] in
      let events_are : events ≡ gave file text ∷ (events_of t ++ tail) = is ∙ ap (λ (es : List Event). es ++ event ∷ []) before_is ∙ ap (λ (es : List Event). gave file text ∷ (es ++ event ∷ [])) so.4 ∙ ap (λ (e : Event). gave file text ∷ (events_of t ++ e ∷ [])) got.1 in
      let two = subst (λ (es : List Event). Happened es a mid) events_are happened in
      let given = two.0 in
      let same : b.asked ≡ given.asked = still ∙ asks_nothing (events_of t ++ tail) given mid (asked_after t tail) two.2 in
      let said : told_in events ≡ output_of t = ap told_in events_are ∙ told_after t tail ∙ append-nil (output_of t) in
      record {
        before = output_of t;
        before_is = said;
        ends = passes_limit (opened (λ start end. StopsAtLimit Allows start end (printed (output_of t) too_long_text)) notes' text start end a given b small is_sheet two.1 same record {
          transcript = t;
          legal = so.1;
          whole = so.2;
          count = so.3;
          begun = begun;
          passes = so.6 begun got.2;
          rest = mid.input;
          taken = subst (λ (xs : List ℕ). Consumes given.input mid.input xs) (taken_after t tail ∙ ap (λ (xs : List ℕ). input_of t ++ xs) (append-nil begun)) (taken_together (events_of t ++ tail) given mid two.2);
          ahead = read_ahead;
          text_is = refl;
        });
        prints = λ sink sink' w. w;
      }
  last_line notes' line status events a mid b (without_memory line2 (needs_memory none)) happened read_ahead alone still =
      let h = subst (λ (es : List Event). Happened es a mid) none happened in
      wants_memory notes' (told_in events) a b (ap told_in none) refl (inl (still ∙ ap (λ (o : Outside). o.asked) h)) (alone (λ some. subst HasTook none some) ∙ ap (λ (o : Outside). o.input) h)
  last_line notes' line status events a mid b (without_memory line2 (has_file text more small (needs_memory more_is) events_are)) happened read_ahead alone still =
      let is : events ≡ gave file text ∷ [] = events_are ∙ ap (λ (es : List Event). gave file text ∷ es) more_is in
      let two = subst (λ (es : List Event). Happened es a mid) is happened in
      wants_memory notes' (told_in events) a b (ap told_in is) refl (inr (takes_file text a two.0 b two.1 (still ∙ ap (λ (o : Outside). o.asked) two.2)).once) (alone (λ some. gave_alone file text (subst HasTook is some)) ∙ ap (λ (o : Outside). o.input) two.2 ∙ ap (λ (o : Outside). o.input) two.1.0)
  last_line notes' line status events a mid b (without_memory line2 (has_file text more small (answers start end is_sheet lines_so) events_are)) happened read_ahead alone still = elim lines_so [ ]

  -- ---- where a write failed at an answer

  at_line : (notes' : N) (piece : List ℕ) (count : ℕ) (events : List Event) (a mid b : Outside) → Comes (Edit IsSheet Refuses Allows file notes) events (tells piece) notes' → Happened events a mid → IsReadAhead mid.input b.input → b.asked ≡ mid.asked → Appends a.output b.output (told_in events ++ take count piece)
      → Says notes' WriteFault a b
  at_line notes' piece count events a mid b (on_course (has_file text more small (answers start end is_sheet (has_answer t state line line_taken answer legal whole few is_line allowed more_is)) events_are)) happened read_ahead still written =
      let two = subst (λ (es : List Event). Happened es a mid) events_are happened in
      let given = two.0 in
      let last = happened-split (events_of t) line_taken given mid (subst (λ (es : List Event). Happened es given mid) more_is two.2) in
      let of_line = line_of line line_taken last.0 mid is_line last.2 in
      let same : b.asked ≡ given.asked = still ∙ asks_nothing more given mid (ap asked_in more_is ∙ asked_after t line_taken ∙ line_asks_nothing line line_taken is_line) two.2 in
      let said : told_in events ≡ output_of t = ap told_in events_are ∙ ap told_in more_is ∙ told_after t line_taken ∙ ap (λ (xs : List ℕ). output_of t ++ xs) of_line.1 ∙ append-nil (output_of t) in
      record {
        text = printed (output_of t) (answer_text answer);
        course = cut_at_answer (opened (λ start end. AnswersSome Allows start end (printed (output_of t) (answer_text answer))) notes' text start end a given b small is_sheet two.1 same record {
          transcript = t;
          state = state;
          legal = legal;
          whole = whole;
          count = few;
          line = line;
          rest = mid.input;
          complete = of_line.0;
          answer = answer;
          allowed = allowed;
          taken = subst (λ (xs : List ℕ). Consumes given.input mid.input xs) (ap taken_in more_is ∙ taken_after t line_taken ∙ ap (λ (xs : List ℕ). input_of t ++ xs) of_line.2) (taken_together more given mid two.2);
          ahead = read_ahead;
          text_is = refl;
        });
        written = record { count = count; written = subst (λ (xs : List ℕ). Appends a.output b.output (xs ++ take count (answer_text answer))) said written };
      }

  -- ---- the whole

  at_write_fault : (notes' : N) (stage : Stage) (piece : List ℕ) (count : ℕ) (events : List Event) (a mid b : Outside) → Tells piece stage → Comes (Edit IsSheet Refuses Allows file notes) events stage notes' → Happened events a mid → IsReadAhead mid.input b.input → ((HasTook events → ⊥) → b.input ≡ mid.input) → b.asked ≡ mid.asked
      → Appends a.output b.output (told_in events ++ take count piece) → Says notes' WriteFault a b
  at_write_fault notes' stage piece count events a mid b goes_on comes happened read_ahead alone still written = at_line notes' piece count events a mid b comes happened read_ahead still written
  at_write_fault notes' stage piece count events a mid b (ends_so status) comes happened read_ahead alone still written =
      let last = last_line notes' piece status events a mid b comes happened read_ahead alone still in
      record {
        text = printed last.before piece;
        course = cut_at_end status last.ends;
        written = record { count = count; written = subst (λ (xs : List ℕ). Appends a.output b.output (xs ++ take count piece)) last.before_is written };
      }

  by_run : (notes' : N) (status : Status) (a mid b : Outside) (events spare : List Event) → Run (Edit IsSheet Refuses Allows file notes) events status notes' → Happened events a mid → IsSpare CHUNK events spare → Happened spare mid b → Says notes' status a b
  by_run notes' status a mid b events spare (ended (on_course course)) happened is_spare rest = at_course_end notes' status events spare a b course mid happened is_spare rest
  by_run notes' status a mid b events spare (ended_with before line comes is) happened is_spare rest =
      let read = spare_of events spare mid b is_spare rest in
      let tail = told line ∷ [] in
      let two = happened-split before tail a mid (subst (λ (es : List Event). Happened es a mid) is happened) in
      let m = two.0 in
      let input_is : mid.input ≡ m.input = ap (λ (o : Outside). o.input) two.2.2 ∙ ap (λ (o : Outside). o.input) two.2.1.0 in
      let still : b.asked ≡ m.asked = spare_asks events spare mid b is_spare rest ∙ asks_nothing tail m mid refl two.2 in
      let alone : (HasTook before → ⊥) → b.input ≡ m.input = λ none. ap (λ (o : Outside). o.input) (no_spare events spare mid b (λ some last. elim (has_took-split before tail (subst HasTook is some)) [
        | inl w ↦ none w
        | inr w ↦ told_alone line w
      ]) is_spare rest) ∙ input_is in
      let written : Appends a.output b.output (told_in before ++ line) = subst (λ (x : Option (List ℕ)). Appends a.output x (told_in before ++ line)) (sym read.quiet) (subst (λ (xs : List ℕ). Appends a.output mid.output xs) (ap told_in is ∙ told-append before tail ∙ ap (λ (xs : List ℕ). told_in before ++ xs) (append-nil line)) (told_together events a mid happened)) in
      let last = last_line notes' line status before a m b comes two.1 (subst (λ (x : Option (List ℕ)). IsReadAhead x b.input) input_is read.ahead) alone still in
      record { text = printed last.before line; course = stops status last.ends; written = last.prints a.output b.output (subst (λ (xs : List ℕ). Appends a.output b.output (xs ++ line)) last.before_is written) }
  by_run notes' status a mid b events spare (read_failed before intake begun course can is) happened is_spare rest =
      let same = no_spare events spare mid b (λ some last. subst IsOutput (ap (last_or (took [])) is ∙ last_or-append (took []) before (took begun ∷ input_failed ∷ [])) last) is_spare rest in
      at_read_fault notes' before intake begun events a b course can is (subst (λ (o : Outside). Happened events a o) (sym same) happened)
  by_run notes' status a mid b events spare (read_failed_at_file before name course is) happened is_spare rest =
      let same = no_spare events spare mid b (λ some last. subst IsOutput (ap (last_or (took [])) is ∙ last_or-append (took []) before (shelf_failed name ∷ [])) last) is_spare rest in
      at_file_fault notes' before name events a b course is (subst (λ (o : Outside). Happened events a o) (sym same) happened)
  by_run notes' status a mid b events spare (write_failed before stage piece count comes tell is) happened is_spare rest =
      let read = spare_of events spare mid b is_spare rest in
      let tail = told (take count piece) ∷ output_failed ∷ [] in
      let two = happened-split before tail a mid (subst (λ (es : List Event). Happened es a mid) is happened) in
      let m = two.0 in
      let input_is : mid.input ≡ m.input = ap (λ (o : Outside). o.input) two.2.2.2 ∙ ap (λ (o : Outside). o.input) two.2.2.1.0 ∙ ap (λ (o : Outside). o.input) two.2.1.0 in
      let still : b.asked ≡ m.asked = spare_asks events spare mid b is_spare rest ∙ asks_nothing tail m mid refl two.2 in
      let alone : (HasTook before → ⊥) → b.input ≡ m.input = λ none. ap (λ (o : Outside). o.input) (no_spare events spare mid b (λ some last. elim (has_took-split before tail (subst HasTook is some)) [
        | inl w ↦ none w
        | inr w ↦ cut_alone (take count piece) w
      ]) is_spare rest) ∙ input_is in
      let written : Appends a.output b.output (told_in before ++ take count piece) = subst (λ (x : Option (List ℕ)). Appends a.output x (told_in before ++ take count piece)) (sym read.quiet) (subst (λ (xs : List ℕ). Appends a.output mid.output xs) (ap told_in is ∙ told-append before tail ∙ ap (λ (xs : List ℕ). told_in before ++ xs) (append-nil (take count piece))) (told_together events a mid happened)) in
      at_write_fault notes' stage piece count before a m b tell comes two.1 (subst (λ (x : Option (List ℕ)). IsReadAhead x b.input) input_is read.ahead) alone still written

pub edited : {S N : Type 0} (IsSheet : List ℕ → S → Type 0) (Refuses : List ℕ → SheetRefusal → List ℕ → N → N → Type 0) (Allows : S × N → List ℕ → Answer → S × N → Type 0) (file : List ℕ) (notes notes' : N) (status : Status) (a b : Outside) → Ran (Edit IsSheet Refuses Allows file notes) CHUNK status notes' a b
    → Edited IsSheet Refuses Allows file status (moment a notes) (moment b notes')
edited IsSheet Refuses Allows file notes notes' status a b ran =
    let two = happened-split ran.events ran.spare a b ran.happened in
    let says = by_run IsSheet Refuses Allows file notes notes' status a two.0 b ran.events ran.spare ran.run two.1 ran.is_spare two.2 in
    record { text = says.text; course = says.course; written = says.written; asks = asks_once IsSheet Refuses Allows file notes notes' status says.text a b says.course }
