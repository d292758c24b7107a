-- From a run's events to what it said by its status.
use Rattle.std.proofs.Common.{◌≡◌, ◌≢◌, ℕ, ◌≤◌, Bool, true, false, List, [], ◌∷◌, ◌++◌, length, refl, sym, ◌∙◌, ap, subst, arith, inl, inr, Option, All, append_assoc, append-nil, take}
use Rattle.std.specs.List.{list_any}
use Rattle.std.specs.Io.KnownBytes.{Consumes, Appends, IsAtEnd}
use Rattle.std.proofs.KnownBytes.{Consumes-nil}
use Rattle.std.proofs.lemmas.List.Concat.{flat_map-append}
use Rattle.std.proofs.lemmas.List.Elements.{All-nil}
use Rattle.pc_port.specs.declared.TheConstants.{CHUNK}
use Rattle.pc_lines.specs.Lines.{IsWholeLine, IsOpenLine}
use Rattle.pc_refusals.specs.declared.status.Status.{Status}
use Rattle.pc_refusals.specs.declared.status.Status.TheVariants.{ReadFault, WriteFault, Memory}
use Rattle.pc_refusals.specs.declared.refusal.SheetRefusal.{SheetRefusal}
use Rattle.pc_refusals.specs.Endings.{printed, sheet_memory_text, IsPrinted}
use Rattle.pc_refusals.specs.Events.{Outside, Event, took, took_rest, gave, told, input_failed, shelf_failed, output_failed, Happened}
use Rattle.pc_refusals.specs.Stages.{Intake, sheet_line, line_within, no_line_within, rest_within, sheet_file, Stage, takes, tells, ends, ends_with, CanBegin, PassesLimit}
use Rattle.pc_refusals.specs.Runs.{HasTook, last_or, IsOutput, EndsTelling, IsSpare, nothing, ahead, Tells, goes_on, ends_so, Comes, on_course, past_limit, without_memory, Run, ended, ended_with, read_failed, read_failed_at_file, write_failed, Ran}
use Rattle.pc_transcript.specs.declared.TheConstants.{LINE_LIMIT, MAX_LINES}
use Rattle.pc_transcript.specs.Answer.{Answer, answer_text, is_refused as was_refused, is_no_memory}
use Rattle.pc_transcript.specs.Transcript.{Transcript, Legal, lines, input_of, output_of, worse_of, IsCompleteLine}
use Rattle.pc_transcript.specs.SheetPart.{joined_lines, IsEarlier}
use Rattle.pc_transcript.specs.SheetTaking.{TakesSheet, IsSheetFront}
use Rattle.pc_transcript.specs.Course.{events_of, IsLineTaken, IsSheetTaken, AnswersLines, awaits_line, awaits_end, has_answer, has_all, needs_memory, is_refused, answers, awaits_sheet, keeps_sheet, has_sheet, Replay, needs_room, from_input}
use Rattle.pc_refusals.proofs.EventLemmas.{last_or-append}
use Rattle.pc_run_laws.specs.Flat.{taken_in, told_in, taken_of, told_of}
use Rattle.pc_run_laws.specs.Moments.{moment}
use Rattle.pc_run_laws.specs.Answered.{IsReadAhead, IsLineTooMuch}
use Rattle.pc_run_laws.specs.Replays.{PassesSheetLimit, HasTaken, ReplayStops, lacks_memory, has_long_sheet, refuses_sheet, passes_limit, stops, fails_in_sheet, fails_at_lines, answers_all, cut_at_end, cut_at_answer, Replayed}
use Rattle.pc_run_laws.proofs.FlatLemmas.{taken_together, told_together, happened-split}

-- ---- what was read ahead

-- of what is still to come so much is read, and nothing is told
pub record Spare (mid b : Outside) : Type 0 where
  pub ahead : IsReadAhead mid.input b.input
  pub quiet : b.output ≡ mid.output

pub spare_of : (events spare : List Event) (mid b : Outside) → IsSpare CHUNK events spare → Happened spare mid b → Spare mid b
spare_of events spare mid b nothing happened = record {
  ahead = record { held = []; more = subst (λ (o : Outside). Consumes mid.input o.input []) (sym happened) (Consumes-nil mid.input); few = omega arith };
  quiet = ap (λ (o : Outside). o.output) happened;
}
spare_of events spare mid b (ahead held few other some) happened = record {
  ahead = record { held = held; more = subst (λ (o : Outside). Consumes mid.input o.input held) (sym happened.2) happened.1.1; few = few };
  quiet = ap (λ (o : Outside). o.output) happened.2 ∙ ap (λ (o : Outside). o.output) happened.1.0;
}

pub no_spare : (events spare : List Event) (mid b : Outside) → (HasTook events → EndsTelling events → ⊥) → IsSpare CHUNK events spare → Happened spare mid b → b ≡ mid
no_spare events spare mid b fails nothing happened = happened
no_spare events spare mid b fails (ahead held few other some) happened = absurd (fails some other)

-- ---- what transcripts come to

taken_of_lines : (t : Transcript) → taken_in (events_of t) ≡ input_of t
taken_of_lines [] = refl
taken_of_lines (pair ∷ more) = ap (λ (xs : List ℕ). pair.0 ++ xs) (taken_of_lines more)

told_of_lines : (t : Transcript) → told_in (events_of t) ≡ output_of t
told_of_lines [] = refl
told_of_lines (pair ∷ more) = ap (λ (xs : List ℕ). answer_text pair.1 ++ xs) (told_of_lines more)

taken-append : (xs ys : List Event) → taken_in (xs ++ ys) ≡ taken_in xs ++ taken_in ys
taken-append xs ys = flat_map-append taken_of xs ys

pub told-append : (xs ys : List Event) → told_in (xs ++ ys) ≡ told_in xs ++ told_in ys
told-append xs ys = flat_map-append told_of xs ys

pub taken_after : (t : Transcript) (more : List Event) → taken_in (events_of t ++ more) ≡ input_of t ++ taken_in more
taken_after t more = taken-append (events_of t) more ∙ ap (λ (xs : List ℕ). xs ++ taken_in more) (taken_of_lines t)

pub told_after : (t : Transcript) (more : List Event) → told_in (events_of t ++ more) ≡ output_of t ++ told_in more
told_after t more = told-append (events_of t) more ∙ ap (λ (xs : List ℕ). xs ++ told_in more) (told_of_lines t)

-- ---- lines

abbrev pub IsLineIntake : Intake → Type 0
IsLineIntake (sheet_line before) = Unit {0}
IsLineIntake (line_within limit) = Unit {0}
IsLineIntake (no_line_within limit) = Unit {0}
IsLineIntake (rest_within limit) = ⊥
IsLineIntake (sheet_file file) = ⊥

-- what passes the limit of a line is some bytes that were taken
pub is_took : (intake : Intake) (event : Event) → IsLineIntake intake → PassesLimit intake event → (begun : List ℕ) × (event ≡ took begun) × PassesLimit intake (took begun)
is_took (sheet_line before) (took bytes) of_line passes = (bytes, refl, passes)
is_took (sheet_line before) (took_rest bytes) of_line passes = absurd passes
is_took (sheet_line before) (gave name text) of_line passes = absurd passes
is_took (sheet_line before) (told piece) of_line passes = absurd passes
is_took (sheet_line before) input_failed of_line passes = absurd passes
is_took (sheet_line before) (shelf_failed name) of_line passes = absurd passes
is_took (sheet_line before) output_failed of_line passes = absurd passes
is_took (line_within limit) (took bytes) of_line passes = (bytes, refl, passes)
is_took (line_within limit) (took_rest bytes) of_line passes = absurd passes
is_took (line_within limit) (gave name text) of_line passes = absurd passes
is_took (line_within limit) (told piece) of_line passes = absurd passes
is_took (line_within limit) input_failed of_line passes = absurd passes
is_took (line_within limit) (shelf_failed name) of_line passes = absurd passes
is_took (line_within limit) output_failed of_line passes = absurd passes
is_took (no_line_within limit) (took bytes) of_line passes = (bytes, refl, passes)
is_took (no_line_within limit) (took_rest bytes) of_line passes = absurd passes
is_took (no_line_within limit) (gave name text) of_line passes = absurd passes
is_took (no_line_within limit) (told piece) of_line passes = absurd passes
is_took (no_line_within limit) input_failed of_line passes = absurd passes
is_took (no_line_within limit) (shelf_failed name) of_line passes = absurd passes
is_took (no_line_within limit) output_failed of_line passes = absurd passes
is_took (rest_within limit) event of_line passes = absurd of_line
is_took (sheet_file file) event of_line passes = absurd of_line

-- ---- the sheet

takes_sheet : (text : List ℕ) (taken : List Event) (a b : Outside) → IsSheetTaken text taken → Happened taken a b → TakesSheet text a.input b.input
takes_sheet text taken a b is happened = elim is.ends [
  | inl w ↦ let h = subst (λ (es : List Event). Happened es a b) w.2 happened in record {
    taken = subst (λ (o : Outside). Consumes a.input o.input text) (sym h.2) h.1.1;
    part = record { earlier = is.earlier; last = is.last; is = is.is; others = is.others; ends = inl (w.0, w.1) };
    small = is.small;
  }
  | inr w ↦ let h = subst (λ (es : List Event). Happened es a b) w.1 happened in record {
    taken = subst (λ (o : Outside). Consumes a.input o.input text) (sym h.2) h.1.1;
    part = record { earlier = is.earlier; last = is.last; is = is.is; others = is.others; ends = inr (w.0, subst (λ (o : Outside). IsAtEnd o.input) (sym h.2) h.1.2) };
    small = is.small;
  }
]

pub sheet_is_quiet : (text : List ℕ) (taken : List Event) → IsSheetTaken text taken → told_in taken ≡ []
sheet_is_quiet text taken is = elim is.ends [
  | inl w ↦ ap told_in w.2
  | inr w ↦ ap told_in w.1
]

-- a line was taken: it is complete, nothing is told, and this was taken
pub line_of : (line : List ℕ) (taken : List Event) (a b : Outside) → IsLineTaken line taken → Happened taken a b → IsCompleteLine line b.input × (told_in taken ≡ []) × (taken_in taken ≡ line)
line_of line taken a b is happened = elim is [
  | inl w ↦ (inl w.0, ap told_in w.1, ap taken_in w.1 ∙ append-nil line)
  | inr w ↦ let h = subst (λ (es : List Event). Happened es a b) w.2 happened in (inr (w.0, w.1, subst (λ (o : Outside). IsAtEnd o.input) (sym h.2) h.1.2), ap told_in w.2, ap taken_in w.2 ∙ append-nil line)
]

-- ---- what a status prints

pub printed_all : (no_memory refused : Bool) (sink sink' : Option (List ℕ)) (text : List ℕ) → Appends sink sink' text → IsPrinted (worse_of no_memory refused) sink sink' (printed text [])
printed_all true refused sink sink' text w = subst (λ (xs : List ℕ). Appends sink sink' xs) (sym (append-nil text)) w
printed_all false true sink sink' text w = subst (λ (xs : List ℕ). Appends sink sink' xs) (sym (append-nil text)) w
printed_all false false sink sink' text w = subst (λ (xs : List ℕ). Appends sink sink' xs) (sym (append-nil text)) w

module _ {S N : Type 0} (IsSheet : List ℕ → S → Type 0) (Refuses : List ℕ → SheetRefusal → List ℕ → N → N → Type 0) (Allows : S × N → List ℕ → Answer → S × N → Type 0) (notes : N) where
  abbrev Says : N → Status → Outside → Outside → Type 0
  Says notes' status a b = Replayed IsSheet Refuses Allows status (moment a notes) (moment b notes')

  -- ---- at the end of its course

  at_course_end : (notes' : N) (status : Status) (events spare : List Event) (a b : Outside) → Replay IsSheet Refuses Allows notes events (ends status) notes' → (mid : Outside) → Happened events a mid → IsSpare CHUNK events spare → Happened spare mid b
      → Says notes' status a b
  at_course_end notes' status events spare a b (from_input (has_sheet text taken more sheet (answers start end is (has_all t legal each all count more_is)) events_are)) mid happened is_spare rest =
      let two = happened-split taken more a mid (subst (λ (es : List Event). Happened es a mid) events_are happened) in
      let b0 = two.0 in
      let takes = takes_sheet text taken a b0 sheet two.1 in
      let last = happened-split (events_of t) (took_rest [] ∷ []) b0 mid (subst (λ (es : List Event). Happened es b0 mid) more_is two.2) in
      let at_end : IsAtEnd mid.input = subst (λ (o : Outside). IsAtEnd o.input) (sym last.2.2) last.2.1.2 in
      let all_taken : Consumes b0.input mid.input (taken_in more) = taken_together more b0 mid two.2 in
      let none = no_spare events spare mid b (λ some last. subst IsOutput (ap (last_or (took [])) (events_are ∙ ap (λ (es : List Event). taken ++ es) more_is) ∙ last_or-append (took []) taken (events_of t ++ took_rest [] ∷ []) ∙ last_or-append (last_or (took []) taken) (events_of t) (took_rest [] ∷ [])) last) is_spare rest in
      let same : b.input ≡ mid.input = ap (λ (o : Outside). o.input) none in
      let commands : taken_in more ≡ input_of t = ap taken_in more_is ∙ taken_after t (took_rest [] ∷ []) ∙ append-nil (input_of t) in
      let said : told_in events ≡ output_of t = ap told_in events_are ∙ told-append taken more ∙ ap (λ (xs : List ℕ). xs ++ told_in more) (sheet_is_quiet text taken sheet) ∙ ap told_in more_is ∙ told_after t (took_rest [] ∷ []) ∙ append-nil (output_of t) in
      let written : Appends a.output b.output (output_of t) = subst (λ (x : Option (List ℕ)). Appends a.output x (output_of t)) (sym (ap (λ (o : Outside). o.output) none)) (subst (λ (xs : List ℕ). Appends a.output mid.output xs) said (told_together events a mid happened)) in
      record {
        text = printed (output_of t) [];
        course = answers_all (worse_of (list_any (λ pair. is_no_memory pair.1) t) (list_any (λ pair. was_refused pair.1) t)) record {
          sheet = text;
          rest = b0.input;
          takes = takes;
          start = start;
          is = is;
          end = end;
          answers = record {
            transcript = t;
            legal = legal;
            commands = input_of t;
            taken = subst (λ (x : Option (List ℕ)). Consumes b0.input x (input_of t)) (sym same) (subst (λ (xs : List ℕ). Consumes b0.input mid.input xs) commands all_taken);
            at_end = subst (λ (x : Option (List ℕ)). IsAtEnd x) (sym same) at_end;
            all = all;
            each = each;
            count = count;
            text_is = refl;
            status_is = refl;
          };
        };
        written = printed_all (list_any (λ pair. is_no_memory pair.1) t) (list_any (λ pair. was_refused pair.1) t) a.output b.output (output_of t) written;
      }

  -- ---- where a read failed

  pub awaits : (intake : Intake) (more : List Event) (start end : S × N) → AnswersLines Allows start more (takes intake) end → (t : Transcript) × Legal Allows start t end × All (IsWholeLine LINE_LIMIT) (lines t) × (length t ≤ MAX_LINES) × (more ≡ events_of t) × ((begun : List ℕ) → CanBegin intake begun → IsOpenLine LINE_LIMIT begun)
      × ((begun : List ℕ) → PassesLimit intake (took begun) → IsLineTooMuch (length t) begun) × IsLineIntake intake
  awaits intake more start end (awaits_line t legal whole few is) = (t, legal, whole, omega (arith, few), is, λ begun can. can, λ begun passes. inl passes, tt)
  awaits intake more start end (awaits_end t legal whole full is) = (
    t,
    legal,
    whole,
    omega (arith, full),
    is,
    λ begun can. can,
    λ begun passes. elim passes [
      | inl long ↦ inl long
      | inr line ↦ inr (full, line)
    ],
    tt,
  )

  at_read_fault : (notes' : N) (before : List Event) (intake : Intake) (begun : List ℕ) (events : List Event) (a b : Outside) → Replay IsSheet Refuses Allows notes before (takes intake) notes' → CanBegin intake begun → events ≡ before ++ took begun ∷ input_failed ∷ [] → Happened events a b
      → Says notes' ReadFault a b
  at_read_fault notes' before intake begun events a b (from_input (awaits_sheet earlier others small before_is)) can is happened =
      let events_are : events ≡ took (joined_lines earlier) ∷ took begun ∷ input_failed ∷ [] = is ∙ ap (λ (es : List Event). es ++ took begun ∷ input_failed ∷ []) before_is in
      record {
        text = printed [] [];
        course = fails_in_sheet record {
          earlier = earlier;
          others = others;
          begun = begun;
          no_end = can.0;
          small = can.1;
          taken = subst (λ (xs : List ℕ). Consumes a.input b.input xs) (ap taken_in events_are ∙ ap (λ (xs : List ℕ). joined_lines earlier ++ xs) (append-nil begun)) (taken_together events a b happened);
        } refl refl;
        written = subst (λ (xs : List ℕ). Appends a.output b.output xs) (ap told_in events_are) (told_together events a b happened);
      }
  at_read_fault notes' before intake begun events a b (from_input (has_sheet text taken more sheet (answers start end is_sheet lines_so) before_is)) can is happened =
      let got = awaits intake more (start, notes) (end, notes') lines_so in
      let t = got.0 in
      let tail = took begun ∷ input_failed ∷ [] in
      let events_are : events ≡ taken ++ (events_of t ++ tail) = is ∙ ap (λ (es : List Event). es ++ tail) before_is ∙ append_assoc taken more tail ∙ ap (λ (es : List Event). taken ++ (es ++ tail)) got.4 in
      let two = happened-split taken (events_of t ++ tail) a b (subst (λ (es : List Event). Happened es a b) events_are happened) in
      let b0 = two.0 in
      let said : told_in events ≡ output_of t ++ [] = ap told_in events_are ∙ told-append taken (events_of t ++ tail) ∙ ap (λ (xs : List ℕ). xs ++ told_in (events_of t ++ tail)) (sheet_is_quiet text taken sheet) ∙ told_after t tail in
      record {
        text = printed (output_of t) [];
        course = fails_at_lines record {
          sheet = text;
          rest = b0.input;
          takes = takes_sheet text taken a b0 sheet two.1;
          start = start;
          is = is_sheet;
          end = end;
          answers = record {
            transcript = t;
            legal = got.1;
            whole = got.2;
            count = got.3;
            begun = begun;
            open_line = got.5 begun can;
            taken = subst (λ (xs : List ℕ). Consumes b0.input b.input xs) (taken_after t tail ∙ ap (λ (xs : List ℕ). input_of t ++ xs) (append-nil begun)) (taken_together (events_of t ++ tail) b0 b two.2);
            text_is = refl;
          };
        };
        written = subst (λ (xs : List ℕ). Appends a.output b.output xs) said (told_together events a b happened);
      }

  -- the shelf is asked for nothing
  no_file : (notes' : N) (before : List Event) (name : List ℕ) → Replay IsSheet Refuses Allows notes before (takes (sheet_file name)) notes' → ⊥
  no_file notes' before name (from_input (has_sheet text taken more sheet (answers start end is_sheet lines_so) is)) = elim lines_so [ ]

  -- ---- where it ends by a line

  record LastLine (notes' : N) (line : List ℕ) (status : Status) (said : List ℕ) (a b : Outside) : Type 0 where
    before : List ℕ
    before_is : said ≡ before
    ends : ReplayStops IsSheet Refuses Allows (printed before line) (moment a notes) (moment b notes') status
    prints : (sink sink' : Option (List ℕ)) → Appends sink sink' (before ++ line) → IsPrinted status sink sink' (printed before line)

  wants_memory : (notes' : N) (said : List ℕ) (a b : Outside) → said ≡ [] → notes' ≡ notes → HasTaken a.input b.input → LastLine notes' sheet_memory_text Memory said a b
  wants_memory notes' said a b none no_note has = record { before = []; before_is = none; ends = lacks_memory has no_note refl; prints = λ sink sink' w. w }

  -- no line is the front of any
  nothing_taken : (source : Option (List ℕ)) → HasTaken source source
  nothing_taken source = record {
    text = [];
    front = record { earlier = []; last = []; is = refl; others = All-nil IsEarlier; one_line = inl (All-nil (λ b. b ≢ 10)) };
    small = omega arith;
    rest = source;
    taken = Consumes-nil source;
    ahead = record { held = []; more = Consumes-nil source; few = omega arith };
  }

  lacks_room : (notes' : N) (said : List ℕ) (a b : Outside) → said ≡ [] → notes' ≡ notes → b.input ≡ a.input → LastLine notes' sheet_memory_text Memory said a b
  lacks_room notes' said a b none no_note unread = wants_memory notes' said a b none no_note (subst (λ (x : Option (List ℕ)). HasTaken a.input x) (sym unread) (nothing_taken a.input))

  -- the text that a sheet's part is made of
  front_of : (text : List ℕ) (taken : List Event) → IsSheetTaken text taken → IsSheetFront text
  front_of text taken is = record {
    earlier = is.earlier;
    last = is.last;
    is = is.is;
    others = is.others;
    one_line = elim is.ends [
      | inl w ↦ inr w.0
      | inr w ↦ inl w.0
    ];
  }

  last_line : (notes' : N) (line : List ℕ) (status : Status) (events : List Event) (a mid b : Outside) → Comes (Replay IsSheet Refuses Allows notes) events (ends_with line status) notes' → Happened events a mid → IsReadAhead mid.input b.input → (events ≡ [] → b.input ≡ mid.input)
      → LastLine notes' line status (told_in events) a b
  last_line notes' line status events a mid b (on_course (from_input (has_sheet text taken more sheet (is_refused why further has more_is) events_are))) happened read_ahead alone =
      let is : events ≡ taken = events_are ∙ ap (λ (es : List Event). taken ++ es) more_is ∙ append-nil taken in
      record {
        before = [];
        before_is = ap told_in is ∙ sheet_is_quiet text taken sheet;
        ends = refuses_sheet text mid.input why further (takes_sheet text taken a mid sheet (subst (λ (es : List Event). Happened es a mid) is happened)) has read_ahead refl;
        prints = λ sink sink' w. w;
      }
  last_line notes' line status events a mid b (past_limit before intake event (from_input (awaits_sheet earlier others small before_is)) passes is) happened read_ahead alone =
      let got = is_took intake event tt passes in
      let begun = got.0 in
      let events_are : events ≡ took (joined_lines earlier) ∷ took begun ∷ [] = is ∙ ap (λ (es : List Event). es ++ event ∷ []) before_is ∙ ap (λ (e : Event). took (joined_lines earlier) ∷ e ∷ []) got.1 in
      let passes_sheet : PassesSheetLimit a.input b.input = record {
        text = joined_lines earlier ++ begun;
        front = record { earlier = earlier; last = begun; is = refl; others = others; one_line = got.2.0 };
        long = got.2.1;
        rest = mid.input;
        taken = subst (λ (xs : List ℕ). Consumes a.input mid.input xs) (ap taken_in events_are ∙ ap (λ (xs : List ℕ). joined_lines earlier ++ xs) (append-nil begun)) (taken_together events a mid happened);
        ahead = read_ahead;
      } in
      record { before = []; before_is = ap told_in events_are; ends = has_long_sheet passes_sheet refl refl; prints = λ sink sink' w. w }
  last_line notes' line status events a mid b (past_limit before intake event (from_input (has_sheet text taken more sheet (answers start end is_sheet lines_so) before_is)) passes is) happened read_ahead alone =
      let so = awaits intake more (start, notes) (end, notes') lines_so in
      let t = so.0 in
      let got = is_took intake event so.7 passes in
      let begun = got.0 in
      let tail = took begun ∷ [] in
      let events_are : events ≡ taken ++ (events_of t ++ tail) = is ∙ ap (λ (es : List Event). es ++ event ∷ []) before_is ∙ append_assoc taken more (event ∷ []) ∙ ap (λ (es : List Event). taken ++ (es ++ event ∷ [])) so.4 ∙ ap (λ (e : Event). taken ++ (events_of t ++ e ∷ [])) got.1 in
      let two = happened-split taken (events_of t ++ tail) a mid (subst (λ (es : List Event). Happened es a mid) events_are happened) in
      let b0 = two.0 in
      let said : told_in events ≡ output_of t = ap told_in events_are ∙ told-append taken (events_of t ++ tail) ∙ ap (λ (xs : List ℕ). xs ++ told_in (events_of t ++ tail)) (sheet_is_quiet text taken sheet) ∙ told_after t tail ∙ append-nil (output_of t) in
      record {
        before = output_of t;
        before_is = said;
        ends = passes_limit record {
          sheet = text;
          rest = b0.input;
          takes = takes_sheet text taken a b0 sheet two.1;
          start = start;
          is = is_sheet;
          end = end;
          answers = record {
            transcript = t;
            legal = so.1;
            whole = so.2;
            count = so.3;
            begun = begun;
            passes = so.6 begun got.2;
            rest = mid.input;
            taken = subst (λ (xs : List ℕ). Consumes b0.input mid.input xs) (taken_after t tail ∙ ap (λ (xs : List ℕ). input_of t ++ xs) (append-nil begun)) (taken_together (events_of t ++ tail) b0 mid two.2);
            ahead = read_ahead;
            text_is = refl;
          };
        };
        prints = λ sink sink' w. w;
      }
  last_line notes' line status events a mid b (without_memory line2 (needs_room none)) happened read_ahead alone =
      lacks_room notes' (told_in events) a b (ap told_in none) refl (alone none ∙ ap (λ (o : Outside). o.input) (subst (λ (es : List Event). Happened es a mid) none happened))
  last_line notes' line status events a mid b (without_memory line2 (from_input (keeps_sheet text front small is))) happened read_ahead alone =
      wants_memory notes' (told_in events) a b (ap told_in is) refl record {
        text = text;
        front = front;
        small = small;
        rest = mid.input;
        taken = subst (λ (xs : List ℕ). Consumes a.input mid.input xs) (ap taken_in is ∙ append-nil text) (taken_together events a mid happened);
        ahead = read_ahead;
      }
  last_line notes' line status events a mid b (without_memory line2 (from_input (has_sheet text taken more sheet (needs_memory more_is) events_are))) happened read_ahead alone =
      let is : events ≡ taken = events_are ∙ ap (λ (es : List Event). taken ++ es) more_is ∙ append-nil taken in
      let takes = takes_sheet text taken a mid sheet (subst (λ (es : List Event). Happened es a mid) is happened) in
      wants_memory notes' (told_in events) a b (ap told_in is ∙ sheet_is_quiet text taken sheet) refl record { text = text; front = front_of text taken sheet; small = sheet.small; rest = mid.input; taken = takes.taken; ahead = read_ahead }
  last_line notes' line status events a mid b (on_course (from_input (has_sheet text taken more sheet (answers start end is_sheet lines_so) events_are))) happened read_ahead alone = elim lines_so [ ]
  last_line notes' line status events a mid b (without_memory line2 (from_input (has_sheet text taken more sheet (answers start end is_sheet lines_so) events_are))) happened read_ahead alone = elim lines_so [ ]

  -- ---- where a write failed at an answer

  at_line : (notes' : N) (piece : List ℕ) (count : ℕ) (events : List Event) (a mid b : Outside) → Comes (Replay IsSheet Refuses Allows notes) events (tells piece) notes' → Happened events a mid → IsReadAhead mid.input b.input → Appends a.output b.output (told_in events ++ take count piece)
      → Says notes' WriteFault a b
  at_line notes' piece count events a mid b (on_course (from_input (has_sheet text taken more sheet (answers start end is_sheet (has_answer t state line line_taken answer legal whole few is_line allowed more_is)) events_are))) happened read_ahead written =
      let two = happened-split taken more a mid (subst (λ (es : List Event). Happened es a mid) events_are happened) in
      let b0 = two.0 in
      let last = happened-split (events_of t) line_taken b0 mid (subst (λ (es : List Event). Happened es b0 mid) more_is two.2) in
      let of_line = line_of line line_taken last.0 mid is_line last.2 in
      let said : told_in events ≡ output_of t = ap told_in events_are ∙ told-append taken more ∙ ap (λ (xs : List ℕ). xs ++ told_in more) (sheet_is_quiet text taken sheet) ∙ ap told_in more_is ∙ told_after t line_taken ∙ ap (λ (xs : List ℕ). output_of t ++ xs) of_line.1 ∙ append-nil (output_of t) in
      record {
        text = printed (output_of t) (answer_text answer);
        course = cut_at_answer record {
          sheet = text;
          rest = b0.input;
          takes = takes_sheet text taken a b0 sheet two.1;
          start = start;
          is = is_sheet;
          end = end;
          answers = record {
            transcript = t;
            state = state;
            legal = legal;
            whole = whole;
            count = few;
            line = line;
            rest = mid.input;
            complete = of_line.0;
            answer = answer;
            allowed = allowed;
            taken = subst (λ (xs : List ℕ). Consumes b0.input mid.input xs) (ap taken_in more_is ∙ taken_after t line_taken ∙ ap (λ (xs : List ℕ). input_of t ++ xs) of_line.2) (taken_together more b0 mid two.2);
            ahead = read_ahead;
            text_is = refl;
          };
        };
        written = record { count = count; written = subst (λ (xs : List ℕ). Appends a.output b.output (xs ++ take count (answer_text answer))) said written };
      }

  -- ---- the whole

  at_write_fault : (notes' : N) (stage : Stage) (piece : List ℕ) (count : ℕ) (events : List Event) (a mid b : Outside) → Tells piece stage → Comes (Replay IsSheet Refuses Allows notes) events stage notes' → Happened events a mid → IsReadAhead mid.input b.input → (events ≡ [] → b.input ≡ mid.input)
      → Appends a.output b.output (told_in events ++ take count piece) → Says notes' WriteFault a b
  at_write_fault notes' stage piece count events a mid b goes_on comes happened read_ahead alone written = at_line notes' piece count events a mid b comes happened read_ahead written
  at_write_fault notes' stage piece count events a mid b (ends_so status) comes happened read_ahead alone written =
      let last = last_line notes' piece status events a mid b comes happened read_ahead alone in
      record {
        text = printed last.before piece;
        course = cut_at_end status last.ends;
        written = record { count = count; written = subst (λ (xs : List ℕ). Appends a.output b.output (xs ++ take count piece)) last.before_is written };
      }

pub told_alone : (line : List ℕ) → HasTook (told line ∷ []) → ⊥
told_alone line some = elim some [
  | inl w ↦ w
  | inr w ↦ w
]

pub cut_alone : (part : List ℕ) → HasTook (told part ∷ output_failed ∷ []) → ⊥
cut_alone part some = elim some [
  | inl w ↦ w
  | inr w ↦ elim w [
    | inl v ↦ v
    | inr v ↦ v
  ]
]

by_run : {S N : Type 0} (IsSheet : List ℕ → S → Type 0) (Refuses : List ℕ → SheetRefusal → List ℕ → N → N → Type 0) (Allows : S × N → List ℕ → Answer → S × N → Type 0) (notes notes' : N) (status : Status) (a mid b : Outside) (events spare : List Event) → Run (Replay IsSheet Refuses Allows notes) events status notes'
    → Happened events a mid → IsSpare CHUNK events spare → Happened spare mid b → Replayed IsSheet Refuses Allows status (moment a notes) (moment b notes')
by_run IsSheet Refuses Allows notes notes' status a mid b events spare (ended (on_course course)) happened is_spare rest = at_course_end IsSheet Refuses Allows notes notes' status events spare a b course mid happened is_spare rest
by_run IsSheet Refuses Allows notes notes' status a mid b events spare (ended_with before line comes is) happened is_spare rest =
    let read = spare_of events spare mid b is_spare rest in
    let two = happened-split before (told line ∷ []) a mid (subst (λ (es : List Event). Happened es a mid) is happened) in
    let m = two.0 in
    let input_is : mid.input ≡ m.input = ap (λ (o : Outside). o.input) two.2.2 ∙ ap (λ (o : Outside). o.input) two.2.1.0 in
    let alone : before ≡ [] → b.input ≡ m.input = λ none. ap (λ (o : Outside). o.input) (no_spare events spare mid b (λ some last. (told_alone line (subst HasTook (is ∙ ap (λ (es : List Event). es ++ told line ∷ []) none) some))) is_spare rest) ∙ input_is in
    let written : Appends a.output b.output (told_in before ++ line) = subst (λ (x : Option (List ℕ)). Appends a.output x (told_in before ++ line)) (sym read.quiet) (subst (λ (xs : List ℕ). Appends a.output mid.output xs) (ap told_in is ∙ told-append before (told line ∷ []) ∙ ap (λ (xs : List ℕ). told_in before ++ xs) (append-nil line)) (told_together events a mid happened)) in
    let last = last_line IsSheet Refuses Allows notes notes' line status before a m b comes two.1 (subst (λ (x : Option (List ℕ)). IsReadAhead x b.input) input_is read.ahead) alone in
    record { text = printed last.before line; course = stops status last.ends; written = last.prints a.output b.output (subst (λ (xs : List ℕ). Appends a.output b.output (xs ++ line)) last.before_is written) }
by_run IsSheet Refuses Allows notes notes' status a mid b events spare (read_failed before intake begun course can is) happened is_spare rest =
    let same = no_spare events spare mid b (λ some last. subst IsOutput (ap (last_or (took [])) is ∙ last_or-append (took []) before (took begun ∷ input_failed ∷ [])) last) is_spare rest in
    at_read_fault IsSheet Refuses Allows notes notes' before intake begun events a b course can is (subst (λ (o : Outside). Happened events a o) (sym same) happened)
by_run IsSheet Refuses Allows notes notes' status a mid b events spare (read_failed_at_file before name course is) happened is_spare rest = absurd (no_file IsSheet Refuses Allows notes notes' before name course)
by_run IsSheet Refuses Allows notes notes' status a mid b events spare (write_failed before stage piece count comes tell is) happened is_spare rest =
    let read = spare_of events spare mid b is_spare rest in
    let tail = told (take count piece) ∷ output_failed ∷ [] in
    let two = happened-split before tail a mid (subst (λ (es : List Event). Happened es a mid) is happened) in
    let m = two.0 in
    let input_is : mid.input ≡ m.input = ap (λ (o : Outside). o.input) two.2.2.2 ∙ ap (λ (o : Outside). o.input) two.2.2.1.0 ∙ ap (λ (o : Outside). o.input) two.2.1.0 in
    let alone : before ≡ [] → b.input ≡ m.input = λ none. ap (λ (o : Outside). o.input) (no_spare events spare mid b (λ some last. (cut_alone (take count piece) (subst HasTook (is ∙ ap (λ (es : List Event). es ++ tail) none) some))) is_spare rest) ∙ input_is in
    let written : Appends a.output b.output (told_in before ++ take count piece) = subst (λ (x : Option (List ℕ)). Appends a.output x (told_in before ++ take count piece)) (sym read.quiet) (subst (λ (xs : List ℕ). Appends a.output mid.output xs) (ap told_in is ∙ told-append before tail ∙ ap (λ (xs : List ℕ). told_in before ++ xs) (append-nil (take count piece))) (told_together events a mid happened)) in
    at_write_fault IsSheet Refuses Allows notes notes' stage piece count before a m b tell comes two.1 (subst (λ (x : Option (List ℕ)). IsReadAhead x b.input) input_is read.ahead) alone written

pub replayed : {S N : Type 0} (IsSheet : List ℕ → S → Type 0) (Refuses : List ℕ → SheetRefusal → List ℕ → N → N → Type 0) (Allows : S × N → List ℕ → Answer → S × N → Type 0) (notes notes' : N) (status : Status) (a b : Outside) → Ran (Replay IsSheet Refuses Allows notes) CHUNK status notes' a b
    → Replayed IsSheet Refuses Allows status (moment a notes) (moment b notes')
replayed IsSheet Refuses Allows notes notes' status a b ran =
    let two = happened-split ran.events ran.spare a b ran.happened in
    by_run IsSheet Refuses Allows notes notes' status a two.0 b ran.events ran.spare ran.run two.1 ran.is_spare two.2
