-- What the courses that answer command lines take in is within its limits.
use Rattle.std.proofs.Common.{◌≡◌, ◌≢◌, ℕ, ◌<◌, ◌≤◌, Bool, true, false, List, [], ◌∷◌, ◌++◌, length, refl, sym, ◌∙◌, ap, subst, arith, inl, inr, All, drop, append_assoc, append-nil, length-append}
use Rattle.std.specs.List.{list_any, AllByRecursion}
use Rattle.std.proofs.lemmas.List.{length_push, append_cancel_left}
use Rattle.std.proofs.lemmas.List.Elements.{All-weaker, recursion_from_All}
use Rattle.pc_lines.specs.Lines.{before_end, IsWholeLine, IsLongStart}
use Rattle.pc_lines.proofs.Ends.{before_end-none, before_end-feed}
use Rattle.pc_lines.specs.declared.TheConstants.{SHEET_LIMIT}
use Rattle.pc_refusals.specs.declared.status.Status.TheVariants.{TooLong}
use Rattle.pc_refusals.specs.declared.refusal.SheetRefusal.{SheetRefusal}
use Rattle.pc_refusals.specs.Events.{Event, took, took_rest, gave}
use Rattle.pc_refusals.specs.Stages.{Intake, sheet_file, Stage, takes, IsLine, PassesLimit}
use Rattle.pc_transcript.specs.declared.TheConstants.{LINE_LIMIT, MAX_LINES}
use Rattle.pc_transcript.specs.Answer.{Answer, is_refused as was_refused, is_no_memory}
use Rattle.pc_transcript.specs.Transcript.{Transcript, lines, worse_of}
use Rattle.pc_transcript.specs.SheetPart.{IsBeginLine, IsEarlier, joined_lines}
use Rattle.pc_transcript.specs.Course.{events_of, IsSheetTaken, AnswersLines, awaits_line, awaits_end, has_answer, has_all, FromSheet, needs_memory, is_refused, answers, awaits_sheet, keeps_sheet, has_sheet, Replay, needs_room, from_input, Edit, awaits_file, has_file}
use Rattle.pc_transcript.specs.Course as course
use Rattle.pc_run_laws.specs.Flat.{taken_of}
use Rattle.pc_run_laws.specs.Answered.{IsLineTooMuch}
use Rattle.pc_run_laws.proofs.BackToStatus.{is_took, awaits}
use Rattle.pc_run_laws.proofs.EditsToStatus.{is_gave}
use Rattle.pc_run_laws.proofs.CourseLimits.{nothing_there, first_is, EndsOtherwise, StaysWithin}

-- ---- command lines

-- of these events of answered lines, and what stands behind them, one that stands behind those of other lines
data Stands (u t : Transcript) (event : Event) (later tail : List Event) : Type 0 where
  at_line : (line : List ℕ) → event ≡ took line → IsLine LINE_LIMIT line → length u < length t → Stands u t event later tail
  behind : length u ≡ length t → event ∷ later ≡ tail → Stands u t event later tail

abbrev IsShort : List Event → Type 0
IsShort [] = Unit {0}
IsShort (x ∷ []) = Unit {0}
IsShort (x ∷ y ∷ more) = ⊥

two_are_not_short : (x y : Event) (more tail : List Event) → IsShort tail → x ∷ y ∷ more ≡ tail → ⊥
two_are_not_short x y more tail short e = subst IsShort (sym e) short

one_more : (p q : List ℕ × Answer) (u t : Transcript) (event : Event) (later tail : List Event) → Stands u t event later tail → Stands (p ∷ u) (q ∷ t) event later tail
one_more p q u t event later tail (at_line line is of_line fewer) = at_line line is of_line (omega (arith, fewer))
one_more p q u t event later tail (behind same is) = behind (omega (arith, same)) is

stands : (u t : Transcript) (event : Event) (later tail : List Event) → AllByRecursion (IsLine LINE_LIMIT) (lines t) → IsShort tail → events_of u ++ event ∷ later ≡ events_of t ++ tail → Stands u t event later tail
stands [] [] event later tail each short e = behind refl e
stands [] (q ∷ t) event later tail each short e = at_line q.0 (cc e) each.0 (omega arith)
stands (p ∷ u) [] event later tail each short e = absurd (two_are_not_short _ _ _ tail short e)
stands (p ∷ u) (q ∷ t) event later tail each short e = one_more p q u t event later tail (stands u t event later tail each.1 short (ap (drop 2) e))

-- the lines that were answered, and what happened behind them
record Answered (events : List Event) : Type 0 where
  t : Transcript
  each : All (IsLine LINE_LIMIT) (lines t)
  few : length t ≤ MAX_LINES
  tail : List Event
  short : IsShort tail
  events_are : events ≡ events_of t ++ tail
  -- where a line is at its end, fewer than there may be were answered before
  further : (line : List ℕ) (more : List Event) → tail ≡ took line ∷ more → IsLine LINE_LIMIT line × (length t < MAX_LINES)

whole_lines : (t : Transcript) → All (IsWholeLine LINE_LIMIT) (lines t) → All (IsLine LINE_LIMIT) (lines t)
whole_lines t each = All-weaker (IsWholeLine LINE_LIMIT) (IsLine LINE_LIMIT) (λ line whole. inl whole) (lines t) each

answered : {S : Type 0} (Allows : S → List ℕ → Answer → S → Type 0) (start : S) (events : List Event) (stage : Stage) (end : S) → AnswersLines Allows start events stage end → Answered events
answered Allows start events stage end (awaits_line t legal whole few is) = record { t = t; each = whole_lines t whole; few = omega (arith, few); tail = []; short = tt; events_are = is ∙ sym (append-nil (events_of t)); further = λ line more e. absurd (cc e) }
answered Allows start events stage end (awaits_end t legal whole full is) = record { t = t; each = whole_lines t whole; few = omega (arith, full); tail = []; short = tt; events_are = is ∙ sym (append-nil (events_of t)); further = λ line more e. absurd (cc e) }
answered Allows start events stage end (has_answer t mid line taken answer legal whole few is_line allowed is) = elim is_line [
  | inl w ↦ record {
    t = t;
    each = whole_lines t whole;
    few = omega (arith, few);
    tail = took line ∷ [];
    short = tt;
    events_are = is ∙ ap (λ (es : List Event). events_of t ++ es) w.1;
    further = λ other more e. (subst (λ (l : List ℕ). IsLine LINE_LIMIT l) (ap taken_of (first_is (took line) (took other) [] more e)) (inl w.0), few);
  }
  | inr w ↦ record { t = t; each = whole_lines t whole; few = omega (arith, few); tail = took_rest line ∷ []; short = tt; events_are = is ∙ ap (λ (es : List Event). events_of t ++ es) w.2; further = λ other more e. absurd (cc e) }
]
answered Allows start events stage end (has_all t legal each all count is) = record { t = t; each = each; few = count; tail = took_rest [] ∷ []; short = tt; events_are = is; further = λ line more e. absurd (cc e) }

-- a line within the limit is no start of a longer one
not_long : (line : List ℕ) → IsLine LINE_LIMIT line → IsLongStart LINE_LIMIT line → ⊥
not_long line is long = elim is [
  | inl whole ↦ let same = before_end-none line long.no_end in omega (arith, ap length same, ap length whole.ends, length_push (before_end line) 10)
  | inr last ↦ omega (arith, last.0.short, long.long)
]

no_line_too_much : (events earlier later : List Event) (begun : List ℕ) (u : Transcript) → Answered events → earlier ≡ events_of u → IsLineTooMuch (length u) begun → events ≡ earlier ++ took begun ∷ later → ⊥
no_line_too_much events earlier later begun u so is much e =
    no_way (stands u so.t (took begun) later so.tail (recursion_from_All (IsLine LINE_LIMIT) (lines so.t) so.each) so.short (ap (λ (es : List Event). es ++ took begun ∷ later) (sym is) ∙ sym e ∙ so.events_are))
  where
    no_way : Stands u so.t (took begun) later so.tail → ⊥
    no_way (at_line line same of_line fewer) = elim much [
      | inl long ↦ not_long begun (subst (λ (l : List ℕ). IsLine LINE_LIMIT l) (ap taken_of (sym same)) of_line) long
      | inr full ↦ omega (arith, fewer, full.0, so.few)
    ]
    no_way (behind same tail_is) = elim much [
      | inl long ↦ not_long begun (so.further begun later (sym tail_is)).0 long
      | inr full ↦ omega (arith, same, full.0, (so.further begun later (sym tail_is)).1)
    ]

lines_within : {S N : Type 0} (IsSheet : List ℕ → S → Type 0) (Refuses : List ℕ → SheetRefusal → List ℕ → N → N → Type 0) (Allows : S × N → List ℕ → Answer → S × N → Type 0) (notes notes' : N) (events earlier later : List Event) (event : Event) (intake : Intake) (stage : Stage) (start start' : S) (end end' : S × N)
    → AnswersLines Allows (start, notes) events stage end → AnswersLines Allows (start', notes') earlier (takes intake) end' → events ≡ earlier ++ event ∷ later → PassesLimit intake event → ⊥
lines_within IsSheet Refuses Allows notes notes' events earlier later event intake stage start start' end end' so late e passes =
    let got = awaits IsSheet Refuses Allows notes' intake earlier (start', notes') end' late in
    let what = is_took intake event got.7 passes in
    no_line_too_much events earlier later what.0 got.0 (answered Allows (start, notes) events stage end so) got.4 (got.6 what.0 what.2) (e ∙ ap (λ (x : Event). earlier ++ x ∷ later) what.1)

-- ---- the sheet's part

-- whole lines that aren't `begin` don't have a whole line at their end that is
same_line : (line other rest rest' : List ℕ) → IsWholeLine SHEET_LIMIT line → IsWholeLine SHEET_LIMIT other → line ++ rest ≡ other ++ rest' → (line ≡ other) × (rest ≡ rest')
same_line line other rest rest' whole also e =
    let before : before_end line ≡ before_end other = sym (first_end line rest whole) ∙ ap before_end e ∙ first_end other rest' also in
    let same : line ≡ other = whole.ends ∙ ap (λ (l : List ℕ). l ++ 10 ∷ []) before ∙ sym also.ends in
    (same, append_cancel_left line rest rest' (e ∙ ap (λ (l : List ℕ). l ++ rest') (sym same)))
  where
    first_end : (line rest : List ℕ) → IsWholeLine SHEET_LIMIT line → before_end (line ++ rest) ≡ before_end line
    first_end line rest whole = ap (λ (l : List ℕ). before_end (l ++ rest)) whole.ends ∙ before_end-feed (before_end line) rest whole.no_end

no_empty_line : (line rest : List ℕ) → IsWholeLine SHEET_LIMIT line → line ++ rest ≡ [] → ⊥
no_empty_line line rest whole e = omega (arith, ap length e, length-append line rest, ap length whole.ends, length_push (before_end line) 10)

no_begin : (before others : List (List ℕ)) (last : List ℕ) → AllByRecursion IsEarlier before → AllByRecursion IsEarlier others → IsWholeLine SHEET_LIMIT last → IsBeginLine last → joined_lines before ++ last ≡ joined_lines others → ⊥
no_begin [] [] last first second whole begin e = no_empty_line last [] whole (append-nil last ∙ e)
no_begin [] (l ∷ others) last first second whole begin e =
    let same = same_line last l [] (joined_lines others) whole second.0.whole (append-nil last ∙ e) in
    second.0.other (subst IsBeginLine same.0 begin)
no_begin (l ∷ before) [] last first second whole begin e = no_empty_line l (joined_lines before ++ last) first.0.whole (sym (append_assoc l (joined_lines before) last) ∙ e)
no_begin (l ∷ before) (m ∷ others) last first second whole begin e =
    let same = same_line l m (joined_lines before ++ last) (joined_lines others) first.0.whole second.0.whole (sym (append_assoc l (joined_lines before) last) ∙ e) in
    no_begin before others last first.1 second.1 whole begin same.1

-- the sheet's part was taken by one event, which is of no such lines alone
record IsOneTaking (text : List ℕ) (taken : List Event) : Type 0 where
  event : Event
  taken_is : taken ≡ event ∷ []
  other : (others : List (List ℕ)) → All IsEarlier others → event ≡ took (joined_lines others) → ⊥

one_taking : (text : List ℕ) (taken : List Event) → IsSheetTaken text taken → IsOneTaking text taken
one_taking text taken is = elim is.ends [
  | inl w ↦ record {
    event = took text;
    taken_is = w.2;
    other = λ others each e. no_begin is.earlier others is.last (recursion_from_All IsEarlier is.earlier is.others) (recursion_from_All IsEarlier others each) w.0 w.1 (sym is.is ∙ ap taken_of e);
  }
  | inr w ↦ record { event = took_rest text; taken_is = w.1; other = λ others each e. absurd (cc e) }
]

-- ---- a file

abbrev text_given : Event → List ℕ
text_given (gave name text) = text
text_given event = []

-- a file that was given within the limit isn't too long
pub not_too_long : (file text : List ℕ) (event : Event) → length text ≤ SHEET_LIMIT → gave file text ≡ event → PassesLimit (sheet_file file) event → ⊥
not_too_long file text event small is passes =
    let got = is_gave file event passes in
    let same : text ≡ got.0 = ap text_given (is ∙ got.1) in
    omega (arith, small, ap length same, got.2)

-- ---- the two modes

pub worse_otherwise : (no_memory refused : Bool) → worse_of no_memory refused ≢ TooLong
worse_otherwise true refused e = cc e
worse_otherwise false true e = cc e
worse_otherwise false false e = cc e

pub answers_otherwise : {S : Type 0} (Allows : S → List ℕ → Answer → S → Type 0) (start : S) (events : List Event) (stage : Stage) (end : S) → AnswersLines Allows start events stage end → EndsOtherwise stage
answers_otherwise Allows start events stage end (awaits_line t legal whole few is) = tt
answers_otherwise Allows start events stage end (awaits_end t legal whole full is) = tt
answers_otherwise Allows start events stage end (has_answer t mid line taken answer legal whole few is_line allowed is) = tt
answers_otherwise Allows start events stage end (has_all t legal each all count is) = worse_otherwise (list_any (λ pair. is_no_memory pair.1) t) (list_any (λ pair. was_refused pair.1) t)

module _ {S N : Type 0} (IsSheet : List ℕ → S → Type 0) (Refuses : List ℕ → SheetRefusal → List ℕ → N → N → Type 0) (Allows : S × N → List ℕ → Answer → S × N → Type 0) where
  sheet_within : (text text' : List ℕ) (notes notes' : N) (events earlier later : List Event) (event : Event) (intake : Intake) (stage : Stage) (n m : N)
      → FromSheet IsSheet Refuses Allows text notes events stage n → FromSheet IsSheet Refuses Allows text' notes' earlier (takes intake) m → events ≡ earlier ++ event ∷ later → PassesLimit intake event → ⊥
  sheet_within text text' notes notes' events earlier later event intake stage n m (needs_memory is) late e passes = nothing_there earlier later event (sym is ∙ e)
  sheet_within text text' notes notes' events earlier later event intake stage n m (is_refused why more has is) late e passes = nothing_there earlier later event (sym is ∙ e)
  sheet_within text text' notes notes' events earlier later event intake stage n m (answers start end is so) (answers start' end' is' late) e passes =
      lines_within IsSheet Refuses Allows notes notes' events earlier later event intake stage start start' (end, n) (end', m) so late e passes

  sheet_otherwise : (text : List ℕ) (notes : N) (events : List Event) (stage : Stage) (n : N) → FromSheet IsSheet Refuses Allows text notes events stage n → EndsOtherwise stage
  sheet_otherwise text notes events stage n (needs_memory is) = tt
  sheet_otherwise text notes events stage n (is_refused why more has is) = λ e. absurd (cc e)
  sheet_otherwise text notes events stage n (answers start end is so) = answers_otherwise Allows (start, notes) events stage (end, n) so

  -- where something is to be taken in there was one event at least
  takes_late : (notes : N) (earlier : List Event) (intake : Intake) (m : N) → Replay IsSheet Refuses Allows notes earlier (takes intake) m → (first : Event) × (rest : List Event) × (earlier ≡ first ∷ rest)
  takes_late notes earlier intake m (from_input (awaits_sheet others each small is)) = (took (joined_lines others), [], is)
  takes_late notes earlier intake m (from_input (has_sheet text taken more sheet so is)) =
      let one = one_taking text taken sheet in
      (one.event, more, is ∙ ap (λ (es : List Event). es ++ more) one.taken_is)

  one_alone : (notes : N) (x : Event) (earlier later : List Event) (event : Event) (intake : Intake) (m : N) → Replay IsSheet Refuses Allows notes earlier (takes intake) m → x ∷ [] ≡ earlier ++ event ∷ later → ⊥
  one_alone notes x earlier later event intake m late e =
      let first = takes_late notes earlier intake m late in
      nothing_there first.1 later event (ap (drop 1) (e ∙ ap (λ (es : List Event). es ++ event ∷ later) first.2))

  from_within : (text : List ℕ) (taken more : List Event) (notes : N) (events earlier later : List Event) (event : Event) (intake : Intake) (stage : Stage) (n m : N) → IsSheetTaken text taken → FromSheet IsSheet Refuses Allows text notes more stage n → events ≡ taken ++ more
      → Replay IsSheet Refuses Allows notes earlier (takes intake) m → events ≡ earlier ++ event ∷ later → PassesLimit intake event → ⊥
  from_within text taken more notes events earlier later event intake stage n m sheet so is (from_input (awaits_sheet others each small late_is)) e passes =
      let one = one_taking text taken sheet in
      let both : one.event ∷ more ≡ took (joined_lines others) ∷ event ∷ later = ap (λ (es : List Event). es ++ more) (sym one.taken_is) ∙ sym is ∙ e ∙ ap (λ (es : List Event). es ++ event ∷ later) late_is in
      one.other others each (first_is one.event (took (joined_lines others)) more (event ∷ later) both)
  from_within text taken more notes events earlier later event intake stage n m sheet so is (from_input (has_sheet text' taken' more' sheet' late late_is)) e passes =
      let one = one_taking text taken sheet in
      let also = one_taking text' taken' sheet' in
      let both : one.event ∷ more ≡ also.event ∷ (more' ++ event ∷ later) =
      ap (λ (es : List Event). es ++ more) (sym one.taken_is) ∙ sym is ∙ e ∙ ap (λ (es : List Event). es ++ event ∷ later) late_is ∙ ap (λ (es : List Event). (es ++ more') ++ event ∷ later) also.taken_is in
      sheet_within text text' notes notes more more' later event intake stage n m so late (ap (drop 1) both) passes

  replay_within : (notes : N) (events earlier later : List Event) (event : Event) (intake : Intake) (stage : Stage) (n m : N) → Replay IsSheet Refuses Allows notes events stage n → Replay IsSheet Refuses Allows notes earlier (takes intake) m → events ≡ earlier ++ event ∷ later → PassesLimit intake event → ⊥
  replay_within notes events earlier later event intake stage n m (needs_room is) late e passes = nothing_there earlier later event (sym is ∙ e)
  replay_within notes events earlier later event intake stage n m (from_input (awaits_sheet others each small is)) late e passes = one_alone notes _ earlier later event intake m late (sym is ∙ e)
  replay_within notes events earlier later event intake stage n m (from_input (keeps_sheet text front small is)) late e passes = one_alone notes _ earlier later event intake m late (sym is ∙ e)
  replay_within notes events earlier later event intake stage n m (from_input (has_sheet text taken more sheet so is)) late e passes = from_within text taken more notes events earlier later event intake stage n m sheet so is late e passes

  replay_otherwise : (notes : N) (events : List Event) (stage : Stage) (n : N) → Replay IsSheet Refuses Allows notes events stage n → EndsOtherwise stage
  replay_otherwise notes events stage n (needs_room is) = tt
  replay_otherwise notes events stage n (from_input (awaits_sheet others each small is)) = tt
  replay_otherwise notes events stage n (from_input (keeps_sheet text front small is)) = tt
  replay_otherwise notes events stage n (from_input (has_sheet text taken more sheet so is)) = sheet_otherwise text notes more stage n so

  pub replay_stays : (notes : N) → StaysWithin (Replay IsSheet Refuses Allows notes)
  replay_stays notes = record { within = replay_within notes; otherwise = replay_otherwise notes }

  -- ---- on a file's sheet

  edit_within : (file : List ℕ) (notes : N) (events earlier later : List Event) (event : Event) (intake : Intake) (stage : Stage) (n m : N) → Edit IsSheet Refuses Allows file notes events stage n → Edit IsSheet Refuses Allows file notes earlier (takes intake) m → events ≡ earlier ++ event ∷ later → PassesLimit intake event → ⊥
  edit_within file notes events earlier later event intake stage n m (course.needs_memory is) late e passes = nothing_there earlier later event (sym is ∙ e)
  edit_within file notes events earlier later event intake stage n m (awaits_file is) late e passes = nothing_there earlier later event (sym is ∙ e)
  edit_within file notes events earlier later event intake stage n m (has_file text more small so is) (awaits_file late_is) e passes =
      not_too_long file text event small (first_is (gave file text) event more later (sym is ∙ e ∙ ap (λ (es : List Event). es ++ event ∷ later) late_is)) passes
  edit_within file notes events earlier later event intake stage n m (has_file text more small so is) (has_file text' more' small' late late_is) e passes =
      sheet_within text text' notes notes more more' later event intake stage n m so late (ap (drop 1) (sym is ∙ e ∙ ap (λ (es : List Event). es ++ event ∷ later) late_is)) passes

  edit_otherwise : (file : List ℕ) (notes : N) (events : List Event) (stage : Stage) (n : N) → Edit IsSheet Refuses Allows file notes events stage n → EndsOtherwise stage
  edit_otherwise file notes events stage n (course.needs_memory is) = tt
  edit_otherwise file notes events stage n (awaits_file is) = tt
  edit_otherwise file notes events stage n (has_file text more small so is) = sheet_otherwise text notes more stage n so

  pub edit_stays : (file : List ℕ) (notes : N) → StaysWithin (Edit IsSheet Refuses Allows file notes)
  edit_stays file notes = record { within = edit_within file notes; otherwise = edit_otherwise file notes }
