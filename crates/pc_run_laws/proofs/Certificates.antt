-- Runs that refuse a certificate.
use Rattle.std.proofs.Common.{◌≡◌, ◌≢◌, ◌≤◌, ℕ, List, [], ◌∷◌, ◌++◌, length, refl, sym, ◌∙◌, ap, subst, arith}
use Rattle.std.specs.Io.KnownBytes.{Consumes}
use Rattle.std.proofs.KnownBytes.{Consumes-nil}
use Rattle.pc_sheet.specs.Sheet.{Sheet}
use Rattle.pc_sortcheck.specs.Declaring.{ReadsAs}
use Rattle.pc_cert.specs.declared.TheConstants.{CERT_LIMIT}
use Rattle.pc_words.specs.Words.{Mode, replays, edits, checks, merges, posts, demonstrates, Request, FitsWords}
use Rattle.pc_lines.specs.declared.TheConstants.{SHEET_LIMIT}
use Rattle.pc_refusals.specs.declared.status.Status.{Status}
use Rattle.pc_refusals.specs.declared.status.Status.TheVariants.{CertRefused}
use Rattle.pc_refusals.specs.Events.{Outside, Event, took_rest, gave, told, Happened}
use Rattle.pc_refusals.specs.Stages.{Stage, takes, needs, tells, ends_with, ends}
use Rattle.pc_refusals.specs.Runs.{IsSpare, nothing, ahead, Comes, on_course, past_limit, without_memory, Run, ended, ended_with, read_failed, read_failed_at_file, write_failed}
use Rattle.pc_judge.specs.declared.told.Told.{Told}
use Rattle.pc_judge.specs.Judged.{IsJudged, judged_text, status_of_told}
use Rattle.pc_judge.specs.Course as check
use Rattle.pc_judge.specs.Course.{Check}
use Rattle.pc_spreadsheet.specs.Tasks.{Starts}
use Rattle.pc_spreadsheet.specs.Allowed.{Notes, Allows, RefusesText}
use Rattle.pc_replay.specs.Course.{CourseIn, Course, without_fit, needs_memory, as_asked, most_ahead}
use Rattle.pc_run_laws.specs.ByStatus.{CertificatesAreRefused}
use Rattle.pc_run_laws.proofs.Ends.{EndsIn, HasCommon, replay_in, edit_in, merge_in, posts_in, demo_in}

-- ---- the courses

-- a check that comes to a refusal of the certificate, with this line
record Refuses (mode : Mode) (notes notes' : Notes) (events : List Event) (line : List ℕ) : Type 0 where
  file : List ℕ
  is_check : mode ≡ checks file
  text : List ℕ
  sheet : Sheet
  small : length text ≤ SHEET_LIMIT
  reads : ReadsAs text sheet
  certificate : List ℕ
  few : length certificate ≤ CERT_LIMIT
  what : Told
  judged : IsJudged sheet certificate what
  refuses : status_of_told what ≡ CertRefused
  events_are : events ≡ gave file text ∷ took_rest certificate ∷ []
  line_is : line ≡ judged_text sheet what
  none_noted : notes' ≡ notes

-- a stage that ends the run so is that of such a check
abbrev At : Mode → Notes → Notes → List Event → Stage → Type 0
At mode notes notes' events (takes intake) = Unit {0}
At mode notes notes' events (needs line) = Unit {0}
At mode notes notes' events (tells piece) = Unit {0}
At mode notes notes' events (ends_with line status) = status ≡ CertRefused → Refuses mode notes notes' events line
At mode notes notes' events (ends status) = status ≢ CertRefused

abbrev IsOther : Status → Type 0
IsOther status = status ≢ CertRefused

common : HasCommon IsOther
common = record { done = λ e. absurd (cc e); some_refused = λ e. absurd (cc e); memory = λ e. absurd (cc e); sheet_refused = λ e. absurd (cc e) }

otherwise : (mode : Mode) (notes notes' : Notes) (events : List Event) (stage : Stage) → EndsIn IsOther stage → At mode notes notes' events stage
otherwise mode notes notes' events (takes intake) h = tt
otherwise mode notes notes' events (needs line) h = tt
otherwise mode notes notes' events (tells piece) h = tt
otherwise mode notes notes' events (ends_with line status) h = λ e. absurd (h e)
otherwise mode notes notes' events (ends status) h = h

check_at : (file : List ℕ) (notes notes' : Notes) (events : List Event) (stage : Stage) → notes' ≡ notes → Check file events stage → At (checks file) notes notes' events stage
check_at file notes notes' events stage same (check.needs_file_memory is) = tt
check_at file notes notes' events stage same (check.awaits_file is) = tt
check_at file notes notes' events stage same (check.needs_sheet_memory text small is) = tt
check_at file notes notes' events stage same (check.is_refused text why small has none is) = λ e. absurd (cc e)
check_at file notes notes' events stage same (check.awaits_certificate text sheet small reads is) = tt
check_at file notes notes' events stage same (check.needs_memory text sheet some small reads few is) = tt
check_at file notes notes' events stage same (check.is_judged text sheet certificate what small reads few judged is) = λ e. record {
  file = file;
  is_check = refl;
  text = text;
  sheet = sheet;
  small = small;
  reads = reads;
  certificate = certificate;
  few = few;
  what = what;
  judged = judged;
  refuses = e;
  events_are = is;
  line_is = refl;
  none_noted = same;
}

mode_at : (mode : Mode) (budget : ℕ) (notes notes' : Notes) (events : List Event) (stage : Stage) → CourseIn mode budget notes events stage notes' → At mode notes notes' events stage
mode_at replays budget notes notes' events stage h = otherwise replays notes notes' events stage (replay_in IsOther common (Starts budget) (RefusesText budget) Allows notes events stage notes' h)
mode_at (edits file) budget notes notes' events stage h = otherwise (edits file) notes notes' events stage (edit_in IsOther common (Starts budget) (RefusesText budget) Allows file notes events stage notes' h)
mode_at (checks file) budget notes notes' events stage h = check_at file notes notes' events stage h.1 h.0
mode_at (merges file) budget notes notes' events stage h = otherwise (merges file) notes notes' events stage (merge_in IsOther common file events stage tt h.0)
mode_at (posts file) budget notes notes' events stage h = otherwise (posts file) notes notes' events stage (posts_in IsOther common (Starts budget) (RefusesText budget) Allows file notes events stage notes' h)
mode_at (demonstrates blocks) budget notes notes' events stage h = otherwise (demonstrates blocks) notes notes' events stage (demo_in IsOther common blocks budget notes events stage notes' h)

-- ---- the run

module _ (words : List (List ℕ)) (notes : Notes) where
  record RefusesAsAsked (notes' : Notes) (events : List Event) (line : List ℕ) : Type 0 where
    request : Request
    fits : FitsWords words request
    so : Refuses request.mode notes notes' events line

  abbrev AskedAt : Notes → List Event → Stage → Type 0
  AskedAt notes' events (takes intake) = Unit {0}
  AskedAt notes' events (needs line) = Unit {0}
  AskedAt notes' events (tells piece) = Unit {0}
  AskedAt notes' events (ends_with line status) = status ≡ CertRefused → RefusesAsAsked notes' events line
  AskedAt notes' events (ends status) = status ≢ CertRefused

  as_these : (request : Request) → FitsWords words request → (notes' : Notes) (events : List Event) (stage : Stage) → At request.mode notes notes' events stage → AskedAt notes' events stage
  as_these request fits notes' events (takes intake) h = tt
  as_these request fits notes' events (needs line) h = tt
  as_these request fits notes' events (tells piece) h = tt
  as_these request fits notes' events (ends_with line status) h = λ e. record { request = request; fits = fits; so = h e }
  as_these request fits notes' events (ends status) h = h

  course_at : (events : List Event) (stage : Stage) (notes' : Notes) → Course words notes events stage notes' → AskedAt notes' events stage
  course_at events stage notes' (without_fit none is) = λ e. absurd (cc e)
  course_at events stage notes' (needs_memory some is) = tt
  course_at events stage notes' (as_asked request fits h) = as_these request fits notes' events stage (mode_at request.mode request.budget notes notes' events stage h)

  comes_at : (events : List Event) (stage : Stage) (notes' : Notes) → Comes (Course words notes) events stage notes' → AskedAt notes' events stage
  comes_at events stage notes' (on_course h) = course_at events stage notes' h
  comes_at events stage notes' (past_limit before intake event h passes is) = λ e. absurd (cc e)
  comes_at events stage notes' (without_memory line h) = λ e. absurd (cc e)

  record RefusedLast (notes' : Notes) (events : List Event) : Type 0 where
    before : List Event
    line : List ℕ
    events_are : events ≡ before ++ told line ∷ []
    so : RefusesAsAsked notes' before line

  run_at : (events : List Event) (status : Status) (notes' : Notes) → Run (Course words notes) events status notes' → status ≡ CertRefused → RefusedLast notes' events
  run_at events status notes' (ended h) e = absurd (comes_at events (ends status) notes' h e)
  run_at events status notes' (ended_with before line h is) e = record { before = before; line = line; events_are = is; so = comes_at before (ends_with line status) notes' h e }
  run_at events status notes' (read_failed before intake begun h can is) e = absurd (cc e)
  run_at events status notes' (read_failed_at_file before name h is) e = absurd (cc e)
  run_at events status notes' (write_failed before stage piece count h telling is) e = absurd (cc e)

-- ---- what happened

split : (xs ys : List Event) (a b : Outside) → Happened (xs ++ ys) a b → (m : Outside) × Happened xs a m × Happened ys m b
split [] ys a b h = (a, refl, h)
split (x ∷ xs) ys a b h = let two = split xs ys h.0 b h.2 in (two.0, (h.0, h.1, two.1), two.2)

-- nothing is read ahead
record NoneAhead (last after : Outside) : Type 0 where
  else_same : after ≡ record last { input = after.input }
  none_ahead : Consumes last.input after.input []

empty : (held : List ℕ) → length held ≤ 0 → held ≡ []
empty [] few = refl
empty (x ∷ xs) few = absurd (omega (arith, few))

none_of : (most : ℕ) (events spare : List Event) (last after : Outside) → most ≤ 0 → IsSpare most events spare → Happened spare last after → NoneAhead last after
none_of most events spare last after zero nothing h = subst (λ (o : Outside). NoneAhead last o) (sym h) (record { else_same = refl; none_ahead = Consumes-nil last.input })
none_of most events spare last after zero (ahead held few telling some) h = subst (λ (o : Outside). NoneAhead last o) (sym h.2) (record {
  else_same = h.1.0;
  none_ahead = subst (λ (bytes : List ℕ). Consumes last.input h.0.input bytes) (empty held (omega (arith, few, zero))) h.1.1;
})

pub certificates : CertificatesAreRefused
certificates words status notes notes' before after runs e =
    let ran = runs.2 in
    let found = run_at words notes ran.events status notes' ran.run e in
    let asked = found.so in
    let is = asked.so in
    let two = split ran.events ran.spare before after ran.happened in
    let zero = subst (λ (mode : Mode). runs.0 ≤ most_ahead mode) is.is_check (runs.1 asked.request asked.fits) in
    let rest = none_of runs.0 ran.events ran.spare two.0 after zero ran.is_spare two.2 in
    let all : ran.events ≡ gave is.file is.text ∷ took_rest is.certificate ∷ told (judged_text is.sheet is.what) ∷ [] =
    found.events_are ∙ ap (λ (es : List Event). es ++ told found.line ∷ []) is.events_are ∙ ap (λ (l : List ℕ). gave is.file is.text ∷ took_rest is.certificate ∷ told l ∷ []) is.line_is in
    record {
      request = asked.request;
      fits = asked.fits;
      file = is.file;
      is_check = is.is_check;
      text = is.text;
      sheet = is.sheet;
      small = is.small;
      reads = is.reads;
      certificate = is.certificate;
      few = is.few;
      what = is.what;
      judged = is.judged;
      refuses = is.refuses;
      last = two.0;
      happened = subst (λ (es : List Event). Happened es before two.0) all two.1;
      else_same = rest.else_same;
      none_ahead = rest.none_ahead;
      none_noted = is.none_noted;
    }
