-- How a check ends where the file and the input are told.
use Rattle.std.proofs.Common.{◌≡◌, ◌≢◌, ℕ, ◌≤◌, List, [], ◌∷◌, ◌++◌, length, refl, sym, ◌∙◌, ap, subst, append-nil, Option, Some, None, IfSome, arith}
use Rattle.std.specs.Io.KnownBytes.{Consumes, IsAtEnd}
use Rattle.std.proofs.lemmas.List.{length-append}
use Rattle.pc_port.specs.Shelf.{Files, file_named}
use Rattle.pc_sheet.specs.Sheet.{Sheet}
use Rattle.pc_sortcheck.specs.Declaring.{ReadsAs}
use Rattle.pc_words.specs.Words.{checks, Request, FitsWords}
use Rattle.pc_words.specs.Laws.{WordsFitOneRequest}
use Rattle.pc_cert.specs.declared.TheConstants.{CERT_LIMIT}
use Rattle.pc_refusals.specs.declared.status.Status.{Status}
use Rattle.pc_refusals.specs.declared.status.Status.TheVariants.{ReadFault, WriteFault, Memory}
use Rattle.pc_refusals.specs.Events.{Outside, Event, took, gave, told, Does, Happened}
use Rattle.pc_refusals.specs.Stages.{Intake, Stage, takes, ends_with, ends, PassesLimit}
use Rattle.pc_refusals.specs.Runs.{Comes, on_course, past_limit, without_memory, Run, ended, ended_with, read_failed, read_failed_at_file, write_failed}
use Rattle.pc_run_laws.proofs.FlatLemmas.{happened-split}
use Rattle.pc_run_laws.proofs.EditsToStatus.{is_gave}
use Rattle.pc_judge.specs.declared.told.Told.{Told}
use Rattle.pc_judge.specs.Judged.{IsJudged, status_of_told}
use Rattle.pc_judge.specs.Course as check
use Rattle.pc_judge.specs.Course.{Check}
use Rattle.pc_spreadsheet.specs.Allowed.{Notes}
use Rattle.pc_replay.specs.Course.{CourseIn, Course, without_fit, as_asked}
use Rattle.pc_run_laws.specs.Checks.{IsCheckOf, ChecksEndAsJudged}
use Rattle.pc_run_laws.proofs.Checking.{is_rest}

-- a text reads as one sheet
abbrev pub OneSheet : Type 0
OneSheet = (text : List ℕ) (x y : Sheet) → ReadsAs text x → ReadsAs text y → x ≡ y

-- of a certificate one thing is told, in a sheet that a text reads as
abbrev pub OneTold : Type 0
OneTold = (text : List ℕ) (sheet : Sheet) → ReadsAs text sheet → (certificate : List ℕ) (s t : Told) → IsJudged sheet certificate s → IsJudged sheet certificate t → s ≡ t

all_taken : (l m : Option (List ℕ)) (bytes all : List ℕ) → l ≡ Some all → Consumes l m bytes → IsAtEnd m → bytes ≡ all
all_taken None m bytes all is taken end = absurd (cc is)
all_taken (Some xs) None bytes all is taken end = absurd taken
all_taken (Some xs) (Some ys) bytes all is taken end = sym (append-nil bytes) ∙ ap (λ (zs : List ℕ). bytes ++ zs) (sym end) ∙ sym taken ∙ cc is

no_more_taken : (l m : Option (List ℕ)) (bytes all : List ℕ) → l ≡ Some all → Consumes l m bytes → length bytes ≤ length all
no_more_taken None m bytes all is taken = absurd (cc is)
no_more_taken (Some xs) None bytes all is taken = absurd taken
no_more_taken (Some xs) (Some ys) bytes all is taken =
    let same : xs ≡ all = cc is in
    omega (arith, length-append bytes ys, ap length taken, ap length same)

module _ (one_request : WordsFitOneRequest) (one_sheet : OneSheet) (one_told : OneTold) (words : List (List ℕ)) (file text certificate : List ℕ) (what : Told) (a : Outside) (so : IsCheckOf words file text certificate what a) (notes : Notes) where
  same_file : (other : List ℕ) (x : Outside) → Does (gave file other) a x → other ≡ text
  same_file other x does =
      let found : file_named file so.files ≡ Some other = subst (λ (k : Option Files). IfSome k (λ files. file_named file files ≡ Some other)) so.kept does.1 in
      let both : Some other ≡ Some text = sym found ∙ so.named in
      cc both

  left_at : (other : List ℕ) (x : Outside) → Does (gave file other) a x → x.input ≡ Some certificate
  left_at other x does = ap (λ (o : Outside). o.input) does.0 ∙ so.left

  of_check : (events : List Event) (stage : Stage) (notes' : Notes) (request : Request) → FitsWords words request → CourseIn request.mode request.budget notes events stage notes' → Check file events stage
  of_check events stage notes' request fits h =
      (subst (λ (r : Request). CourseIn r.mode r.budget notes events stage notes') (one_request words request (record { mode = checks file; budget = so.budget }) fits so.fits) h).0

  by_check : (events : List Event) (line : List ℕ) (status : Status) (mid : Outside) → Check file events (ends_with line status) → Happened events a mid → status ≡ status_of_told what
  by_check events line status mid (check.is_refused other why small has none is) happened =
      let h = subst (λ (es : List Event). Happened es a mid) is happened in
      absurd (none so.sheet (subst (λ (t : List ℕ). ReadsAs t so.sheet) (sym (same_file other h.0 h.1)) so.reads))
  by_check events line status mid (check.is_judged other sheet taken found small reads few judged is) happened =
      let h = subst (λ (es : List Event). Happened es a mid) is happened in
      let sheet_is : sheet ≡ so.sheet = one_sheet text sheet so.sheet (subst (λ (t : List ℕ). ReadsAs t sheet) (same_file other h.0 h.1) reads) so.reads in
      let all : taken ≡ certificate = all_taken h.0.input h.2.0.input taken certificate (left_at other h.0 h.1) h.2.1.1 h.2.1.2 in
      let here : IsJudged so.sheet certificate found = subst (λ (c : List ℕ). IsJudged so.sheet c found) all (subst (λ (s : Sheet). IsJudged s taken found) sheet_is judged) in
      ap status_of_told (one_told text so.sheet so.reads certificate found what here so.judged)

  by_course : (events : List Event) (line : List ℕ) (status : Status) (notes' : Notes) (mid : Outside) → Course words notes events (ends_with line status) notes' → Happened events a mid → status ≡ status_of_told what
  by_course events line status notes' mid (without_fit none is) happened = absurd (none (record { mode = checks file; budget = so.budget }) so.fits)
  by_course events line status notes' mid (as_asked request fits h) happened = by_check events line status mid (of_check events (ends_with line status) notes' request fits h) happened

  passes_none : (before : List Event) (intake : Intake) (event : Event) (events : List Event) (mid : Outside) → Check file before (takes intake) → PassesLimit intake event → events ≡ before ++ event ∷ [] → Happened events a mid → ⊥
  passes_none before intake event events mid (check.awaits_file none) passes is happened =
      let got = is_gave file event passes in
      let events_are : events ≡ gave file got.0 ∷ [] = is ∙ ap (λ (es : List Event). es ++ event ∷ []) none ∙ ap (λ (e : Event). e ∷ []) got.1 in
      let h = subst (λ (es : List Event). Happened es a mid) events_are happened in
      let same : got.0 ≡ text = same_file got.0 h.0 h.1 in
      absurd (omega (arith, so.small, got.2, ap length same))
  passes_none before intake event events mid (check.awaits_certificate other sheet small reads before_is) passes is happened =
      let got = is_rest CERT_LIMIT event passes in
      let events_are : events ≡ gave file other ∷ took got.0 ∷ [] = is ∙ ap (λ (es : List Event). es ++ event ∷ []) before_is ∙ ap (λ (e : Event). gave file other ∷ e ∷ []) got.1 in
      let h = subst (λ (es : List Event). Happened es a mid) events_are happened in
      let few : length got.0 ≤ length certificate = no_more_taken h.0.input h.2.0.input got.0 certificate (left_at other h.0 h.1) h.2.1.1 in
      absurd (omega (arith, so.few, got.2, few))

  course_passes_none : (before : List Event) (intake : Intake) (event : Event) (events : List Event) (notes' : Notes) (mid : Outside) → Course words notes before (takes intake) notes' → PassesLimit intake event → events ≡ before ++ event ∷ [] → Happened events a mid → ⊥
  course_passes_none before intake event events notes' mid (as_asked request fits h) passes is happened = passes_none before intake event events mid (of_check before (takes intake) notes' request fits h) passes is happened

  last_piece : (events : List Event) (line : List ℕ) (status : Status) (notes' : Notes) (mid : Outside) → status ≢ Memory → Comes (Course words notes) events (ends_with line status) notes' → Happened events a mid → status ≡ status_of_told what
  last_piece events line status notes' mid wanting (on_course h) happened = by_course events line status notes' mid h happened
  last_piece events line status notes' mid wanting (past_limit before intake event h passes is) happened = absurd (course_passes_none before intake event events notes' mid h passes is happened)
  last_piece events line status notes' mid wanting (without_memory same h) happened = absurd (wanting refl)

  no_end : (events : List Event) (status : Status) → Check file events (ends status) → ⊥
  no_end events status h = elim h [ ]

  never_plain : (events : List Event) (status : Status) (notes' : Notes) → Course words notes events (ends status) notes' → ⊥
  never_plain events status notes' (as_asked request fits h) = no_end events status (of_check events (ends status) notes' request fits h)

  run_decides : (events : List Event) (status : Status) (notes' : Notes) (mid : Outside) → status ≢ ReadFault → status ≢ WriteFault → status ≢ Memory → Run (Course words notes) events status notes' → Happened events a mid → status ≡ status_of_told what
  run_decides events status notes' mid read write wanting (ended (on_course h)) happened = absurd (never_plain events status notes' h)
  run_decides events status notes' mid read write wanting (ended_with before line comes is) happened =
      let two = happened-split before (told line ∷ []) a mid (subst (λ (es : List Event). Happened es a mid) is happened) in
      last_piece before line status notes' two.0 wanting comes two.1
  run_decides events status notes' mid read write wanting (read_failed before intake begun h can is) happened = absurd (read refl)
  run_decides events status notes' mid read write wanting (read_failed_at_file before name h is) happened = absurd (read refl)
  run_decides events status notes' mid read write wanting (write_failed before stage piece count comes tell is) happened = absurd (write refl)

pub decided : WordsFitOneRequest → OneSheet → OneTold → ChecksEndAsJudged
decided one_request one_sheet one_told words file text certificate what status notes notes' before after so runs read write wanting =
    let two = happened-split runs.2.events runs.2.spare before after runs.2.happened in
    run_decides one_request one_sheet one_told words file text certificate what before so notes runs.2.events status notes' two.0 read write wanting runs.2.run two.1
