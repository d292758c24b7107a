-- What runs take in is within its limits, in each mode.
use Rattle.std.proofs.Common.{◌≡◌, ◌≢◌, ℕ, ◌≤◌, List, [], ◌∷◌, ◌++◌, length, refl, sym, ◌∙◌, ap, subst, drop}
use Rattle.pc_words.specs.Words.{Mode, replays, edits, checks, merges, posts, demonstrates, Request}
use Rattle.pc_words.specs.Laws.{WordsFitOneRequest}
use Rattle.pc_cert.specs.declared.TheConstants.{CERT_LIMIT}
use Rattle.pc_lines.specs.declared.TheConstants.{SHEET_LIMIT}
use Rattle.pc_refusals.specs.declared.status.Status.{Status}
use Rattle.pc_refusals.specs.declared.status.Status.TheVariants.{TooLong}
use Rattle.pc_refusals.specs.Events.{Event, took, took_rest, gave}
use Rattle.pc_refusals.specs.Stages.{Intake, rest_within, Stage, takes, needs, tells, ends_with, ends, PassesLimit}
use Rattle.pc_judge.specs.Course as check
use Rattle.pc_judge.specs.Course.{Check, CheckOf}
use Rattle.pc_demo.specs.Course.{Demo}
use Rattle.pc_spreadsheet.specs.Tasks.{Starts}
use Rattle.pc_spreadsheet.specs.Allowed.{Notes, Allows, RefusesText}
use Rattle.pc_replay.specs.Course.{CourseIn, Course, without_fit, needs_memory, as_asked}
use Rattle.pc_run_laws.specs.Limits.{EndsTooLongExactly}
use Rattle.pc_run_laws.proofs.CourseLimits.{nothing_there, first_is, EndsOtherwise, StaysWithin, exactly}
use Rattle.pc_run_laws.proofs.Within.{not_too_long, replay_stays, edit_stays}
use Rattle.pc_run_laws.proofs.JournalLimits.{rest_within_limit, whole_rest_within, merge_stays, posts_stay}
use Rattle.pc_run_laws.proofs.Ends.{EndsIn, mode_in}

-- ---- in which statuses a course ends

otherwise_at : (stage : Stage) → EndsIn (λ (s : Status). s ≢ TooLong) stage → EndsOtherwise stage
otherwise_at (takes intake) h = tt
otherwise_at (needs line) h = tt
otherwise_at (tells piece) h = tt
otherwise_at (ends_with line status) h = h
otherwise_at (ends status) h = h

mode_otherwise : (mode : Mode) (budget : ℕ) (notes : Notes) (events : List Event) (stage : Stage) (notes' : Notes) → CourseIn mode budget notes events stage notes' → EndsOtherwise stage
mode_otherwise mode budget notes events stage notes' h = otherwise_at stage (mode_in (λ (s : Status). s ≢ TooLong) (record {
  done = λ e. absurd (cc e);
  some_refused = λ e. absurd (cc e);
  memory = λ e. absurd (cc e);
  sheet_refused = λ e. absurd (cc e);
}) (λ e. absurd (cc e)) mode budget notes notes' events stage h)

-- ---- a check

-- the file was given within its limit, and what was taken of the input behind it is within its own
behind_file : (file text : List ℕ) (rest events earlier later : List Event) (event : Event) (intake : Intake) → length text ≤ SHEET_LIMIT → ((x : Event) (more : List Event) → rest ≡ x ∷ more → PassesLimit (rest_within CERT_LIMIT) x → ⊥) → events ≡ gave file text ∷ rest
    → Check file earlier (takes intake) → events ≡ earlier ++ event ∷ later → PassesLimit intake event → ⊥
behind_file file text rest events earlier later event intake small within is (check.awaits_file none) e passes =
    not_too_long file text event small (first_is (gave file text) event rest later (sym is ∙ e ∙ ap (λ (es : List Event). es ++ event ∷ later) none)) passes
behind_file file text rest events earlier later event intake small within is (check.awaits_certificate text' sheet small' reads late_is) e passes =
    within event later (ap (drop 1) (sym is ∙ e ∙ ap (λ (es : List Event). es ++ event ∷ later) late_is)) passes

none_behind : (x : Event) (more : List Event) → [] ≡ x ∷ more → PassesLimit (rest_within CERT_LIMIT) x → ⊥
none_behind x more e passes = nothing_there [] more x e

check_within : (file : List ℕ) (events earlier later : List Event) (event : Event) (intake : Intake) (stage : Stage) → Check file events stage → Check file earlier (takes intake) → events ≡ earlier ++ event ∷ later → PassesLimit intake event → ⊥
check_within file events earlier later event intake stage (check.needs_file_memory is) late e passes = nothing_there earlier later event (sym is ∙ e)
check_within file events earlier later event intake stage (check.awaits_file is) late e passes = nothing_there earlier later event (sym is ∙ e)
check_within file events earlier later event intake stage (check.needs_sheet_memory text small is) late e passes = behind_file file text [] events earlier later event intake small none_behind is late e passes
check_within file events earlier later event intake stage (check.is_refused text why small has none is) late e passes = behind_file file text [] events earlier later event intake small none_behind is late e passes
check_within file events earlier later event intake stage (check.awaits_certificate text sheet small reads is) late e passes = behind_file file text [] events earlier later event intake small none_behind is late e passes
check_within file events earlier later event intake stage (check.needs_memory text sheet some small reads few is) late e passes =
    behind_file file text (took some ∷ []) events earlier later event intake small (λ x more same p. rest_within_limit CERT_LIMIT some x few (first_is (took some) x [] more same) p) is late e passes
check_within file events earlier later event intake stage (check.is_judged text sheet certificate what small reads few judged is) late e passes =
    behind_file file text (took_rest certificate ∷ []) events earlier later event intake small (λ x more same p. whole_rest_within CERT_LIMIT certificate x (first_is (took_rest certificate) x [] more same) p) is late e passes

pub check_stays : (file : List ℕ) → StaysWithin (CheckOf file)
check_stays file = record {
  within = λ events earlier later event intake stage n m so late e passes. check_within file events earlier later event intake stage so late e passes;
  otherwise = λ events stage n h. mode_otherwise (checks file) 1 [] events stage [] (h, refl);
}

-- ---- a demonstration takes in nothing

pub demo_stays : (blocks budget : ℕ) (notes : Notes) → StaysWithin (Demo blocks budget notes)
demo_stays blocks budget notes = record {
  within = λ events earlier later event intake stage n m so late e passes. elim late [ ];
  otherwise = λ events stage n h. mode_otherwise (demonstrates blocks) budget notes events stage n h;
}

-- ---- all modes

mode_within : (mode : Mode) (budget : ℕ) (notes : Notes) (events earlier later : List Event) (event : Event) (intake : Intake) (stage : Stage) (n m : Notes) → CourseIn mode budget notes events stage n → CourseIn mode budget notes earlier (takes intake) m → events ≡ earlier ++ event ∷ later → PassesLimit intake event → ⊥
mode_within replays budget notes events earlier later event intake stage n m so late e passes = (replay_stays (Starts budget) (RefusesText budget) Allows notes).within events earlier later event intake stage n m so late e passes
mode_within (edits file) budget notes events earlier later event intake stage n m so late e passes = (edit_stays (Starts budget) (RefusesText budget) Allows file notes).within events earlier later event intake stage n m so late e passes
mode_within (checks file) budget notes events earlier later event intake stage n m so late e passes = check_within file events earlier later event intake stage so.0 late.0 e passes
mode_within (merges file) budget notes events earlier later event intake stage n m so late e passes = (merge_stays file).within events earlier later event intake stage tt tt so.0 late.0 e passes
mode_within (posts file) budget notes events earlier later event intake stage n m so late e passes = (posts_stay (Starts budget) (RefusesText budget) Allows file notes).within events earlier later event intake stage n m so late e passes
mode_within (demonstrates blocks) budget notes events earlier later event intake stage n m so late e passes = (demo_stays blocks budget notes).within events earlier later event intake stage n m so late e passes

module _ (one_request : WordsFitOneRequest) (words : List (List ℕ)) (notes : Notes) where
  course_within : (events earlier later : List Event) (event : Event) (intake : Intake) (stage : Stage) (n m : Notes) → Course words notes events stage n → Course words notes earlier (takes intake) m → events ≡ earlier ++ event ∷ later → PassesLimit intake event → ⊥
  course_within events earlier later event intake stage n m (without_fit none is) late e passes = nothing_there earlier later event (sym is ∙ e)
  course_within events earlier later event intake stage n m (needs_memory some is) late e passes = nothing_there earlier later event (sym is ∙ e)
  course_within events earlier later event intake stage n m (as_asked request fits so) (as_asked request' fits' late) e passes =
      mode_within request.mode request.budget notes events earlier later event intake stage n m so (subst (λ (r : Request). CourseIn r.mode r.budget notes earlier (takes intake) m) (one_request words request' request fits' fits) late) e passes

  course_otherwise : (events : List Event) (stage : Stage) (n : Notes) → Course words notes events stage n → EndsOtherwise stage
  course_otherwise events stage n (without_fit none is) = λ e. absurd (cc e)
  course_otherwise events stage n (needs_memory some is) = tt
  course_otherwise events stage n (as_asked request fits h) = mode_otherwise request.mode request.budget notes events stage n h

  pub runs_exactly : EndsTooLongExactly (Course words notes)
  runs_exactly = exactly (Course words notes) (record { within = course_within; otherwise = course_otherwise })
