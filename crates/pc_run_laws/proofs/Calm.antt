-- No fault is on the courses of runs.
use Rattle.std.proofs.Common.{ℕ, List, [], ◌∷◌, refl, sym, subst, map}
use Rattle.pc_words.specs.Words.{Mode, replays, edits, checks, merges, posts, demonstrates}
use Rattle.pc_refusals.specs.Events.{Event, told}
use Rattle.pc_refusals.specs.Stages.{Stage, takes, needs, tells, ends_with, ends}
use Rattle.pc_transcript.specs.Transcript.{Transcript}
use Rattle.pc_judge.specs.Course as check
use Rattle.pc_judge.specs.Course.{Check}
use Rattle.pc_demo.specs.Course as demo
use Rattle.pc_demo.specs.Course.{Demo}
use Rattle.pc_demo.specs.Demonstration.{told_of}
use Rattle.pc_spreadsheet.specs.Tasks.{Starts}
use Rattle.pc_spreadsheet.specs.Allowed.{Notes, Allows, RefusesText}
use Rattle.pc_replay.specs.Course.{CourseIn, Course, without_fit, needs_memory, as_asked}
use Rattle.pc_run_laws.proofs.CauseLemmas.{AreCalm, IsFine, EndsFine, replay_calmly, edit_calmly}
use Rattle.pc_run_laws.proofs.JournalCauses.{merge_calmly, posts_calmly}
use Rattle.pc_run_laws.proofs.Ends.{EndsIn, mode_in}

check_calm : (file : List ℕ) (events : List Event) (stage : Stage) → Check file events stage → AreCalm events
check_calm file events stage (check.needs_file_memory is) = subst AreCalm (sym is) tt
check_calm file events stage (check.awaits_file is) = subst AreCalm (sym is) tt
check_calm file events stage (check.needs_sheet_memory text small is) = subst AreCalm (sym is) (tt, tt)
check_calm file events stage (check.is_refused text why small has none is) = subst AreCalm (sym is) (tt, tt)
check_calm file events stage (check.awaits_certificate text sheet small reads is) = subst AreCalm (sym is) (tt, tt)
check_calm file events stage (check.needs_memory text sheet some small reads few is) = subst AreCalm (sym is) (tt, (tt, tt))
check_calm file events stage (check.is_judged text sheet certificate what small reads few judged is) = subst AreCalm (sym is) (tt, (tt, tt))

told_calm : (t : Transcript) → AreCalm (map (λ pair. told (told_of pair.1)) t)
told_calm [] = tt
told_calm (pair ∷ more) = (tt, told_calm more)

demo_calm : (blocks budget : ℕ) (notes : Notes) (events : List Event) (stage : Stage) (notes' : Notes) → Demo blocks budget notes events stage notes' → AreCalm events
demo_calm blocks budget notes events stage notes' (demo.needs_memory none) = subst AreCalm (sym none) tt
demo_calm blocks budget notes events stage notes' (demo.is_refused why more refuses none) = subst AreCalm (sym none) tt
demo_calm blocks budget notes events stage notes' (demo.is_loaded start loaded loads none) = subst AreCalm (sym none) tt
demo_calm blocks budget notes events stage notes' (demo.has_answer start loaded t done mid end answer loads clears few allowed is) = subst AreCalm (sym is) (tt, told_calm t)
demo_calm blocks budget notes events stage notes' (demo.is_cleared start loaded t end cleared loads clears sums is) = subst AreCalm (sym is) (tt, told_calm t)

mode_calm : (mode : Mode) (budget : ℕ) (notes notes' : Notes) (events : List Event) (stage : Stage) → CourseIn mode budget notes events stage notes' → AreCalm events
mode_calm replays budget notes notes' events stage h = (replay_calmly (Starts budget) (RefusesText budget) Allows notes events stage notes' h).0
mode_calm (edits file) budget notes notes' events stage h = (edit_calmly (Starts budget) (RefusesText budget) Allows file notes events stage notes' h).0
mode_calm (checks file) budget notes notes' events stage h = check_calm file events stage h.0
mode_calm (merges file) budget notes notes' events stage h = (merge_calmly file events stage tt h.0).0
mode_calm (posts file) budget notes notes' events stage h = (posts_calmly (Starts budget) (RefusesText budget) Allows file notes events stage notes' h).0
mode_calm (demonstrates blocks) budget notes notes' events stage h = demo_calm blocks budget notes events stage notes' h

ends_fine : (stage : Stage) → EndsIn IsFine stage → EndsFine stage
ends_fine (takes intake) h = tt
ends_fine (needs line) h = tt
ends_fine (tells piece) h = tt
ends_fine (ends_with line status) h = h
ends_fine (ends status) h = h

pub mode_calmly : (mode : Mode) (budget : ℕ) (notes : Notes) (events : List Event) (stage : Stage) (notes' : Notes) → CourseIn mode budget notes events stage notes' → AreCalm events × EndsFine stage
mode_calmly mode budget notes events stage notes' h = (
  mode_calm mode budget notes notes' events stage h,
  ends_fine stage (mode_in IsFine (record {
    done = ((λ e. absurd (cc e)), (λ e. absurd (cc e)));
    some_refused = ((λ e. absurd (cc e)), (λ e. absurd (cc e)));
    memory = ((λ e. absurd (cc e)), (λ e. absurd (cc e)));
    sheet_refused = ((λ e. absurd (cc e)), (λ e. absurd (cc e)));
  }) ((λ e. absurd (cc e)), (λ e. absurd (cc e))) mode budget notes notes' events stage h),
)

-- a check takes no notes
pub check_calmly : (file : List ℕ) (events : List Event) (stage : Stage) → Check file events stage → AreCalm events × EndsFine stage
check_calmly file events stage h = mode_calmly (checks file) 1 [] events stage [] (h, refl)

pub course_calmly : (words : List (List ℕ)) (notes : Notes) (events : List Event) (stage : Stage) (notes' : Notes) → Course words notes events stage notes' → AreCalm events × EndsFine stage
course_calmly words notes events stage notes' (without_fit none is) = (subst AreCalm (sym is) tt, ((λ e. absurd (cc e)), (λ e. absurd (cc e))))
course_calmly words notes events stage notes' (needs_memory some is) = (subst AreCalm (sym is) tt, tt)
course_calmly words notes events stage notes' (as_asked request fits h) = mode_calmly request.mode request.budget notes events stage notes' h
