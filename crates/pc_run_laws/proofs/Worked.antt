-- The worked runs.
use Rattle.std.proofs.Common.{◌≡◌, ◌≢◌, ℕ, Bool, true, not, ◌&&◌, ◌==◌, List, [], ◌∷◌, ◌++◌, length, refl, sym, ap, subst, inl, codes, arith, drop, take}
use Rattle.std.specs.Bool.{Decides}
use Rattle.std.proofs.lemmas.Bool.Decides.{Decides-eqb, Decides-not, Decides-by_and}
use Rattle.std.proofs.lemmas.List.Elements.{All-nil, All-cons}
use Rattle.pc_lines.specs.Lines.{HasNoEnd, IsWholeLine, IsLongStart}
use Rattle.pc_refusals.specs.declared.refusal.Refusal.TheVariants.{NoRule}
use Rattle.pc_refusals.specs.declared.status.Status.TheVariants.{SomeRefused, ReadFault, WriteFault, Memory, TooLong}
use Rattle.pc_refusals.specs.Endings.{too_long_text}
use Rattle.pc_refusals.specs.Events.{Event, took, took_rest, told, input_failed, output_failed}
use Rattle.pc_refusals.specs.Stages.{Intake, line_within, takes, tells, IsLine, PassesLimit}
use Rattle.pc_refusals.specs.Runs.{nothing, ahead, goes_on, on_course, past_limit, ended, ended_with, read_failed, write_failed, Ran}
use Rattle.pc_transcript.specs.declared.TheConstants.{LINE_LIMIT, MAX_LINES}
use Rattle.pc_transcript.specs.Answer.{accepted, refused, no_memory, answer_text}
use Rattle.pc_transcript.specs.Transcript.{Transcript}
use Rattle.pc_transcript.specs.Course.{events_of, AnswersLines, awaits_line, awaits_end, has_answer, has_all}
use Rattle.pc_run_laws.specs.Examples.{Counts, before_it, WorkedRuns}
use Rattle.pc_run_laws.specs.Limits.{HasPassed}
use Rattle.pc_run_laws.proofs.CourseLimits.{nothing_there, first_is}

abbrev has_no_end : List ℕ → Bool
has_no_end [] = true
has_no_end (b ∷ bs) = not (b == 10) && has_no_end bs

no_end_decides : (bs : List ℕ) → Decides (has_no_end bs) (HasNoEnd bs)
no_end_decides bs = Decides-by_and (λ b. not (b == 10)) (λ b. b ≢ 10) has_no_end (λ b. Decides-not (b == 10) (Decides-eqb b 10)) refl (λ _ _. refl) bs

whole_count : IsWholeLine LINE_LIMIT (codes "count\n")
whole_count = record { ends = refl; no_end = (no_end_decides (codes "count")).0 refl; short = omega arith }

whole_drop : IsWholeLine LINE_LIMIT (codes "drop\n")
whole_drop = record { ends = refl; no_end = (no_end_decides (codes "drop")).0 refl; short = omega arith }

refusing : Ran (AnswersLines Counts 0) 0 SomeRefused 1 (before_it (codes "count\ndrop\n") 0 [] 0) (before_it [] 0 (codes "ok\nrefused 18 no-rule\n") 0)
refusing =
    let t : Transcript = (codes "count\n", accepted) ∷ (codes "drop\n", refused NoRule []) ∷ [] in
    let each = All-cons (IsLine LINE_LIMIT) (codes "count\n") (codes "drop\n" ∷ []) (inl whole_count) (All-cons (IsLine LINE_LIMIT) (codes "drop\n") [] (inl whole_drop) (All-nil (IsLine LINE_LIMIT))) in
    record {
      events = events_of t ++ took_rest [] ∷ [];
      run = ended (on_course (has_all t (1, (refl, refl), (1, (refl, refl, refl, refl), refl)) each refl (omega arith) refl));
      spare = [];
      is_spare = nothing;
      happened = (before_it (codes "drop\n") 0 [] 0, (refl, refl), (before_it (codes "drop\n") 0 (codes "ok\n") 0, (refl, refl), (before_it [] 0 (codes "ok\n") 0, (refl, refl), (before_it [] 0 (codes "ok\nrefused 18 no-rule\n") 0, (refl, refl), (before_it [] 0 (codes "ok\nrefused 18 no-rule\n") 0, (refl, refl, refl), refl)))));
    }

failing_read : Ran (AnswersLines Counts 0) 0 ReadFault 1 (before_it (codes "count\ncou") 0 [] 0) (before_it [] 1 (codes "ok\n") 0)
failing_read =
    let t : Transcript = (codes "count\n", accepted) ∷ [] in
    let each = All-cons (IsWholeLine LINE_LIMIT) (codes "count\n") [] whole_count (All-nil (IsWholeLine LINE_LIMIT)) in
    record {
      events = events_of t ++ took (codes "cou") ∷ input_failed ∷ [];
      run = read_failed (events_of t) (line_within LINE_LIMIT) (codes "cou") (awaits_line t (1, (refl, refl), refl) each (omega arith) refl) record { short = omega arith; no_end = (no_end_decides (codes "cou")).0 refl } refl;
      spare = [];
      is_spare = nothing;
      happened = (before_it (codes "cou") 0 [] 0, (refl, refl), (before_it (codes "cou") 0 (codes "ok\n") 0, (refl, refl), (before_it [] 0 (codes "ok\n") 0, (refl, refl), (before_it [] 1 (codes "ok\n") 0, (refl, omega arith), refl))));
    }

failing_write : Ran (AnswersLines Counts 0) 6 WriteFault 1 (before_it (codes "count\ncount\n") 0 [] 0) (before_it [] 0 (codes "o") 1)
failing_write = record {
  events = took (codes "count\n") ∷ told (take 1 (codes "ok\n")) ∷ output_failed ∷ [];
  run = write_failed (took (codes "count\n") ∷ []) (tells (answer_text accepted)) (answer_text accepted) 1 (on_course (has_answer [] 0 (codes "count\n") (took (codes "count\n") ∷ []) accepted refl (All-nil (IsWholeLine LINE_LIMIT)) (omega arith) (inl (whole_count, refl)) (refl, refl) refl)) goes_on refl;
  spare = took (codes "count\n") ∷ [];
  is_spare = ahead (codes "count\n") (omega arith) tt (inl tt);
  happened = (before_it (codes "count\n") 0 [] 0, (refl, refl), (before_it (codes "count\n") 0 (codes "o") 0, (refl, refl), (before_it (codes "count\n") 0 (codes "o") 1, (refl, omega arith), (before_it [] 0 (codes "o") 1, (refl, refl), refl))));
}

passing : (line more : List ℕ) → IsLongStart LINE_LIMIT line → Ran (AnswersLines Counts 0) 0 TooLong 0 (before_it (line ++ more) 0 [] 0) (before_it more 0 (codes "refused 19 too-long\n") 0)
passing line more long = record {
  events = took line ∷ told too_long_text ∷ [];
  run = ended_with (took line ∷ []) too_long_text (past_limit [] (line_within LINE_LIMIT) (took line) (awaits_line [] refl (All-nil (IsWholeLine LINE_LIMIT)) (omega arith) refl) long refl) refl;
  spare = [];
  is_spare = nothing;
  happened = (before_it more 0 [] 0, (refl, refl), (before_it more 0 (codes "refused 19 too-long\n") 0, (refl, refl), refl));
}

wanting : Ran (AnswersLines Counts 0) 0 Memory 1 (before_it (codes "count\ncount\n") 0 [] 0) (before_it [] 0 (codes "refused 15 memory\nok\n") 0)
wanting =
    let t : Transcript = (codes "count\n", no_memory) ∷ (codes "count\n", accepted) ∷ [] in
    let each = All-cons (IsLine LINE_LIMIT) (codes "count\n") (codes "count\n" ∷ []) (inl whole_count) (All-cons (IsLine LINE_LIMIT) (codes "count\n") [] (inl whole_count) (All-nil (IsLine LINE_LIMIT))) in
    record {
      events = events_of t ++ took_rest [] ∷ [];
      run = ended (on_course (has_all t (0, (refl, refl), (1, (refl, refl), refl)) each refl (omega arith) refl));
      spare = [];
      is_spare = nothing;
      happened = (before_it (codes "count\n") 0 [] 0, (refl, refl), (before_it (codes "count\n") 0 (codes "refused 15 memory\n") 0, (refl, refl), (before_it [] 0 (codes "refused 15 memory\n") 0, (refl, refl), (before_it [] 0 (codes "refused 15 memory\nok\n") 0, (refl, refl), (before_it [] 0 (codes "refused 15 memory\nok\n") 0, (refl, refl, refl), refl)))));
    }

passed_by_long : (line : List ℕ) → IsLongStart LINE_LIMIT line → HasPassed (AnswersLines Counts 0) (took line ∷ told too_long_text ∷ [])
passed_by_long line long = record {
  earlier = [];
  intake = line_within LINE_LIMIT;
  notes = 0;
  comes = awaits_line [] refl (All-nil (IsWholeLine LINE_LIMIT)) (omega arith) refl;
  event = took line;
  passes = long;
  later = told too_long_text ∷ [];
  events_are = refl;
}

not_all_lines : (t : Transcript) → [] ≡ events_of t → length t ≡ MAX_LINES → ⊥
not_all_lines [] none full = omega (arith, full)
not_all_lines (pair ∷ more) none full = cc none

not_passed_by_short : (earlier later : List Event) (event : Event) (intake : Intake) (end : ℕ) → AnswersLines Counts 0 earlier (takes intake) end → PassesLimit intake event → took (codes "count\n") ∷ [] ≡ earlier ++ event ∷ later → ⊥
not_passed_by_short (x ∷ earlier) later event intake end comes passes e = nothing_there earlier later event (ap (drop 1) e)
not_passed_by_short [] later event intake end (awaits_line t legal whole few is) passes e =
    let long : IsLongStart LINE_LIMIT (codes "count\n") = subst (λ (x : Event). PassesLimit (line_within LINE_LIMIT) x) (sym (first_is (took (codes "count\n")) event [] later e)) passes in
    omega (arith, long.long)
not_passed_by_short [] later event intake end (awaits_end t legal whole full is) passes e = not_all_lines t is full

pub worked : WorkedRuns
worked = record {
  with_refusal = refusing;
  read_fails = failing_read;
  write_fails = failing_write;
  passes_limit = passing;
  wants_memory = wanting;
  has_passed = passed_by_long;
  has_not_passed = λ h. not_passed_by_short h.earlier h.later h.event h.intake h.notes h.comes h.passes h.events_are;
  goes_on = λ start end events line course. elim course [ ];
}
