-- Events that are of no run.
use Rattle.std.proofs.Common.{◌≡◌, ◌≢◌, ℕ, ◌<◌, List, [], ◌∷◌, ◌++◌, length, refl, sym, ◌∙◌, ap, subst, codes, arith, take}
use Rattle.pc_lines.specs.Lines.{line_text_of}
use Rattle.pc_refusals.specs.declared.status.Status.{Status}
use Rattle.pc_refusals.specs.Events.{Event, took, took_rest, told, input_failed, shelf_failed, output_failed}
use Rattle.pc_refusals.specs.Stages.{Stage}
use Rattle.pc_refusals.specs.Runs.{last_or, IsSpare, ahead, Tells, goes_on, ends_so, Comes, on_course, past_limit, without_memory, Run, ended, ended_with, read_failed, read_failed_at_file, write_failed}
use Rattle.pc_refusals.proofs.EventLemmas.{last_or-append}
use Rattle.pc_transcript.specs.Answer.{Answer, silent, accepted, shown, refused, no_memory}
use Rattle.pc_transcript.specs.Transcript.{Transcript, Legal}
use Rattle.pc_transcript.specs.Course.{events_of, AnswersLines, awaits_line, awaits_end, has_answer, has_all}
use Rattle.pc_run_laws.specs.Examples.{Counts, WrongRuns}
use Rattle.pc_run_laws.proofs.CauseLemmas.{answers_calmly}
use Rattle.pc_run_laws.proofs.FaultLemmas.{faults_come_last}

-- lists that end alike have the same last event
same_last : (x y : Event) (xs ys : List Event) → xs ++ x ∷ [] ≡ ys ++ y ∷ [] → x ≡ y
same_last x y xs ys is = sym (last_or-append (took []) xs (x ∷ [])) ∙ ap (last_or (took [])) is ∙ last_or-append (took []) ys (y ∷ [])

two_last : (xs : List Event) (x y : Event) → xs ++ x ∷ y ∷ [] ≡ (xs ++ x ∷ []) ++ y ∷ []
two_last [] x y = refl
two_last (z ∷ xs) x y = ap (λ (es : List Event). z ∷ es) (two_last xs x y)

-- ---- a line that isn't answered

abbrev first_line : List ℕ
first_line = codes "count\n"

abbrev a_start : List ℕ
a_start = codes "cou"

abbrev cut_read : List Event
cut_read = took first_line ∷ took a_start ∷ input_failed ∷ []

not_answered : (t : Transcript) (begun : List ℕ) → cut_read ≡ events_of t ++ took begun ∷ input_failed ∷ [] → ⊥
not_answered [] begun is = absurd (cc is)
not_answered (pair ∷ more) begun is = absurd (cc is)

-- it doesn't end by another event
ends_by_read : (x : Event) (xs : List Event) → x ≢ input_failed → cut_read ≡ xs ++ x ∷ [] → ⊥
ends_by_read x xs other is = other (sym (same_last input_failed x (took first_line ∷ took a_start ∷ []) xs is))

not_run : (status : Status) (end : ℕ) → Run (AnswersLines Counts 0) cut_read status end → ⊥
not_run status end (ended (on_course (has_all t legal each all count is))) = ends_by_read (took_rest []) (events_of t) (λ e. absurd (cc e)) is
not_run status end (ended_with before line comes is) = ends_by_read (told line) before (λ e. absurd (cc e)) is
not_run status end (read_failed before intake begun (awaits_line t legal whole few before_is) can is) = not_answered t begun (is ∙ ap (λ (es : List Event). es ++ took begun ∷ input_failed ∷ []) before_is)
not_run status end (read_failed before intake begun (awaits_end t legal whole full before_is) can is) = not_answered t begun (is ∙ ap (λ (es : List Event). es ++ took begun ∷ input_failed ∷ []) before_is)
not_run status end (read_failed_at_file before name course is) = ends_by_read (shelf_failed name) before (λ e. absurd (cc e)) is
not_run status end (write_failed before stage piece count comes tell is) = ends_by_read output_failed (before ++ told (take count piece) ∷ []) (λ e. absurd (cc e)) (is ∙ two_last before (told (take count piece)) output_failed)

-- ---- a write that is tried again

abbrev tried_twice : List Event
tried_twice = took first_line ∷ told (codes "o") ∷ output_failed ∷ told (codes "ok\n") ∷ []

no_retry : (status : Status) (end : ℕ) → Run (AnswersLines Counts 0) tried_twice status end → ⊥
no_retry status end run =
    let rest : told (codes "ok\n") ∷ [] ≡ [] = faults_come_last (AnswersLines Counts 0) (answers_calmly Counts 0) tried_twice status end run (took first_line ∷ told (codes "o") ∷ []) (told (codes "ok\n") ∷ []) output_failed tt refl in
    absurd (cc rest)

-- ---- one answer that counts twice

abbrev cut_write : List Event
cut_write = took first_line ∷ told (codes "o") ∷ output_failed ∷ []

ends_by_write : (x : Event) (xs : List Event) → x ≢ output_failed → cut_write ≡ xs ++ x ∷ [] → ⊥
ends_by_write x xs other is = other (sym (same_last output_failed x (took first_line ∷ told (codes "o") ∷ []) xs is))

one_counts : (answer : Answer) (line : List ℕ) → Counts 0 line answer 2 → ⊥
one_counts silent line allowed = absurd (cc allowed.1)
one_counts accepted line allowed = absurd (cc allowed.1)
one_counts (shown text) line allowed = allowed
one_counts (refused why more) line allowed = absurd (cc allowed.3)
one_counts no_memory line allowed = absurd (cc allowed.1)

-- before the cut one line was taken
cut_before : (before : List Event) (piece : List ℕ) → cut_write ≡ before ++ told piece ∷ output_failed ∷ [] → before ≡ took first_line ∷ []
cut_before [] piece is = absurd (cc is)
cut_before (x ∷ []) piece is = cc is
cut_before (x ∷ y ∷ []) piece is = absurd (cc is)
cut_before (x ∷ y ∷ z ∷ []) piece is = absurd (cc is)
cut_before (x ∷ y ∷ z ∷ w ∷ rest) piece is = absurd (cc is)

answers_one : (t : Transcript) (mid : ℕ) (line : List ℕ) (taken : List Event) (answer : Answer) → Legal Counts 0 t mid → Counts mid line answer 2 → took first_line ∷ [] ≡ events_of t ++ taken → ⊥
answers_one [] mid line taken answer legal allowed is = one_counts answer line (subst (λ (n : ℕ). Counts n line answer 2) legal allowed)
answers_one (pair ∷ more) mid line taken answer legal allowed is = absurd (cc is)

counts_none : (t : Transcript) (tail : List Event) → Legal Counts 0 t 2 → took first_line ∷ [] ≡ events_of t ++ tail → ⊥
counts_none [] tail legal is = absurd (cc legal)
counts_none (pair ∷ more) tail legal is = absurd (cc is)

comes_once : (before : List Event) (stage : Stage) (piece : List ℕ) → before ≡ took first_line ∷ [] → Tells piece stage → Comes (AnswersLines Counts 0) before stage 2 → ⊥
comes_once before stage piece one goes_on (on_course (has_answer t mid line taken answer legal whole few of_line allowed is)) = answers_one t mid (line_text_of line) taken answer legal allowed (sym one ∙ is)
comes_once before stage piece one (ends_so status) (on_course course) = elim course [ ]
comes_once before stage piece one (ends_so status) (without_memory line course) = elim course [ ]
comes_once before stage piece one (ends_so status) (past_limit earlier intake event (awaits_line t legal whole few earlier_is) passes is) = counts_none t (event ∷ []) legal (sym one ∙ is ∙ ap (λ (es : List Event). es ++ event ∷ []) earlier_is)
comes_once before stage piece one (ends_so status) (past_limit earlier intake event (awaits_end t legal whole full earlier_is) passes is) = counts_none t (event ∷ []) legal (sym one ∙ is ∙ ap (λ (es : List Event). es ++ event ∷ []) earlier_is)

not_twice : (status : Status) → Run (AnswersLines Counts 0) cut_write status 2 → ⊥
not_twice status (ended (on_course (has_all t legal each all count is))) = ends_by_write (took_rest []) (events_of t) (λ e. absurd (cc e)) is
not_twice status (ended_with before line comes is) = ends_by_write (told line) before (λ e. absurd (cc e)) is
not_twice status (read_failed before intake begun course can is) = ends_by_write input_failed (before ++ took begun ∷ []) (λ e. absurd (cc e)) (is ∙ two_last before (took begun) input_failed)
not_twice status (read_failed_at_file before name course is) = ends_by_write (shelf_failed name) before (λ e. absurd (cc e)) is
not_twice status (write_failed before stage piece count comes tell is) = comes_once before stage piece (cut_before before (take count piece) is) tell comes

-- ---- what is read ahead

too_far : (most : ℕ) (events : List Event) (held : List ℕ) → most < length held → IsSpare most events (took held ∷ []) → ⊥
too_far most events held far (ahead same few telling some) = absurd (omega (arith, far, few))

none_behind : (line : List ℕ) (most : ℕ) (held : List ℕ) → IsSpare most (took line ∷ []) (took held ∷ []) → ⊥
none_behind line most held (ahead same few telling some) = telling

pub wrong : WrongRuns
wrong = record {
  unanswered = λ status end run. not_run status end run;
  tried_again = λ status end run. no_retry status end run;
  counted_twice = λ status run. not_twice status run;
  too_far = λ most events held far spare. too_far most events held far spare;
  read_twice = λ most events one two spare. elim spare [ ];
  read_on = λ most line held spare. none_behind line most held spare;
}
