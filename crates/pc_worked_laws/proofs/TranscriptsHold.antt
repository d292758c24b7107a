-- Legal and illegal transcripts of two lines.
use Rattle.std.proofs.Common.{◌≡◌, ◌≢◌, ℕ, zero, suc, ◌⊎◌, inl, inr, Bool, true, not, ◌&&◌, ◌==◌, List, [], ◌∷◌, ◌++◌, length, drop, codes, arith, ap, refl, sym, ◌∙◌, subst}
use Rattle.std.specs.declared.option.Option.TheVariants.{Some}
use Rattle.std.specs.Bool.{Decides}
use Rattle.std.proofs.lemmas.Bool.Decides.{Decides-eqb, Decides-not, Decides-by_and}
use Rattle.std.proofs.lemmas.List.{append-nil}
use Rattle.std.proofs.lemmas.List.Elements.{All-nil, All-cons}
use Rattle.pc_lines.specs.Lines.{HasNoEnd, lines_of}
use Rattle.pc_lines.specs.Lines as a_line
use Rattle.pc_refusals.specs.declared.refusal.Refusal.TheVariants.{NoRule}
use Rattle.pc_refusals.specs.declared.status.Status.{Status}
use Rattle.pc_refusals.specs.declared.status.Status.TheVariants.{Done, SomeRefused}
use Rattle.pc_transcript.specs.Answer.{Answer, silent, accepted, shown, refused, no_memory, answer_text}
use Rattle.pc_refusals.specs.Endings.{Printing, printed}
use Rattle.pc_refusals.specs.Stages.{IsLine}
use Rattle.pc_transcript.specs.declared.TheConstants.{LINE_LIMIT}
use Rattle.pc_transcript.specs.Transcript.{Transcript, Legal, lines, output_of, status_of}
use Rattle.pc_run_laws.specs.Answered.{AnswersAll}
use Rattle.pc_worked_laws.specs.Transcripts.{told, CountsUp, count_line, show_line, WorkedTranscripts, WorkedAnswers}

abbrev code_at : ℕ → List ℕ → ℕ
code_at k [] = 0
code_at zero (c ∷ cs) = c
code_at (suc k) (c ∷ cs) = code_at k cs

-- ---- which are legal

counted_lines : Legal CountsUp 0 ((count_line, accepted) ∷ (show_line, shown (told 1)) ∷ []) 1
counted_lines = (1, (refl, refl), (1, (refl, refl, refl), refl))

refused_lines : Legal CountsUp 0 ((count_line, refused NoRule []) ∷ (show_line, shown (told 0)) ∷ []) 0
refused_lines = (0, (refl, refl, refl), (0, (refl, refl, refl), refl))

told_another : (k n : ℕ) → k ≡ 1 → told 0 ≡ told k → ⊥
told_another k n is same = omega (arith, ap (code_at 0) (same ∙ ap told is))

stale_lines : ¬ Legal CountsUp 0 ((count_line, accepted) ∷ (show_line, shown (told 0)) ∷ []) 1
stale_lines (mid, (line, is), (end, (also, same, stays), ends)) = told_another mid 0 is same

turned_lines : ¬ Legal CountsUp 0 ((show_line, shown (told 1)) ∷ (count_line, accepted) ∷ []) 1
turned_lines (mid, (line, same, is), more) = told_another 1 0 refl (sym same)

moved_lines : ¬ Legal CountsUp 0 ((count_line, refused NoRule []) ∷ (show_line, shown (told 1)) ∷ []) 1
moved_lines (mid, (why, more, is), (end, (also, same, stays), ends)) = told_another 1 0 refl (sym (same ∙ ap told is))

silent_line : ¬ Legal CountsUp 0 ((count_line, silent) ∷ (show_line, shown (told 0)) ∷ []) 0
silent_line (mid, (line, is), more) = omega (arith, ap (code_at 0) line)

pub transcripts : WorkedTranscripts
transcripts = record {
  none = refl;
  counted = counted_lines;
  stale = stale_lines;
  turned = turned_lines;
  refused_stays = refused_lines;
  refused_moves = moved_lines;
  unanswered = silent_line;
  with_return = (1, (refl, refl), (1, (refl, refl, refl), refl));
  status_counted = refl;
  status_refused = refl;
  output = refl;
}

-- ---- lines to the end of the input

abbrev has_no_end : List ℕ → Bool
has_no_end [] = true
has_no_end (b ∷ bs) = not (b == 10) && has_no_end bs

no_end_decides : (bs : List ℕ) → Decides (has_no_end bs) (HasNoEnd bs)
no_end_decides bs = Decides-by_and (λ b. not (b == 10)) (λ b. b ≢ 10) has_no_end (λ b. Decides-not (b == 10) (Decides-eqb b 10)) refl (λ _ _. refl) bs

whole_count : IsLine LINE_LIMIT count_line
whole_count = inl (record { ends = refl; no_end = (no_end_decides (codes "count")).0 refl; short = omega arith })

whole_show : IsLine LINE_LIMIT show_line
whole_show = inl (record { ends = refl; no_end = (no_end_decides (codes "show")).0 refl; short = omega arith })

open_show : IsLine LINE_LIMIT (codes "show")
open_show = inr (record { short = omega arith; no_end = (no_end_decides (codes "show")).0 refl }, omega arith)

all_answered : AnswersAll CountsUp 0 1 Done (printed (codes "ok\nsome\n") []) (Some (codes "count\nshow\n")) (Some [])
all_answered = record {
  transcript = (count_line, accepted) ∷ (show_line, shown (told 1)) ∷ [];
  legal = counted_lines;
  commands = codes "count\nshow\n";
  taken = refl;
  at_end = refl;
  all = refl;
  each = All-cons (IsLine LINE_LIMIT) count_line (show_line ∷ []) whole_count (All-cons (IsLine LINE_LIMIT) show_line [] whole_show (All-nil (IsLine LINE_LIMIT)));
  count = omega arith;
  text_is = refl;
  status_is = refl;
}

last_open : AnswersAll CountsUp 0 1 Done (printed (codes "ok\nsome\n") []) (Some (codes "count\nshow")) (Some [])
last_open = record {
  transcript = (count_line, accepted) ∷ (codes "show", shown (told 1)) ∷ [];
  legal = (1, (refl, refl), (1, (refl, refl, refl), refl));
  commands = codes "count\nshow";
  taken = refl;
  at_end = refl;
  all = refl;
  each = All-cons (IsLine LINE_LIMIT) count_line (codes "show" ∷ []) whole_count (All-cons (IsLine LINE_LIMIT) (codes "show") [] open_show (All-nil (IsLine LINE_LIMIT)));
  count = omega arith;
  text_is = refl;
  status_is = refl;
}

bytes_left : ¬ AnswersAll CountsUp 0 1 Done (printed (codes "ok\n") []) (Some (codes "count\nshow\n")) (Some (codes "show\n"))
bytes_left h = omega (arith, ap (code_at 0) h.at_end)

-- ---- what the two lines can be answered

not_r : (c : ℕ) → 114 ≡ c → (c ≡ 111) ⊎ (c ≡ 115) → ⊥
not_r c is either = elim either [ inl o ↦ omega (arith, is, o) | inr s ↦ omega (arith, is, s) ]

-- `count` is answered by `ok`, where what is printed begins as `ok` or as `some`
count_answer : (answer : Answer) (mid : ℕ) (more text : List ℕ) → CountsUp 0 (a_line.line_text_of count_line) answer mid → answer_text answer ++ more ≡ text
    → (code_at 0 text ≡ 111) ⊎ (code_at 0 text ≡ 115) → (answer ≡ accepted) × (111 ≡ code_at 0 text)
count_answer silent mid more text h is begins = absurd (omega (arith, ap (code_at 0) h.0))
count_answer accepted mid more text h is begins = (refl, ap (code_at 0) is)
count_answer (shown page) mid more text h is begins = absurd (omega (arith, ap (code_at 0) h.0))
count_answer (refused why further) mid more text h is begins = absurd (not_r (code_at 0 text) (ap (code_at 0) is) begins)
count_answer no_memory mid more text h is begins = absurd (not_r (code_at 0 text) (ap (code_at 0) is) begins)

-- `show` is answered by a page, where what is printed begins as `some`
show_answer : (answer : Answer) (mid end : ℕ) (more : List ℕ) → CountsUp mid (a_line.line_text_of show_line) answer end → answer_text answer ++ more ≡ codes "some\n" → (page : List ℕ) × (answer ≡ shown page)
show_answer silent mid end more h is = absurd (omega (arith, ap (code_at 0) h.0))
show_answer accepted mid end more h is = absurd (omega (arith, ap (code_at 0) h.0))
show_answer (shown page) mid end more h is = (page, refl)
show_answer (refused why further) mid end more h is = absurd (omega (arith, ap (code_at 0) is))
show_answer no_memory mid end more h is = absurd (omega (arith, ap (code_at 0) is))

abbrev line_at : ℕ → List (List ℕ) → List ℕ
line_at k [] = []
line_at zero (l ∷ ls) = l
line_at (suc k) (l ∷ ls) = line_at k ls

abbrev both_lines : List (List ℕ)
both_lines = count_line ∷ show_line ∷ []

not_some_alone : (t : Transcript) → Legal CountsUp 0 t 1 → lines t ≡ both_lines → output_of t ≡ codes "some\n" → ⊥
not_some_alone [] legal are is = omega (arith, ap length are)
not_some_alone (x ∷ more) (mid, answered, legal) are is =
    let first = count_answer x.1 mid (output_of more) (codes "some\n") (subst (λ l. CountsUp 0 (a_line.line_text_of l) x.1 mid) (ap (line_at 0) are) answered) is (inr refl) in
    omega (arith, first.1)

not_refused : (t : Transcript) → Legal CountsUp 0 t 1 → lines t ≡ both_lines → output_of t ≡ codes "ok\nsome\n" → SomeRefused ≡ status_of t → ⊥
not_refused [] legal are is told = omega (arith, ap length are)
not_refused (x ∷ []) legal are is told = omega (arith, ap length are)
not_refused (x ∷ y ∷ z ∷ more) legal are is told = omega (arith, ap length are)
not_refused (x ∷ y ∷ []) (mid, answered, (end, also, ends)) are is told =
    let first = count_answer x.1 mid (answer_text y.1 ++ []) (codes "ok\nsome\n") (subst (λ l. CountsUp 0 (a_line.line_text_of l) x.1 mid) (ap (line_at 0) are) answered) is (inl refl) in
    let rest : answer_text y.1 ++ [] ≡ codes "some\n" = ap (drop 3) (ap (λ a. answer_text a ++ (answer_text y.1 ++ [])) (sym first.0) ∙ is) in
    let second = show_answer y.1 mid end [] (subst (λ l. CountsUp mid (a_line.line_text_of l) y.1 end) (ap (line_at 1) are) also) rest in
    let both : Answer → Answer → Status = λ a b. status_of ((x.0, a) ∷ (y.0, b) ∷ []) in
    other (told ∙ ap (λ a. both a y.1) first.0 ∙ ap (both accepted) second.1)
  where
    other : SomeRefused ≡ Done → ⊥
    other e = cc

-- the lines of an input that is taken to its end
all_lines : (t : Transcript) (commands : List ℕ) → codes "count\nshow\n" ≡ commands ++ [] → lines t ≡ lines_of commands → lines t ≡ both_lines
all_lines t commands taken are = are ∙ ap lines_of (sym (taken ∙ append-nil commands))

line_left_out : ¬ AnswersAll CountsUp 0 1 Done (printed (codes "some\n") []) (Some (codes "count\nshow\n")) (Some [])
line_left_out h = not_some_alone h.transcript h.legal (all_lines h.transcript h.commands h.taken h.all) (ap (λ (t : Printing). t.before) (sym h.text_is))

told_refused : ¬ AnswersAll CountsUp 0 1 SomeRefused (printed (codes "ok\nsome\n") []) (Some (codes "count\nshow\n")) (Some [])
told_refused h = not_refused h.transcript h.legal (all_lines h.transcript h.commands h.taken h.all) (ap (λ (t : Printing). t.before) (sym h.text_is)) h.status_is

pub answers : WorkedAnswers
answers = record { all = all_answered; last_line = last_open; not_to_the_end = bytes_left; one_less = line_left_out; told_as_refused = told_refused }
