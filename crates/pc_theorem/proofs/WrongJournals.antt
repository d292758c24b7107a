-- Runs over journals, and demonstrations, that would not keep their word.
use Rattle.std.proofs.Common.{◌≡◌, ℕ, ◌<◌, ◌≤◌, List, [], ◌∷◌, ◌++◌, length, codes, Contains, Some, refl, sym, ◌∙◌, ap, subst, inl, inr, append-nil, arith}
use Rattle.std.specs.Prelude.{decimal}
use Rattle.std.specs.Str.Parse.{AllDigits}
use Rattle.std.proofs.lemmas.Fmt.{decimal_digit}
use Rattle.std.proofs.lemmas.List.Elements.{All-nil, All-cons}
use Rattle.pc_lemmas.proofs.Elements.{contains_first}
use Rattle.pc_port.specs.Shelf.{Files}
use Rattle.pc_sheet.specs.Sheet.{Sheet}
use Rattle.pc_sheet.specs.MaximalSets.{AreRulesConsistent}
use Rattle.pc_sortcheck.specs.Declaring.{ReadsAs}
use Rattle.pc_load.specs.Laws.{TextsHaveOneOutcome}
use Rattle.pc_collab.specs.Journal.{Post, IsOneLine, IsPost, IsJournal}
use Rattle.pc_collab.specs.Reading.{IsTextOf}
use Rattle.pc_collab.specs.ReadBack.{JournalsReadBack}
use Rattle.pc_collab.specs.Merge.{IsMerge}
use Rattle.pc_collab.specs.Text.{journal_text}
use Rattle.pc_collab.proofs.Numbered.{numbered_push}
use Rattle.pc_collab.proofs.Whole.{one_in_journal}
use Rattle.pc_writer.specs.SheetText.{sheet_text}
use Rattle.pc_display.specs.Show.{IsShown}
use Rattle.pc_enough_laws.specs.Enough.{enough_for_all}
use Rattle.pc_gen.specs.Sheet.{generated_sheet}
use Rattle.pc_journal.specs.PostLines.{lines_of_posts}
use Rattle.pc_refusals.specs.declared.status.Status.{Status}
use Rattle.pc_refusals.specs.declared.status.Status.TheVariants.{Done, Usage, SheetRefused, Memory}
use Rattle.pc_transcript.specs.Answer.{answer_text}
use Rattle.pc_transcript.specs.Transcript.{Transcript, Legal, output_of, status_of}
use Rattle.pc_words.specs.Words.{merges, posts, demonstrates, IsNumber, FitsWords, usual_budget}
use Rattle.pc_spreadsheet.specs.Tasks.{State, IsLight}
use Rattle.pc_afresh_laws.specs.Afresh.{IsOpen, DumpsStartAgain}
use Rattle.pc_theorem.specs.Theorem.{Answers, RefusesSheet, IsSession, IsCutOff}
use Rattle.pc_theorem.specs.Journals.{EndsMerge, merges_both, finds_no_merge, EndsPosts, posts_answered, posts_no_sheet, finds_no_journal}
use Rattle.pc_theorem.specs.Demonstrations.{EndsDemonstration, demonstrates_all, has_too_little}
use Rattle.pc_theorem.specs.Examples.{KeepsPosts, Demonstrated, merge_words, demo_words}
use Rattle.pc_theorem.specs.WrongRuns.{posts_words, rich_demo_words, file_f, BrokenJournals, BrokenDemonstrations}
use Rattle.pc_theorem.proofs.Broken.{nothing_not_refused}
use Rattle.pc_theorem.proofs.BrokenSessions.{run_on, told, a_post, is_file_name, one_answer, first_byte, never_refused, one_digit, demo_ends}
use Rattle.pc_theorem.proofs.Clearing.{CommandsHaveOneReading}
use Rattle.pc_theorem.proofs.OtherDisplay.{answer_is}
use Rattle.pc_theorem.proofs.Worked.{show_word, the_post, one_post, no_post, no_numbers, text_is, IsNoEnd, one_merge}
use Rattle.pc_theorem.proofs.WrongChecks.{no_usage}
use Rattle.pc_theorem.proofs.WrongSessions.{no_cause, starts_at}

text_same : (x y : List ℕ) → Some x ≡ Some y → x ≡ y
text_same x y e = cc

-- ---- merges

merge_ends : (files : Files) (input printed : List ℕ) (status : Status) → (status ≡ Memory → ⊥) → ¬ IsCutOff status → KeepsPosts merge_words files input printed status → EndsMerge (run_on merge_words files input printed status) (codes "f")
merge_ends files input printed status other uncut keeps = elim (keeps (run_on merge_words files input printed status) (told merge_words files input printed status) uncut (record { mode = merges (codes "f"); budget = usual_budget }) (inl ((refl, is_file_name), refl))) [
  | inl e ↦ e
  | inr lacks ↦ absurd (other lacks.0)
]

-- another post of the same author and number
abbrev other_post : Post
other_post = record { author = 1; number = 1; stamp = 7; text = codes "dump" }

abbrev other_text : List ℕ
other_text = codes "post 1 1 7 : dump\n"

other_line : IsOneLine (codes "dump")
other_line =
    All-cons IsNoEnd 100 (codes "ump") (λ e. omega (arith, e), λ e. omega (arith, e)) (All-cons IsNoEnd 117 (codes "mp") (λ e. omega (arith, e), λ e. omega (arith, e))
    (All-cons IsNoEnd 109 (codes "p") (λ e. omega (arith, e), λ e. omega (arith, e)) (All-cons IsNoEnd 112 [] (λ e. omega (arith, e), λ e. omega (arith, e)) (All-nil IsNoEnd))))

short_text : length (codes "dump") ≡ 4
short_text = refl

is_post : IsPost other_post
is_post = record { author = (omega arith, omega arith); number = (omega arith, omega arith); stamp = (omega arith, omega arith); short = omega (arith, short_text); one_line = other_line }

one_long : length (other_post ∷ []) ≡ 1
one_long = refl

other_journal : IsJournal (other_post ∷ [])
other_journal = record {
  each = All-cons IsPost other_post [] is_post (All-nil IsPost);
  rise = λ i j d below within. absurd (omega (arith, below, within, one_long));
  numbered = numbered_push [] other_post no_numbers refl;
}

abbrev other_line_of : List ℕ → List ℕ → List ℕ → List ℕ
other_line_of author number stamp = (codes "post " ++ (author ++ (codes " " ++ (number ++ (codes " " ++ (stamp ++ (codes " : " ++ (codes "dump" ++ codes "\n")))))))) ++ []

other_text_is : other_text ≡ journal_text (other_post ∷ [])
other_text_is = sym (ap (λ a. other_line_of a (decimal 1) (decimal 7)) (decimal_digit 1 (omega arith)) ∙ ap (λ n. other_line_of (codes "1") n (decimal 7)) (decimal_digit 1 (omega arith)) ∙ ap (λ s. other_line_of (codes "1") (codes "1") s) (decimal_digit 7 (omega arith)))

abbrev text_of : Post → List ℕ
text_of p = p.text

differ : the_post ≡ other_post → ⊥
differ e = let bytes : 115 ≡ 100 = ap (λ (p : Post). first_byte (text_of p)) e in omega (arith, bytes)

module _ (back : JournalsReadBack) where
  merged_both : (one other both : List Post) (bytes : List ℕ) → Some a_post ≡ Some bytes → IsTextOf bytes one → IsTextOf other_text other → IsMerge one other both → ⊥
  merged_both one other both bytes found reads_one reads_other merge =
      let first : one ≡ the_post ∷ [] = back.alone a_post one (the_post ∷ []) (subst (λ (b : List ℕ). IsTextOf b one) (sym (text_same a_post bytes found)) reads_one) (record { journal = one_post; text = text_is }) in
      let second : other ≡ other_post ∷ [] = back.alone other_text other (other_post ∷ []) reads_other (record { journal = other_journal; text = other_text_is }) in
      let in_first : Contains one the_post = subst (λ (ps : List Post). Contains ps the_post) (sym first) (contains_first the_post []) in
      let in_second : Contains other other_post = subst (λ (ps : List Post). Contains ps other_post) (sym second) (contains_first other_post []) in
      differ (one_in_journal both merge.journal.numbered the_post other_post ((merge.posts the_post).1 (inl in_first)) ((merge.posts other_post).1 (inr in_second)) (record { author = refl; number = refl }))

  merged_differing : (printed : List ℕ) → EndsMerge (run_on merge_words (file_f a_post) other_text printed Done) (codes "f") → ⊥
  merged_differing printed (merges_both so is) = merged_both is.one is.other is.merged is.bytes is.found is.reads_one is.reads_other is.merge
  merged_differing printed (finds_no_merge so is) = absurd (cc)

not_merged : (printed : List ℕ) → EndsMerge (run_on merge_words (file_f a_post) [] printed SheetRefused) (codes "f") → ⊥
not_merged printed (merges_both so is) = absurd (cc)
not_merged printed (finds_no_merge so is) =
    is.none (the_post ∷ []) [] (the_post ∷ []) (subst (λ (b : List ℕ). IsTextOf b (the_post ∷ [])) (text_same a_post is.bytes is.found) (record { journal = one_post; text = text_is })) (record { journal = no_post; text = refl }) one_merge

-- ---- posts as commands

posts_end : (files : Files) (input printed : List ℕ) (status : Status) → (status ≡ Memory → ⊥) → ¬ IsCutOff status → KeepsPosts posts_words files input printed status → EndsPosts (run_on posts_words files input printed status) usual_budget (codes "f")
posts_end files input printed status other uncut keeps = elim (keeps (run_on posts_words files input printed status) (told posts_words files input printed status) uncut (record { mode = posts (codes "f"); budget = usual_budget }) (inl ((refl, is_file_name), refl))) [
  | inl e ↦ e
  | inr lacks ↦ absurd (other lacks.0)
]

-- an empty text is that of a journal without posts
no_posts : (journal : List Post) → IsTextOf [] journal → lines_of_posts journal ≡ show_word ∷ []
no_posts [] reads = refl
no_posts (p ∷ ps) reads = let none : [] ≡ journal_text (p ∷ ps) = reads.text in absurd (cc none)

module _ (read : CommandsHaveOneReading) (again : DumpsStartAgain) (sheet : Sheet) (display printed : List ℕ) (is : IsOpen sheet) (is_shown : IsShown sheet display) where
  session_shows : (text : List ℕ) (commands : List (List ℕ)) → Some (sheet_text sheet) ≡ Some text → commands ≡ show_word ∷ [] → IsSession (run_on posts_words (file_f (sheet_text sheet)) [] printed Done) usual_budget text commands → printed ≡ display
  session_shows text commands found one_line s =
      let at = starts_at again sheet text s.start is found s.starts in
      let one = one_answer s.transcript commands show_word s.lines_are one_line in
      let legal = subst (λ (t : Transcript). Legal Answers s.start t s.end) one.1 s.legal in
      s.printed_are ∙ ap output_of one.1 ∙ append-nil (answer_text one.0)
      ∙ answer_is read s.start legal.0 one.0 display (subst (λ (x : State). IsShown x.sheet display) (sym at) is_shown) legal.1 (s.status_is ∙ ap status_of one.1)

  posts_shown : EndsPosts (run_on posts_words (file_f (sheet_text sheet)) [] printed Done) usual_budget (codes "f") → printed ≡ display
  posts_shown (posts_answered text journal found reads s) = session_shows text (lines_of_posts journal) found (no_posts journal reads) s
  posts_shown (posts_no_sheet text why more so found refusing told_so) = absurd (cc)
  posts_shown (finds_no_journal text start so found starts none told_so) = absurd (cc)

posts_refused : TextsHaveOneOutcome → (sheet : Sheet) (journal : List Post) (text input printed : List ℕ) → ReadsAs text sheet → IsLight sheet → AreRulesConsistent sheet → enough_for_all sheet ≤ usual_budget → IsTextOf input journal
    → EndsPosts (run_on posts_words (file_f text) input printed SheetRefused) usual_budget (codes "f") → ⊥
posts_refused one_outcome sheet journal text input printed reads light consistent enough held (posts_answered taken other found reads_other s) = never_refused _ _ s.status_is
posts_refused one_outcome sheet journal text input printed reads light consistent enough held (posts_no_sheet taken why more so found refusing told_so) =
    no_cause one_outcome sheet text why more reads light consistent enough (subst (λ (x : List ℕ). RefusesSheet usual_budget x why more) (sym (text_same text taken found)) refusing)
posts_refused one_outcome sheet journal text input printed reads light consistent enough held (finds_no_journal taken start so found starts none told_so) = none journal held

posts_quiet : (files : Files) (input : List ℕ) → EndsPosts (run_on posts_words files input [] SheetRefused) usual_budget (codes "f") → ⊥
posts_quiet files input (posts_answered text journal found reads s) = never_refused _ _ s.status_is
posts_quiet files input (posts_no_sheet text why more so found refusing told_so) = let bytes : 0 ≡ 115 = ap first_byte told_so in omega (arith, bytes)
posts_quiet files input (finds_no_journal text start so found starts none told_so) = nothing_not_refused told_so.0 told_so.1

posts_on_none : (input printed : List ℕ) → EndsPosts (run_on posts_words [] input printed SheetRefused) usual_budget (codes "f") → ⊥
posts_on_none input printed (posts_answered text journal found reads s) = absurd (cc found)
posts_on_none input printed (posts_no_sheet text why more so found refusing told_so) = absurd (cc found)
posts_on_none input printed (finds_no_journal text start so found starts none told_so) = absurd (cc found)

pub broken_journals : CommandsHaveOneReading → DumpsStartAgain → TextsHaveOneOutcome → JournalsReadBack → BrokenJournals
broken_journals read again one_outcome back = record {
  merged_differing = λ printed keeps. merged_differing back printed (merge_ends (file_f a_post) other_text printed Done (λ e. absurd (cc)) (λ c. c) keeps);
  not_merged = λ printed keeps. not_merged printed (merge_ends (file_f a_post) [] printed SheetRefused (λ e. absurd (cc)) (λ c. c) keeps);
  posts_unshown = λ sheet display printed is is_shown other keeps. other (posts_shown read again sheet display printed is is_shown (posts_end (file_f (sheet_text sheet)) [] printed Done (λ e. absurd (cc)) (λ c. c) keeps));
  posts_refused = λ sheet journal text input printed reads light consistent enough held keeps.
      posts_refused one_outcome sheet journal text input printed reads light consistent enough held (posts_end (file_f text) input printed SheetRefused (λ e. absurd (cc)) (λ c. c) keeps);
  posts_quiet = λ files input keeps. posts_quiet files input (posts_end files input [] SheetRefused (λ e. absurd (cc)) (λ c. c) keeps);
  posts_on_none = λ input printed keeps. posts_on_none input printed (posts_end [] input printed SheetRefused (λ e. absurd (cc)) (λ c. c) keeps);
}

-- ---- demonstrations

abbrev rich : ℕ
rich = 1000000000000

many_digits : AllDigits 10 (codes "1000000000000")
many_digits = (omega arith, (omega arith, (omega arith, (omega arith, (omega arith, (omega arith, (omega arith, (omega arith, (omega arith, (omega arith, (omega arith, (omega arith, (omega arith, tt)))))))))))))

long_number : length (codes "1000000000000") ≡ 13
long_number = refl

rich_number : IsNumber 13 1000000000000 (codes "1000000000000") rich
rich_number = record { numeral = (omega (arith, long_number), many_digits); short = omega (arith, long_number); value = refl; some = omega arith; within = omega arith }

asks_richly : FitsWords rich_demo_words (record { mode = demonstrates 1; budget = rich })
asks_richly = inr (record {
  before = codes "demo" ∷ codes "1" ∷ [];
  option = codes "--budget" ∷ codes "1000000000000" ∷ [];
  after = [];
  all = refl;
  mode = (codes "1", refl, one_digit);
  takes = tt;
  budget = (codes "1000000000000", inl refl, rich_number);
})

number_is : enough_for_all (generated_sheet 1) ≡ 20920713642
number_is = refl

not_less : (n m : ℕ) → n ≤ m → m < n → ⊥
not_less n m within short = omega (arith, within, short)

is_enough : (n : ℕ) → n ≡ 20920713642 → n ≤ rich
is_enough n same = omega (arith, same)

spent_enough : (files : Files) (printed : List ℕ) → EndsDemonstration (run_on rich_demo_words files [] printed SheetRefused) rich 1 → ⊥
spent_enough files printed (demonstrates_all d) = never_refused _ _ d.status_is
spent_enough files printed (has_too_little counts so short placed told_so) = not_less (enough_for_all (generated_sheet 1)) rich (is_enough (enough_for_all (generated_sheet 1)) number_is) short

rich_ends : (files : Files) (printed : List ℕ) → Demonstrated rich_demo_words files [] printed SheetRefused → EndsDemonstration (run_on rich_demo_words files [] printed SheetRefused) rich 1
rich_ends files printed keeps = elim (keeps (run_on rich_demo_words files [] printed SheetRefused) (told rich_demo_words files [] printed SheetRefused) (λ c. c) 1 rich asks_richly) [
  | inl ends ↦ ends
  | inr lacks ↦ absurd (other lacks.0)
]
  where
    other : SheetRefused ≡ Memory → ⊥
    other e = absurd (cc)

usage_of_demo : (files : Files) (printed : List ℕ) → EndsDemonstration (run_on demo_words files [] printed Usage) usual_budget 1 → ⊥
usage_of_demo files printed (demonstrates_all d) = no_usage _ _ d.status_is
usage_of_demo files printed (has_too_little counts so short placed told_so) = absurd (cc)

pub broken_demonstrations : BrokenDemonstrations
broken_demonstrations = record {
  spent_enough = λ files printed keeps. spent_enough files printed (rich_ends files printed keeps);
  demo_usage = λ files printed keeps. usage_of_demo files printed (demo_ends files printed Usage keeps (λ e. absurd (cc)) (λ c. c));
}
