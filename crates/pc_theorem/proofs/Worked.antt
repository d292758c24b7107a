-- Runs that keep their word.
use Rattle.std.proofs.Common.{◌≡◌, ◌≢◌, ℕ, ◌<◌, List, [], ◌∷◌, ◌++◌, codes, length, Some, refl, sym, ◌∙◌, ap, subst, inl, inr, append-nil, arith}
use Rattle.std.proofs.lemmas.List.Elements.{All-nil, All-cons}
use Rattle.std.specs.Fmt.{decimal}
use Rattle.std.proofs.lemmas.Fmt.{decimal_digit}
use Rattle.pc_lemmas.proofs.Elements.{contains_none}
use Rattle.pc_port.specs.Shelf.{Files}
use Rattle.pc_lines.specs.Lines.{line_text_of}
use Rattle.pc_sheet.specs.Sheet.{Sheet}
use Rattle.pc_sheet.specs.declared.ids.Target.{Target}
use Rattle.pc_formula.specs.Word.{name}
use Rattle.pc_syntax.specs.Tree.{asks_show}
use Rattle.pc_syntax.specs.Command.{IsCommandReading, asks}
use Rattle.pc_canonical_laws.proofs.Cuts.{Cuts, done}
use Rattle.pc_canonical_laws.proofs.Cutting.{nothing, cut_name}
use Rattle.pc_canonical_laws.proofs.Lines.{cuts_to_end}
use Rattle.pc_name.proofs.Letters.{small_name}
use Rattle.pc_collab.specs.Journal.{Post, IsOneLine, IsPost, AreNumberedByAuthor, IsJournal}
use Rattle.pc_collab.proofs.Numbered.{numbered_push}
use Rattle.pc_collab.specs.Merge.{IsMerge}
use Rattle.pc_collab.specs.Text.{journal_text}
use Rattle.pc_writer.specs.SheetText.{sheet_text}
use Rattle.pc_display.specs.Show.{IsShown}
use Rattle.pc_display.specs.OneDisplay.{SheetHasOneDisplay}
use Rattle.pc_refusals.specs.declared.status.Status.{Status}
use Rattle.pc_refusals.specs.declared.status.Status.TheVariants.{Done}
use Rattle.pc_transcript.specs.Answer.{shown}
use Rattle.pc_words.specs.Words.{Mode, edits, merges, Request, FitsWords, usual_budget}
use Rattle.pc_words.specs.Laws.{WordsFitOneRequest}
use Rattle.pc_spreadsheet.specs.Tasks.{State, shows, lines_page, why_page, showing, IsTask}
use Rattle.pc_afresh_laws.specs.Afresh.{IsOpen, DumpsStartAgain}
use Rattle.pc_theorem.specs.Theorem.{KnownRun, Explains, page_shown, IsSession, answers_all, Ends, IsTold, EndsAsAsked, KeepsItsWord}
use Rattle.pc_theorem.specs.Journals.{IsMerged, merges_both, EndsJournals, KeepsJournals}
use Rattle.pc_theorem.specs.Examples.{told_outside, merge_words, edit_words, WorkedWords}
use Rattle.pc_theorem.proofs.BrokenSessions.{a_post, is_file_name}
use Rattle.pc_theorem.proofs.OneWord.{one_word}
use Rattle.pc_theorem.proofs.Pages.{the_text}

abbrev pub the_post : Post
the_post = record { author = 1; number = 1; stamp = 7; text = codes "show" }

abbrev the_files : Files
the_files = (codes "f", a_post) ∷ []

abbrev pub IsNoEnd : ℕ → Type 0
IsNoEnd b = (b ≢ 10) × (b ≢ 13)

is_one_line : IsOneLine (codes "show")
is_one_line =
    All-cons IsNoEnd 115 (codes "how") (λ e. omega (arith, e), λ e. omega (arith, e)) (All-cons IsNoEnd 104 (codes "ow") (λ e. omega (arith, e), λ e. omega (arith, e))
    (All-cons IsNoEnd 111 (codes "w") (λ e. omega (arith, e), λ e. omega (arith, e)) (All-cons IsNoEnd 119 [] (λ e. omega (arith, e), λ e. omega (arith, e)) (All-nil IsNoEnd))))

short_text : length (codes "show") ≡ 4
short_text = refl

is_post : IsPost the_post
is_post = record { author = (omega arith, omega arith); number = (omega arith, omega arith); stamp = (omega arith, omega arith); short = omega (arith, short_text); one_line = is_one_line }

pub no_numbers : AreNumberedByAuthor []
no_numbers author = refl

one_long : length (the_post ∷ []) ≡ 1
one_long = refl

pub one_post : IsJournal (the_post ∷ [])
one_post = record {
  each = All-cons IsPost the_post [] is_post (All-nil IsPost);
  rise = λ i j d below within. absurd (omega (arith, below, within, one_long));
  numbered = numbered_push [] the_post no_numbers refl;
}

pub no_post : IsJournal []
no_post = record { each = All-nil IsPost; rise = λ i j d below within. absurd (omega (arith, within)); numbered = no_numbers }

abbrev line_of : List ℕ → List ℕ → List ℕ → List ℕ
line_of author number stamp = (codes "post " ++ (author ++ (codes " " ++ (number ++ (codes " " ++ (stamp ++ (codes " : " ++ (codes "show" ++ codes "\n")))))))) ++ []

pub text_is : a_post ≡ journal_text (the_post ∷ [])
text_is = sym (ap (λ a. line_of a (decimal 1) (decimal 7)) (decimal_digit 1 (omega arith)) ∙ ap (λ n. line_of (codes "1") n (decimal 7)) (decimal_digit 1 (omega arith)) ∙ ap (λ s. line_of (codes "1") (codes "1") s) (decimal_digit 7 (omega arith)))

pub one_merge : IsMerge (the_post ∷ []) [] (the_post ∷ [])
one_merge = record { journal = one_post; posts = λ p. (λ there. inl there, λ either. elim either [ inl there ↦ there | inr none ↦ absurd (contains_none p none) ]) }

merged : IsMerged the_files (codes "f") [] a_post
merged = record {
  bytes = a_post;
  found = refl;
  one = the_post ∷ [];
  other = [];
  reads_one = record { journal = one_post; text = text_is };
  reads_other = record { journal = no_post; text = refl };
  merged = the_post ∷ [];
  merge = one_merge;
  told = text_is;
}

-- ---- the line `show`

abbrev pub show_word : List ℕ
show_word = codes "show"

cuts : Cuts show_word (name show_word ∷ [])
cuts = cuts_to_end show_word (name show_word ∷ []) (cut_name show_word [] [] (small_name _ _ refl refl refl) nothing done)

long : 0 < length show_word
long = omega arith

pub asks_to_show : IsCommandReading show_word (asks asks_show)
asks_to_show = one_word show_word cuts long (λ seen. absurd (cc)) (λ here. omega (arith, here)) asks_show (record { rest = []; words = refl; follows = refl })

abbrev pub show_line : List ℕ
show_line = codes "show\n"

-- ---- runs over told devices

-- such a run is worth what its one request ends in
module _ (one : WordsFitOneRequest) (words : List (List ℕ)) (files : Files) (input printed : List ℕ) (status : Status) (request : Request) (fits : FitsWords words request) where
  the_request : (EndsSo : KnownRun → ℕ → Mode → Type 0) (run : KnownRun) (other : Request) → FitsWords words other → EndsSo run request.budget request.mode → EndsSo run other.budget other.mode
  the_request EndsSo run other asked ends = subst (λ (q : Request). EndsSo run q.budget q.mode) (one words request other fits asked) ends

  abbrev the_run : KnownRun
  the_run = record { words = words; files = files; input = input; printed = printed; status = status }

  run_is : (run : KnownRun) → IsTold words status (told_outside files input []) (told_outside files [] printed) run → the_run ≡ run
  run_is run is =
      ap (λ (ws : List (List ℕ)). record { words = ws; files = files; input = input; printed = printed; status = status }) (sym is.words_are)
      ∙ ap (λ (fs : Files). record { words = run.words; files = fs; input = input; printed = printed; status = status }) (some_same files run.files is.files_are)
      ∙ ap (λ (i : List ℕ). record { words = run.words; files = run.files; input = i; printed = printed; status = status }) (bytes_same input run.input is.input_is)
      ∙ ap (λ (p : List ℕ). record { words = run.words; files = run.files; input = run.input; printed = p; status = status }) (bytes_same printed (is.earlier ++ run.printed) is.given_after ∙ ap (λ (xs : List ℕ). xs ++ run.printed) (sym (bytes_same [] is.earlier is.given_before)))
      ∙ ap (λ (s : Status). record { words = run.words; files = run.files; input = run.input; printed = run.printed; status = s }) (sym is.status_is)
    where
      some_same : (x y : Files) → Some x ≡ Some y → x ≡ y
      some_same x y e = cc

      bytes_same : (x y : List ℕ) → Some x ≡ Some y → x ≡ y
      bytes_same x y e = cc

  worth : Ends the_run request.budget request.mode → EndsAsAsked the_run
  worth ends = record {
    asked_for = λ other asked. inl (the_request Ends the_run other asked ends);
    unfit = λ none. absurd (none request fits);
  }

  keeps : Ends the_run request.budget request.mode → KeepsItsWord words status (told_outside files input []) (told_outside files [] printed)
  keeps ends run is uncut = subst EndsAsAsked (run_is run is) (worth ends)

  keeps_journals : EndsJournals the_run request.budget request.mode → KeepsJournals words status (told_outside files input []) (told_outside files [] printed)
  keeps_journals ends run is uncut other asked =
      inl (the_request EndsJournals run other (subst (λ ws. FitsWords ws other) is.words_are asked) (subst (λ r. EndsJournals r request.budget request.mode) (run_is run is) ends))

-- ---- a sheet that is shown

show_starts : DumpsStartAgain → SheetHasOneDisplay → (sheet : Sheet) (display : List ℕ) → IsOpen sheet → IsShown sheet display
    → IsSession (record { words = edit_words; files = (codes "f", sheet_text sheet) ∷ []; input = show_line; printed = display; status = Done }) usual_budget (sheet_text sheet) (show_line ∷ [])
show_starts again one_display sheet display is is_shown =
    let state : State = record { sheet = sheet; budget = usual_budget } in
    record {
      start = state;
      starts = (again sheet (sheet_text sheet) is refl).starts usual_budget;
      transcript = (show_line, shown display) ∷ [];
      end = state;
      legal = (state, page_shown lines_page display (asks_show, asks_to_show, showing) (the_text IsShown one_display.shown sheet display is is_shown), refl);
      lines_are = refl;
      printed_are = sym (append-nil display);
      status_is = refl;
    }

-- ---- and explained

module _ (again : DumpsStartAgain) (one_display : SheetHasOneDisplay) (sheet : Sheet) (t : Target) (display text line input : List ℕ) (is : IsOpen sheet) (is_shown : IsShown sheet display) where
  abbrev state : State
  state = record { sheet = sheet; budget = usual_budget }

  why_starts : IsTask state (line_text_of line) (shows (why_page t)) → Explains sheet t text → IsSession (record { words = edit_words; files = (codes "f", sheet_text sheet) ∷ []; input = input; printed = display ++ text; status = Done }) usual_budget (sheet_text sheet) (show_line ∷ line ∷ [])
  why_starts asked explains = record {
    start = state;
    starts = (again sheet (sheet_text sheet) is refl).starts usual_budget;
    transcript = (show_line, shown display) ∷ (line, shown text) ∷ [];
    end = state;
    legal = (state, page_shown lines_page display (asks_show, asks_to_show, showing) (the_text IsShown one_display.shown sheet display is is_shown), (state, page_shown (why_page t) text asked explains, refl));
    lines_are = refl;
    printed_are = ap (λ (xs : List ℕ). display ++ xs) (sym (append-nil text));
    status_is = refl;
  }

pub worked_words : WordsFitOneRequest → DumpsStartAgain → SheetHasOneDisplay → WorkedWords
worked_words one again one_display = record {
  merged = keeps_journals one merge_words the_files [] a_post Done (record { mode = merges (codes "f"); budget = usual_budget }) (inl ((refl, is_file_name), refl)) (merges_both refl merged);
  displayed = λ sheet display is is_shown.
      keeps one edit_words ((codes "f", sheet_text sheet) ∷ []) show_line display Done (record { mode = edits (codes "f"); budget = usual_budget }) (inl ((refl, is_file_name), refl))
      (answers_all (sheet_text sheet) (show_line ∷ []) refl refl (show_starts again one_display sheet display is is_shown));
  explained = λ sheet t display text line input is is_shown asked explains lines_are.
      keeps one edit_words ((codes "f", sheet_text sheet) ∷ []) input (display ++ text) Done (record { mode = edits (codes "f"); budget = usual_budget }) (inl ((refl, is_file_name), refl))
      (answers_all (sheet_text sheet) (show_line ∷ line ∷ []) refl (sym lines_are) (why_starts again one_display sheet t display text line input is is_shown asked explains));
}
