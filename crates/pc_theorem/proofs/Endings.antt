-- How runs end whose devices tell their bytes, in the words of the page: from what a run's status says of its events.
use Rattle.std.proofs.Common.{◌≡◌, ℕ, ◌≤◌, List, [], ◌∷◌, ◌++◌, codes, map, Option, Some, None, refl, sym, ◌∙◌, ap, subst, inl, inr, append_assoc, append-nil}
use Rattle.std.specs.Io.KnownBytes.{Consumes}
use Rattle.std.proofs.lemmas.List.Concat.{flat_map-append}
use Rattle.pc_port.specs.Shelf.{file_named}
use Rattle.pc_lines.specs.Lines.{lines_of}
use Rattle.pc_collab.specs.Journal.{Post}
use Rattle.pc_collab.specs.Reading.{IsTextOf, LineFault, bad_line, gap, out_of_order, IsFirstFaultOfJournal}
use Rattle.pc_collab.specs.ReadBack.{JournalsReadBack}
use Rattle.pc_collab.specs.Merge.{IsMerge, DifferFirstAt}
use Rattle.pc_collab.proofs.Whole.{one_in_journal}
use Rattle.pc_sortcheck.specs.Laws.{SheetsAreWellFormed}
use Rattle.pc_refusals.specs.declared.status.Status.TheVariants.{Done, SheetRefused}
use Rattle.pc_refusals.specs.declared.refusal.SheetRefusal.{SheetRefusal}
use Rattle.pc_refusals.specs.Refusals.{sheet_refusal_text}
use Rattle.pc_refusals.specs.Events.{Outside, Event, took_rest, gave, told, Happened}
use Rattle.pc_run_laws.specs.Flat.{taken_in, told_in, taken_of, EventsAddUp}
use Rattle.pc_transcript.specs.Answer.{answer_text}
use Rattle.pc_transcript.specs.Transcript.{Transcript, Legal, lines, input_of, output_of, status_of}
use Rattle.pc_transcript.specs.Course.{events_of, IsSheetTaken}
use Rattle.pc_journal.specs.Course.{answers_told}
use Rattle.pc_journal.specs.PostLines.{lines_of_posts}
use Rattle.pc_journal.specs.Told.{from_file, from_input, refused_text}
use Rattle.pc_words.specs.Words.{Mode, replays, merges, posts, demonstrates}
use Rattle.pc_gen.specs.Text.{generated_text}
use Rattle.pc_gen.specs.Sheet.{generated_sheet}
use Rattle.pc_demo.specs.Demonstration as demo
use Rattle.pc_demo.specs.Demonstration.{told_of}
use Rattle.pc_demo.specs.Summing.{clear_lines}
use Rattle.pc_spreadsheet.specs.Tasks.{State, Starts}
use Rattle.pc_spreadsheet.specs.Allowed.{Notes, Allows, RefusesText}
use Rattle.pc_afresh_laws.specs.Afresh.{IsOpen, StartsAreOpen, AnswersKeepOpen}
use Rattle.pc_run_laws.specs.Statuses as by_status
use Rattle.pc_run_laws.specs.Statuses.{AnswersAll, of_input, on_file, of_posts, of_blocks}
use Rattle.pc_theorem.specs.Theorem as page
use Rattle.pc_theorem.specs.Journals as journals
use Rattle.pc_theorem.specs.Journals.{EndsMerge, EndsPosts}
use Rattle.pc_theorem.specs.Theorem.{KnownRun, BeginsWith, IsSheetText, IsSession, Ends, Answers, RefusesSheet}
use Rattle.pc_theorem.proofs.Happenings.{split, taken_all, given_file, told-append}
use Rattle.pc_theorem.specs.Demonstrations.{without_firsts, EndsDemonstration, demonstrates_all, has_too_little}
use Rattle.pc_theorem.proofs.Quiet.{taken_is_quiet}
use Rattle.pc_theorem.proofs.Refused.{OnlySpent}

-- ---- a transcript as it is taken and printed

taken_of_lines : (t : Transcript) → taken_in (events_of t) ≡ input_of t
taken_of_lines [] = refl
taken_of_lines (pair ∷ more) = ap (λ (xs : List ℕ). pair.0 ++ xs) (taken_of_lines more)

told_of_lines : (t : Transcript) → told_in (events_of t) ≡ output_of t
told_of_lines [] = refl
told_of_lines (pair ∷ more) = ap (λ (xs : List ℕ). answer_text pair.1 ++ xs) (told_of_lines more)

told_of_answers : (t : Transcript) → told_in (answers_told t) ≡ output_of t
told_of_answers [] = refl
told_of_answers (pair ∷ more) = ap (λ (xs : List ℕ). answer_text pair.1 ++ xs) (told_of_answers more)

-- ---- faults of journals

fault_told : (place : List ℕ) (fault : LineFault) (line : ℕ) → BeginsWith (codes "journal refused ") (refused_text place fault line)
fault_told place bad_line line = (_, refl)
fault_told place gap line = (_, refl)
fault_told place out_of_order line = (_, refl)

-- journals that differ have no merge
differing : (a b merged : List Post) (author number : ℕ) → DifferFirstAt a b author number → ¬ IsMerge a b merged
differing a b merged author number first merge =
    let at = first.differ in
    at.differ (one_in_journal merged merge.journal.numbered at.one at.other ((merge.posts at.one).1 (inl at.in_first)) ((merge.posts at.other).1 (inr at.in_second)) at.namesakes)

-- ---- demonstrations

-- what all modes end in, those of other pages among them
abbrev pub AllEnds : KnownRun → ℕ → Mode → Type 0
AllEnds run budget (merges file) = EndsMerge run file
AllEnds run budget (posts file) = EndsPosts run budget file
AllEnds run budget (demonstrates blocks) = EndsDemonstration run budget blocks
AllEnds run budget mode = Ends run budget mode

-- how many blocks a demonstration has
abbrev pub HasFewBlocks : Mode → Type 0
HasFewBlocks (demonstrates blocks) = (1 ≤ blocks) × (blocks ≤ 256)
HasFewBlocks mode = Unit {0}

-- what is left where all lines are done, and what the generated sheet is refused for
abbrev pub FirstsAreCleared : Type 0
FirstsAreCleared = (blocks : ℕ) → blocks ≤ 256 → (old new : State × Notes) (t : Transcript) → IsOpen old.0.sheet → old.0.sheet ≡ generated_sheet blocks → lines t ≡ clear_lines blocks → Legal Allows old t new → status_of t ≡ Done → new.0.sheet ≡ without_firsts blocks

abbrev pub OnlySpentIsTold : Type 0
OnlySpentIsTold = (blocks : ℕ) → 1 ≤ blocks → blocks ≤ 256 → (budget : ℕ) (why : SheetRefusal) (more : List ℕ) (old new : Notes) → 1 ≤ budget → RefusesText budget (generated_text blocks) why more old new → OnlySpent blocks budget why more

told_of_pieces : (t : Transcript) → told_in (map (λ pair. told (told_of pair.1)) t) ≡ demo.told_in t
told_of_pieces [] = refl
told_of_pieces (pair ∷ more) = ap (λ (xs : List ℕ). told_of pair.1 ++ xs) (told_of_pieces more)

-- ---- what was taken first

front_of : (input xs : List ℕ) (m : Option (List ℕ)) → Consumes (Some input) m xs → (rest : List ℕ) × (input ≡ xs ++ rest)
front_of input xs None first = absurd first
front_of input xs (Some r) first = (r, first)

-- ---- a run

module _ (sums : EventsAddUp) (run : page.KnownRun) (before after : Outside) (kept : before.kept ≡ Some run.files) (known : before.input ≡ Some run.input) (events spare : List Event) (happened : Happened (events ++ spare) before after) (printed : run.printed ≡ told_in events) where
  happened_so : (es : List Event) → events ≡ es → Happened (es ++ spare) before after
  happened_so es is = subst (λ (xs : List Event). Happened (xs ++ spare) before after) is happened

  printed_so : (es : List Event) → events ≡ es → run.printed ≡ told_in es
  printed_so es is = printed ∙ ap told_in is

  -- what was told last, where nothing was told before
  pub printed_last : (earlier : List Event) (line : List ℕ) → events ≡ earlier ++ told line ∷ [] → told_in earlier ≡ [] → run.printed ≡ line
  printed_last earlier line is quiet =
      printed_so (earlier ++ told line ∷ []) is ∙ told-append earlier (told line ∷ []) ∙ ap (λ (xs : List ℕ). xs ++ told_in (told line ∷ [])) quiet ∙ append-nil line

  -- the file that the shelf gave
  pub file_is : (file text : List ℕ) (more : List Event) → events ≡ gave file text ∷ more → file_named file run.files ≡ Some text
  file_is file text more is = given_file file text (more ++ spare) run.files before after (happened_so (gave file text ∷ more) is) kept

  -- the input that was taken behind it, to its end
  pub rest_is : (file text input : List ℕ) (more : List Event) → events ≡ gave file text ∷ took_rest input ∷ more → run.input ≡ input
  rest_is file text input more is = taken_all sums (gave file text ∷ []) (more ++ spare) run.input input before after (happened_so (gave file text ∷ took_rest input ∷ more) is) known

  -- the sheet's text in front of the input
  sheet_text : (text : List ℕ) (taken more : List Event) → IsSheetTaken text taken → events ≡ taken ++ more → IsSheetText run replays text
  sheet_text text taken more is_taken is = elim is_taken.ends [
    | inl w ↦
        let two = split taken (more ++ spare) before after all in
        let eaten : Consumes before.input two.0.input (taken_in taken) = sums.taken taken before two.0 two.1 in
        let f = front_of run.input (taken_in taken) two.0.input (subst (λ (i : Option (List ℕ)). Consumes i two.0.input (taken_in taken)) known eaten) in
        (f.0, f.1 ∙ ap (λ (xs : List ℕ). xs ++ f.0) (ap taken_in w.2 ∙ append-nil text), record { earlier = is_taken.earlier; last = is_taken.last; is = is_taken.is; others = is_taken.others; ends = inl (w.0, w.1) })
    | inr w ↦
        let whole = taken_all sums [] (more ++ spare) run.input text before after (subst (λ (xs : List Event). Happened (xs ++ (more ++ spare)) before after) w.1 all) known in
        ([], whole ∙ sym (append-nil text), record { earlier = is_taken.earlier; last = is_taken.last; is = is_taken.is; others = is_taken.others; ends = inr (w.0, refl) })
  ]
    where
      all : Happened (taken ++ (more ++ spare)) before after
      all = subst (λ (xs : List Event). Happened xs before after) (append_assoc taken more spare) (happened_so (taken ++ more) is)

  -- what was taken in front of the lines, and with them
  taken_front : (text : List ℕ) (taken : List Event) → IsSheetTaken text taken → taken_in taken ≡ text
  taken_front text taken is_taken = elim is_taken.ends [
    | inl w ↦ ap taken_in w.2 ∙ append-nil text
    | inr w ↦ ap taken_in w.1 ∙ append-nil text
  ]

  lines_input : (text : List ℕ) (taken : List Event) (t : Transcript) → IsSheetTaken text taken → events ≡ taken ++ (events_of t ++ took_rest [] ∷ []) → run.input ≡ text ++ input_of t
  lines_input text taken t is_taken is =
      taken_all sums (taken ++ events_of t) spare run.input [] before after all known ∙ append-nil (taken_in (taken ++ events_of t)) ∙ flat_map-append taken_of taken (events_of t)
      ∙ ap (λ (xs : List ℕ). xs ++ taken_in (events_of t)) (taken_front text taken is_taken) ∙ ap (λ (xs : List ℕ). text ++ xs) (taken_of_lines t)
    where
      joined : (taken ++ (events_of t ++ took_rest [] ∷ [])) ++ spare ≡ (taken ++ events_of t) ++ took_rest [] ∷ spare
      joined = ap (λ (xs : List Event). xs ++ spare) (sym (append_assoc taken (events_of t) (took_rest [] ∷ []))) ∙ append_assoc (taken ++ events_of t) (took_rest [] ∷ []) spare

      all : Happened ((taken ++ events_of t) ++ took_rest [] ∷ spare) before after
      all = subst (λ (xs : List Event). Happened xs before after) joined (happened_so (taken ++ (events_of t ++ took_rest [] ∷ [])) is)

  file_input : (file text : List ℕ) (t : Transcript) → events ≡ gave file text ∷ (events_of t ++ took_rest [] ∷ []) → run.input ≡ input_of t
  file_input file text t is =
      taken_all sums (gave file text ∷ events_of t) spare run.input [] before after all known ∙ append-nil (taken_in (events_of t)) ∙ taken_of_lines t
    where
      all : Happened ((gave file text ∷ events_of t) ++ took_rest [] ∷ spare) before after
      all = subst (λ (xs : List Event). Happened xs before after) (append_assoc (gave file text ∷ events_of t) (took_rest [] ∷ []) spare) (happened_so (gave file text ∷ (events_of t ++ took_rest [] ∷ [])) is)

  told_by_lines : (t : Transcript) → told_in (events_of t ++ took_rest [] ∷ []) ≡ output_of t
  told_by_lines t = told-append (events_of t) (took_rest [] ∷ []) ∙ append-nil (told_in (events_of t)) ∙ told_of_lines t

  -- ---- sessions

  module _ (first : StartsAreOpen) (keep : AnswersKeepOpen) (formed : SheetsAreWellFormed) (answered : (old new : State × Notes) (t : Transcript) → IsOpen old.0.sheet → 1 ≤ old.0.budget → Legal Allows old t new → Legal Answers old.0 t new.0) (refused : (budget : ℕ) (text : List ℕ) (why : SheetRefusal) (more : List ℕ) (old new : Notes) → 1 ≤ budget → RefusesText budget text why more old new → RefusesSheet budget text why more) (back : JournalsReadBack) (clears : FirstsAreCleared) (only_spent : OnlySpentIsTold) (budget : ℕ) (some : 1 ≤ budget) (notes noted : Notes) where
    session : (t : Transcript) (text : List ℕ) (commands : List (List ℕ)) (start end : State) → run.status ≡ status_of t → Starts budget text start → Legal Allows (start, notes) t (end, noted) → lines t ≡ commands → run.printed ≡ output_of t → IsSession run budget text commands
    session t text commands start end status starts legal lines_are told_so = record {
      start = start;
      starts = starts;
      transcript = t;
      end = end;
      legal = answered (start, notes) (end, noted) t (first budget text start starts) (subst (λ (n : ℕ). 1 ≤ n) (sym starts.budget) some) legal;
      lines_are = lines_are;
      printed_are = told_so;
      status_is = status;
    }

    -- all lines of the mode were answered
    pub answers_all : (mode : Mode) (t : Transcript) → HasFewBlocks mode → run.status ≡ status_of t → AnswersAll budget notes noted events t mode → AllEnds run budget mode
    answers_all mode t few_blocks status (of_input text taken start end is_taken starts input is) =
        page.answers_all text (lines_of (input_of t)) (sheet_text text taken (events_of t ++ took_rest [] ∷ []) is_taken is) (input_of t, lines_input text taken t is_taken is, refl)
        (session t text (lines_of (input_of t)) start end status starts input.legal input.all
        (printed_so (taken ++ (events_of t ++ took_rest [] ∷ [])) is ∙ told-append taken (events_of t ++ took_rest [] ∷ []) ∙ ap (λ (xs : List ℕ). xs ++ told_in (events_of t ++ took_rest [] ∷ [])) (taken_is_quiet text taken is_taken) ∙ told_by_lines t))
    answers_all mode t few_blocks status (on_file file text start end small starts input is) =
        page.answers_all text (lines_of run.input) (file_is file text (events_of t ++ took_rest [] ∷ []) is) refl
        (session t text (lines_of run.input) start end status starts input.legal (input.all ∙ ap lines_of (sym (file_input file text t is))) (printed_so (gave file text ∷ (events_of t ++ took_rest [] ∷ [])) is ∙ told_by_lines t))
    answers_all mode t few_blocks status (of_posts file text journal a start end small starts few reads legal lines_are is) =
        journals.posts_answered text a (file_is file text (took_rest journal ∷ answers_told t) is) (subst (λ (i : List ℕ). IsTextOf i a) (sym (rest_is file text journal (answers_told t) is)) reads)
        (session t text (lines_of_posts a) start end status starts legal lines_are (printed_so (gave file text ∷ (took_rest journal ∷ answers_told t)) is ∙ told_of_answers t))
    answers_all mode t few_blocks status (of_blocks blocks start end loaded cleared loads answers sums_up is) =
        demonstrates_all (record {
          start = start;
          starts = loads.starts;
          generated = loads.sheet;
          transcript = t;
          end = end;
          legal = answered (start, notes) (end, noted) t (first budget (generated_text blocks) start loads.starts) (subst (λ (n : ℕ). 1 ≤ n) (sym loads.starts.budget) some) answers.legal;
          lines_are = answers.lines_are;
          loaded = loaded;
          sums = loads.sums;
          cleared = cleared;
          sums_after = sums_up;
          printed_are = printed_so _ is ∙ told_so;
          status_is = status;
          all_cleared = λ done. clears blocks few_blocks.1 (start, notes) (end, noted) t (first budget (generated_text blocks) start loads.starts) loads.sheet answers.lines_are answers.legal (sym status ∙ done);
        })
      where
        pieces : List Event
        pieces = map (λ pair. told (told_of pair.1)) t

        told_so : told_in ((told loaded ∷ pieces) ++ told cleared ∷ []) ≡ loaded ++ (demo.told_in t ++ cleared)
        told_so =
            ap (λ (xs : List ℕ). loaded ++ xs) (told-append pieces (told cleared ∷ []) ∙ ap (λ (xs : List ℕ). told_in pieces ++ xs) (append-nil cleared) ∙ ap (λ (xs : List ℕ). xs ++ cleared) (told_of_pieces t))

    -- the sheet, or a journal, is refused
    module _ (status : run.status ≡ SheetRefused) (earlier : List Event) (line : List ℕ) (ends_so : events ≡ earlier ++ told line ∷ []) where
      refused_file : (file text : List ℕ) → earlier ≡ gave file text ∷ [] → (file_named file run.files ≡ Some text) × (run.printed ≡ line)
      refused_file file text is = (
        file_is file text (told line ∷ []) (ends_so ∙ ap (λ (es : List Event). es ++ told line ∷ []) is),
        printed_last earlier line ends_so (ap told_in is),
      )

      refused_both : (file text input : List ℕ) → earlier ≡ gave file text ∷ took_rest input ∷ [] → (file_named file run.files ≡ Some text) × (run.input ≡ input) × (run.printed ≡ line)
      refused_both file text input is =
          let whole = ends_so ∙ ap (λ (es : List Event). es ++ told line ∷ []) is in
          (file_is file text (took_rest input ∷ told line ∷ []) whole, rest_is file text input (told line ∷ []) whole, printed_last earlier line ends_so (ap told_in is))

      no_journal : (journal : List ℕ) (number : ℕ) (fault : LineFault) → IsFirstFaultOfJournal journal number fault → run.input ≡ journal → (held : List Post) → ¬ IsTextOf run.input held
      no_journal journal number fault at same held reads = back.sound journal held number fault (subst (λ (i : List ℕ). IsTextOf i held) same reads) at

      told_of_input : (fault : LineFault) (number : ℕ) → run.printed ≡ refused_text from_input fault number → BeginsWith (codes "journal refused ") run.printed
      told_of_input fault number told_so = subst (BeginsWith (codes "journal refused ")) (sym told_so) (fault_told from_input fault number)

      pub refuses_all : (mode : Mode) → HasFewBlocks mode → by_status.RefusesSheet budget notes noted earlier line mode → AllEnds run budget mode
      refuses_all mode few_blocks (by_status.refuses_input text why more is_taken refuses line_is) =
          page.refuses text why more status (sheet_text text earlier (told line ∷ []) is_taken ends_so) (refused budget text why more notes noted some refuses) (printed_last earlier line ends_so (taken_is_quiet text earlier is_taken) ∙ line_is)
      refuses_all mode few_blocks (by_status.refuses_file file text why more small refuses is line_is) =
          let f = refused_file file text is in
          page.refuses text why more status f.0 (refused budget text why more notes noted some refuses) (f.1 ∙ line_is)
      refuses_all mode few_blocks (by_status.refuses_to_post file text why more small refuses is line_is) =
          let f = refused_file file text is in
          journals.posts_no_sheet text why more status f.0 (refused budget text why more notes noted some refuses) (f.1 ∙ line_is)
      refuses_all mode few_blocks (by_status.refuses_blocks blocks why more refuses is line_is) =
          let o = only_spent blocks few_blocks.0 few_blocks.1 budget why more notes noted some refuses in
          has_too_little o.counts status o.short o.placed_all
          (printed_last earlier line ends_so (ap told_in is) ∙ line_is ∙ ap (λ (xs : List ℕ). sheet_refusal_text why ++ xs) o.nothing_more ∙ append-nil (sheet_refusal_text why) ∙ ap sheet_refusal_text o.why_is)
      refuses_all mode few_blocks (by_status.refuses_to_check file text why small has none is line_is same) =
          let f = refused_file file text is in
          page.finds_no_sheet status (record { bytes = text; found = f.0; none = none; why = why; fault = has; told = f.1 ∙ line_is })
      refuses_all mode few_blocks (by_status.no_journal_of_file file text number fault small at is line_is same) =
          let f = refused_file file text is in
          journals.finds_no_merge status (record {
            bytes = text;
            found = f.0;
            none = λ one other merged reads other_reads merge. back.sound text one number fault reads at;
            told = subst (BeginsWith (codes "journal refused ")) (sym (f.1 ∙ line_is)) (fault_told from_file fault number);
          })
      refuses_all mode few_blocks (by_status.no_journal_to_merge file text journal number fault small at is line_is same) =
          let f = refused_both file text journal is in
          journals.finds_no_merge status (record { bytes = text; found = f.0; none = λ one other merged reads other_reads merge. no_journal journal number fault at f.1 other other_reads; told = told_of_input fault number (f.2 ∙ line_is) })
      refuses_all mode few_blocks (by_status.no_journal_to_post file text journal start number fault small starts few at is line_is same) =
          let f = refused_both file text journal is in
          journals.finds_no_journal text start status f.0 starts (no_journal journal number fault at f.1) (told_of_input fault number (f.2 ∙ line_is))
      refuses_all mode few_blocks (by_status.refuses_both file text journal a b author number reads other differ is line_is same) =
          let f = refused_both file text journal is in
          journals.finds_no_merge status (record {
            bytes = text;
            found = f.0;
            none = λ x y merged read_x read_y merge.
                differing a b merged author number differ
                (subst (λ (z : List Post). IsMerge a z merged) (back.alone journal y b (subst (λ (i : List ℕ). IsTextOf i y) f.1 read_y) other) (subst (λ (z : List Post). IsMerge z y merged) (back.alone text x a read_x reads) merge));
            told = subst (BeginsWith (codes "journal refused ")) (sym (f.2 ∙ line_is)) (_, refl);
          })
