-- Every run keeps its word.
use Rattle.std.proofs.Common.{◌≡◌, ◌⊎◌, ℕ, ◌≤◌, Bool, true, false, List, [], ◌∷◌, ◌++◌, codes, Some, refl, sym, ◌∙◌, ap, subst, inl, inr, append-nil}
use Rattle.std.specs.Io.KnownBytes.{Appends}
use Rattle.pc_sheet.specs.Sheet.{Sheet}
use Rattle.pc_collab.specs.Reading.{IsTextOf}
use Rattle.pc_collab.specs.ReadBack.{JournalsReadBack}
use Rattle.pc_sortcheck.specs.Declaring.{ReadsAs}
use Rattle.pc_sortcheck.specs.Laws.{SheetsAreWellFormed}
use Rattle.pc_refusals.specs.declared.status.Status.{Status}
use Rattle.pc_refusals.specs.declared.status.Status.TheVariants.{Done, SomeRefused, SheetRefused, Usage, ReadFault, WriteFault, Memory, TooLong, CertRefused}
use Rattle.pc_refusals.specs.declared.refusal.SheetRefusal.{SheetRefusal}
use Rattle.pc_refusals.specs.Endings.{memory_text, sheet_memory_text}
use Rattle.pc_refusals.specs.Events.{Outside, Event, took_rest, gave, told, Happened}
use Rattle.pc_refusals.specs.Runs.{nothing}
use Rattle.pc_run_laws.specs.Flat.{told_in, EventsAddUp}
use Rattle.pc_transcript.specs.Transcript.{Transcript, Legal, worse_of, status_of}
use Rattle.pc_judge.specs.AcceptedText.{IsAcceptedText}
use Rattle.pc_judge.specs.Judged.{judged_text}
use Rattle.pc_judge.specs.Laws.{AcceptedTextIsAccepts, JudgementsAreOne}
use Rattle.pc_load.specs.Laws.{TextsHaveOneOutcome}
use Rattle.pc_words.specs.Words.{Mode, replays, edits, checks, merges, posts, demonstrates, AreOfMode, Request, FitsWords, FitNothing}
use Rattle.pc_words.specs.Laws.{WordsFitOneRequest}
use Rattle.pc_spreadsheet.specs.Tasks.{State}
use Rattle.pc_spreadsheet.specs.Allowed.{Notes, Allows, RefusesText}
use Rattle.pc_afresh_laws.specs.Afresh.{IsOpen, StartsAreOpen, AnswersKeepOpen}
use Rattle.pc_replay.specs.Course.{usage_text, Runs}
use Rattle.pc_run_laws.proofs.Running.{some_budget}
use Rattle.pc_run_laws.specs.Statuses as by_status
use Rattle.pc_run_laws.specs.Statuses.{DoneIsSo, SomeAreRefused, SheetsAreRefused}
use Rattle.pc_run_laws.specs.ByStatus.{UsageIsOfWords, WordsAreTold, IsRefusedCertificate, CertificatesAreRefused, WantsMemory, at_words, at_sheet, at_certificate, at_journal, at_line, MemoryIsWanted}
use Rattle.pc_theorem.specs.Theorem as page
use Rattle.pc_theorem.specs.Journals.{EndsJournals, merges_both}
use Rattle.pc_theorem.specs.Theorem.{KnownRun, IsProved, Answers, RefusesSheet, Ends, LacksMemory, EndsAsAsked, IsTold, IsCutOff}
use Rattle.pc_theorem.specs.Laws.{RunsKeepTheirWord}
use Rattle.pc_theorem.proofs.Happenings.{front_cancels, printed_is, given_file, taken_all}
use Rattle.pc_theorem.proofs.Quiet.{check_needs, course_needs}
use Rattle.pc_theorem.proofs.Endings.{AllEnds, HasFewBlocks, FirstsAreCleared, OnlySpentIsTold, printed_last, file_is, rest_is, answers_all, refuses_all}
use Rattle.pc_theorem.proofs.Checked.{told_refused, no_other, refused_is_not_accepted}

-- ---- statuses

all_well : (b c : Bool) → b ≡ false → c ≡ false → Done ≡ worse_of b c
all_well true c no_want none = absurd (cc)
all_well false true no_want none = absurd (cc)
all_well false false no_want none = refl

some_refused : (b c : Bool) → b ≡ false → c ≡ true → SomeRefused ≡ worse_of b c
some_refused true c no_want some = absurd (cc)
some_refused false false no_want some = absurd (cc)
some_refused false true no_want some = refl

some_wanting : (b c : Bool) → b ≡ true → Memory ≡ worse_of b c
some_wanting false c want = absurd (cc)
some_wanting true c want = refl

-- ---- the whole

-- what was asked for, and how it ended
record Ended (words : List (List ℕ)) (run : KnownRun) : Type 0 where
  request : Request
  fits : FitsWords words request
  ends : AllEnds run request.budget request.mode

-- how many blocks the words ask for
of_mode : (words : List (List ℕ)) (mode : Mode) → AreOfMode words mode → HasFewBlocks mode
of_mode words replays are = tt
of_mode words (edits file) are = tt
of_mode words (checks file) are = tt
of_mode words (merges file) are = tt
of_mode words (posts file) are = tt
of_mode words (demonstrates blocks) are = (are.2.some, are.2.within)

few_blocks : (words : List (List ℕ)) (request : Request) → FitsWords words request → HasFewBlocks request.mode
few_blocks words request (inl fit) = of_mode words request.mode fit.0
few_blocks words request (inr fit) = of_mode (fit.before ++ fit.after) request.mode fit.mode

-- what each page says of its modes
page_ends : (run : KnownRun) (budget : ℕ) (mode : Mode) → AllEnds run budget mode → Ends run budget mode
page_ends run budget replays ends = ends
page_ends run budget (edits file) ends = ends
page_ends run budget (checks file) ends = ends
page_ends run budget (merges file) ends = tt
page_ends run budget (posts file) ends = tt
page_ends run budget (demonstrates blocks) ends = tt

journals_end : (run : KnownRun) (budget : ℕ) (mode : Mode) → AllEnds run budget mode → EndsJournals run budget mode
journals_end run budget replays ends = tt
journals_end run budget (edits file) ends = tt
journals_end run budget (checks file) ends = tt
journals_end run budget (merges file) ends = ends
journals_end run budget (posts file) ends = ends
journals_end run budget (demonstrates blocks) ends = tt

-- what lines are answered, and what sheets are refused for
abbrev pub LinesAreAnswered : Type 0
LinesAreAnswered = (old new : State × Notes) (t : Transcript) → IsOpen old.0.sheet → 1 ≤ old.0.budget → Legal Allows old t new → Legal Answers old.0 t new.0

abbrev pub SheetsAreRefusedSo : Type 0
SheetsAreRefusedSo = (budget : ℕ) (text : List ℕ) (why : SheetRefusal) (more : List ℕ) (old new : Notes) → 1 ≤ budget → RefusesText budget text why more old new → RefusesSheet budget text why more

-- what is accepted is so
abbrev pub AcceptedIsProved : Type 0
AcceptedIsProved = (sheet : Sheet) (bytes text : List ℕ) → ReadsAs bytes sheet → IsAcceptedText sheet text → IsProved sheet text

module _ (sums : EventsAddUp) (one : WordsFitOneRequest) (first : StartsAreOpen) (keep : AnswersKeepOpen) (formed : SheetsAreWellFormed) (back : JournalsReadBack) (one_outcome : TextsHaveOneOutcome) (accepts : AcceptedTextIsAccepts) (one_verdict : JudgementsAreOne) where
  module _ (answered : LinesAreAnswered) (refused : SheetsAreRefusedSo) (proved : AcceptedIsProved) (clears : FirstsAreCleared) (only_spent : OnlySpentIsTold) where
    module _ (words : List (List ℕ)) (status : Status) (notes noted : Notes) (before after : Outside) (runs : Runs words status notes noted before after) (run : KnownRun) (is : IsTold words status before after run) where
      events : List Event
      events = runs.2.events

      printed : run.printed ≡ told_in runs.2.events
      printed = printed_is sums words status before after run is runs.0 runs.2.events runs.2.spare runs.2.is_spare runs.2.happened

      last_line : (earlier : List Event) (line : List ℕ) → runs.2.events ≡ earlier ++ told line ∷ [] → told_in earlier ≡ [] → run.printed ≡ line
      last_line earlier line ends_so quiet = printed_last sums run before after is.files_are is.input_is runs.2.events runs.2.spare runs.2.happened printed earlier line ends_so quiet

      lines_answered : (request : Request) (t : Transcript) → FitsWords words request → status ≡ status_of t → by_status.AnswersAll request.budget notes noted runs.2.events t request.mode → Ended words run
      lines_answered request t fits status_so all = record {
        request = request;
        fits = fits;
        ends = answers_all sums run before after is.files_are is.input_is runs.2.events runs.2.spare runs.2.happened printed first keep formed answered refused back clears only_spent request.budget (some_budget words request fits) notes noted request.mode t (few_blocks words request fits) (is.status_is ∙ status_so) all;
      }

      -- ---- a certificate that is accepted, and journals that are merged

      done : status ≡ Done → by_status.IsDone words notes noted runs.2.events → Ended words run
      done so (by_status.answered request t fits all none_refused none_wanting) = lines_answered request t fits (so ∙ all_well _ _ none_wanting none_refused) all
      done so (by_status.accepted request file text certificate sheet fits mode small reads few judged events_are same) =
          let found = file_is sums run before after is.files_are is.input_is runs.2.events runs.2.spare runs.2.happened printed file text _ events_are in
          let input = rest_is sums run before after is.files_are is.input_is runs.2.events runs.2.spare runs.2.happened printed file text certificate _ events_are in
          let accepted = subst (IsAcceptedText sheet) (sym input) ((accepts sheet certificate).0 judged) in
          record {
            request = request;
            fits = fits;
            ends = subst (AllEnds run request.budget) (sym mode) (page.accepts (is.status_is ∙ so) (record {
              bytes = text;
              found = found;
              sheet = sheet;
              reads = reads;
              only = λ other also. no_other one_outcome text sheet other reads also;
              accepted = accepted;
              proved = proved sheet text run.input reads accepted;
              told = printed ∙ ap told_in events_are ∙ append-nil _;
            }));
          }
      done so (by_status.merged request file text journal a b both fits mode small reads few other merge events_are same) =
          let found = file_is sums run before after is.files_are is.input_is runs.2.events runs.2.spare runs.2.happened printed file text _ events_are in
          let input = rest_is sums run before after is.files_are is.input_is runs.2.events runs.2.spare runs.2.happened printed file text journal _ events_are in
          record {
            request = request;
            fits = fits;
            ends = subst (AllEnds run request.budget) (sym mode) (merges_both (is.status_is ∙ so) (record {
              bytes = text;
              found = found;
              one = a;
              other = b;
              reads_one = reads;
              reads_other = subst (λ (i : List ℕ). IsTextOf i b) (sym input) other;
              merged = both;
              merge = merge;
              told = printed ∙ ap told_in events_are ∙ append-nil _;
            }));
          }

      sheet_refused : status ≡ SheetRefused → by_status.IsSheetRefused words notes noted runs.2.events → Ended words run
      sheet_refused so r = record {
        request = r.request;
        fits = r.fits;
        ends = refuses_all sums run before after is.files_are is.input_is runs.2.events runs.2.spare runs.2.happened printed first keep formed answered refused back clears only_spent r.request.budget (some_budget words r.request r.fits) notes noted (is.status_is ∙ so) r.earlier r.line r.events_are r.request.mode (few_blocks words r.request r.fits) r.refuses;
      }

      -- ---- a certificate that is refused

      certificate_refused : status ≡ CertRefused → IsRefusedCertificate words notes noted before after → Ended words run
      certificate_refused so r =
          let output : after.output ≡ r.last.output = ap (λ (o : Outside). o.output) r.else_same in
          let at_last : IsTold words status before r.last run = record { words_are = is.words_are; status_is = is.status_is; files_are = is.files_are; input_is = is.input_is; earlier = is.earlier; given_before = is.given_before; given_after = sym output ∙ is.given_after } in
          let whole = subst (λ (es : List Event). Happened es before r.last) (sym (append-nil (gave r.file r.text ∷ took_rest r.certificate ∷ told (judged_text r.sheet r.what) ∷ []))) r.happened in
          let printed_so = printed_is sums words status before r.last run at_last 0 (gave r.file r.text ∷ took_rest r.certificate ∷ told (judged_text r.sheet r.what) ∷ []) [] nothing whole ∙ append-nil (judged_text r.sheet r.what) in
          let input = taken_all sums (gave r.file r.text ∷ []) (told (judged_text r.sheet r.what) ∷ []) run.input r.certificate before r.last r.happened is.input_is in
          record {
            request = r.request;
            fits = r.fits;
            ends = subst (AllEnds run r.request.budget) (sym r.is_check) (page.declines (is.status_is ∙ so) (record {
              bytes = r.text;
              found = given_file r.file r.text (took_rest r.certificate ∷ told (judged_text r.sheet r.what) ∷ []) run.files before r.last r.happened is.files_are;
              sheet = r.sheet;
              reads = r.reads;
              only = λ other also. no_other one_outcome r.text r.sheet other r.reads also;
              refused = subst (λ (x : List ℕ). ¬ IsAcceptedText r.sheet x) (sym input) (refused_is_not_accepted formed accepts one_verdict r.sheet r.text r.certificate r.what r.reads (sym r.refuses) r.judged);
              told = subst (page.BeginsWith (codes "refused ")) (sym printed_so) (told_refused r.sheet r.what (sym r.refuses));
            }));
          }

      -- ---- memory

      wanting : status ≡ Memory → WantsMemory words notes noted runs.2.events → Ended words run ⊎ LacksMemory run
      wanting so (at_words some ends_so same) = inr (is.status_is ∙ so, inl (last_line [] memory_text ends_so refl))
      wanting so (at_sheet request earlier fits course ends_so) = inr (is.status_is ∙ so, inr (last_line earlier sheet_memory_text ends_so (course_needs request.mode request.budget notes noted earlier sheet_memory_text course)))
      wanting so (at_certificate request file earlier fits mode check ends_so same) = inr (is.status_is ∙ so, inl (last_line earlier memory_text ends_so (check_needs file earlier memory_text check)))
      wanting so (at_journal request earlier fits takes course ends_so) = inr (is.status_is ∙ so, inl (last_line earlier memory_text ends_so (course_needs request.mode request.budget notes noted earlier memory_text course)))
      wanting so (at_line w) = inl (lines_answered w.request w.t w.fits (so ∙ some_wanting _ _ w.some_wanting) w.answered)

      -- ---- all statuses

      module _ (on_done : DoneIsSo) (on_some : SomeAreRefused) (on_sheet : SheetsAreRefused) (on_certificate : CertificatesAreRefused) (on_memory : MemoryIsWanted) (on_usage : UsageIsOfWords) (on_unfit : WordsAreTold) (whole : ¬ IsCutOff run.status) where
        cut : (s : Status) → IsCutOff s → status ≡ s → ⊥
        cut s cut_off so = whole (subst IsCutOff (sym (is.status_is ∙ so)) cut_off)

        found : (s : Status) → status ≡ s → (Ended words run ⊎ LacksMemory run) ⊎ FitNothing words
        found Done so = inl (inl (done so (on_done words status notes noted before after runs so)))
        found SomeRefused so = let r = on_some words status notes noted before after runs so in inl (inl (lines_answered r.request r.t r.fits (so ∙ some_refused _ _ r.none_wanting r.some_refused) r.answered))
        found Usage so = inr (on_usage words status notes noted before after runs so).fit_nothing
        found SheetRefused so = inl (inl (sheet_refused so (on_sheet words status notes noted before after runs so)))
        found ReadFault so = absurd (cut ReadFault tt so)
        found WriteFault so = absurd (cut WriteFault tt so)
        found Memory so = inl (wanting so (on_memory words status notes noted before after runs so))
        found TooLong so = absurd (cut TooLong tt so)
        found CertRefused so = inl (inl (certificate_refused so (on_certificate words status notes noted before after runs so)))

        all_ends : (request : Request) → FitsWords run.words request → AllEnds run request.budget request.mode ⊎ LacksMemory run
        all_ends request fits = elim (found status refl) [
          | inl r ↦ elim r [
            | inl e ↦ inl (subst (λ (q : Request). AllEnds run q.budget q.mode) (one words e.request request e.fits (subst (λ ws. FitsWords ws request) is.words_are fits)) e.ends)
            | inr lacks ↦ inr lacks
          ]
          | inr none ↦ absurd (none request (subst (λ ws. FitsWords ws request) is.words_are fits))
        ]

        unfit : FitNothing run.words → (run.status ≡ Usage) × (run.printed ≡ usage_text)
        unfit none = elim (on_unfit words status notes noted before after runs (subst FitNothing is.words_are none)) [
          | inl so ↦
              let u = on_usage words status notes noted before after runs so in (
                is.status_is ∙ so,
                front_cancels is.earlier run.printed usage_text
                    (subst (λ o. Appends (Some is.earlier) o usage_text) is.given_after (subst (λ o. Appends o after.output usage_text) is.given_before u.told)),
              )
          | inr so ↦ absurd (cut WriteFault tt so)
        ]

        asked_for : (request : Request) → FitsWords run.words request → Ends run request.budget request.mode ⊎ LacksMemory run
        asked_for request fits = elim (all_ends request fits) [ inl e ↦ inl (page_ends run request.budget request.mode e) | inr lacks ↦ inr lacks ]

        worth : EndsAsAsked run
        worth = record { asked_for = asked_for; unfit = unfit }

    module _ (on_done : DoneIsSo) (on_some : SomeAreRefused) (on_sheet : SheetsAreRefused) (on_certificate : CertificatesAreRefused) (on_memory : MemoryIsWanted) (on_usage : UsageIsOfWords) (on_unfit : WordsAreTold) where
      pub runs_keep_their_word : RunsKeepTheirWord
      runs_keep_their_word words status notes noted before after runs = record {
        word = λ run is whole. worth words status notes noted before after runs run is on_done on_some on_sheet on_certificate on_memory on_usage on_unfit whole;
        journals = λ run is whole request fits.
            elim (all_ends words status notes noted before after runs run is on_done on_some on_sheet on_certificate on_memory on_usage on_unfit whole request fits) [
              | inl e ↦ inl (journals_end run request.budget request.mode e)
              | inr lacks ↦ inr lacks
            ];
        demo = λ run is whole blocks budget fits. all_ends words status notes noted before after runs run is on_done on_some on_sheet on_certificate on_memory on_usage on_unfit whole record { mode = demonstrates blocks; budget = budget } fits;
      }
