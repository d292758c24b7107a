-- How runs end that answer the posts of a journal, where no device was at fault.
use Rattle.std.proofs.Common.{◌≡◌, ◌≢◌, ℕ, ◌≤◌, ◌⊎◌, inl, inr, List, [], ◌∷◌, ◌++◌, Some, None, Option, refl, sym, ◌∙◌, ap, subst, append_assoc, append-nil}
use Rattle.std.specs.List.{list_any}
use Rattle.std.specs.Io.KnownBytes.{Consumes, IsAtEnd}
use Rattle.std.proofs.KnownBytes.{Consumes-trans}
use Rattle.pc_port.specs.Shelf.{Files, file_named}
use Rattle.pc_collab.specs.Journal.{Post}
use Rattle.pc_collab.specs.Reading.{IsTextOf, LineFault, IsFirstFaultOfJournal}
use Rattle.pc_collab.specs.ReadBack.{JournalsReadBack}
use Rattle.pc_words.specs.Words.{posts, FitsWords}
use Rattle.pc_words.specs.Laws.{WordsFitOneRequest}
use Rattle.pc_refusals.specs.declared.refusal.SheetRefusal.{SheetRefusal}
use Rattle.pc_refusals.specs.declared.status.Status.{Status}
use Rattle.pc_refusals.specs.declared.status.Status.TheVariants.{SheetRefused}
use Rattle.pc_refusals.specs.Events.{Outside, Event, took_rest, gave, Happened}
use Rattle.pc_refusals.specs.Stages.{Stage}
use Rattle.pc_refusals.specs.Runs.{Ran}
use Rattle.pc_run_laws.proofs.FlatLemmas.{happened-split, taken_together}
use Rattle.pc_run_laws.proofs.CauseLemmas.{has_causes}
use Rattle.pc_run_laws.proofs.JournalCauses.{posts_calmly}
use Rattle.pc_run_laws.specs.Flat.{taken_in}
use Rattle.pc_transcript.specs.Answer.{Answer, is_refused as was_refused, is_no_memory}
use Rattle.pc_journal.specs.Course as journal
use Rattle.pc_journal.specs.Course.{AnswersHeld, AnswersPosts, PostText, Posts}
use Rattle.pc_journal.specs.PostLines.{lines_of_posts}
use Rattle.pc_spreadsheet.specs.Tasks.{State, Starts}
use Rattle.pc_spreadsheet.specs.Allowed.{Notes, Allows, RefusesText}
use Rattle.pc_replay.specs.Course as asked
use Rattle.pc_run_laws.specs.Complete.{HasEnoughFor, TextsOfEnoughAreOpened}
use Rattle.pc_run_laws.specs.Inputs.{FaultlessPostsAreAnswered, PostsOfEnoughAreAnswered}
use Rattle.pc_run_laws.proofs.Ending.{worse_is, GoesTo, behind, by_words, ran_so}
use Rattle.pc_run_laws.proofs.Opening.{not_of_lines, Refuses, of_run, IsRefusal, not_this}
use Rattle.pc_run_laws.proofs.Opening as opening
use Rattle.pc_run_laws.proofs.Running.{some_budget}

-- ---- where it ends

-- somewhere the input ended
abbrev HasEnded : List Event → Type 0
HasEnded events = (before : List Event) × (bytes : List ℕ) × (more : List Event) × (events ≡ before ++ took_rest bytes ∷ more)

ended_later : (first events : List Event) → HasEnded events → HasEnded (first ++ events)
ended_later first events (before, bytes, more, is) = (first ++ before, bytes, more, ap (λ (es : List Event). first ++ es) is ∙ sym (append_assoc first before (took_rest bytes ∷ more)))

held_goes : {S : Type 0} (May : S → List ℕ → Answer → S → Type 0) (start : S) (held : List (List ℕ)) (text : List ℕ) (events : List Event) (stage : Stage) (end : S) → AnswersHeld May start held events stage end → GoesTo HasEnded (took_rest text ∷ events) stage
held_goes May start held text events stage end (journal.has_answer t mid line rest answer legal holds allowed is) = tt
held_goes May start held text events stage end (journal.has_all t legal are is) = (worse_is (list_any (λ pair. is_no_memory pair.1) t) (list_any (λ pair. was_refused pair.1) t), ([], text, events, refl))

module _ {S N : Type 0} (IsSheet : List ℕ → S → Type 0) (Denies : List ℕ → SheetRefusal → List ℕ → N → N → Type 0) (May : S × N → List ℕ → Answer → S × N → Type 0) where
  journal_goes : (start old new : S × N) (events : List Event) (stage : Stage) → journal.FromInput (AnswersPosts May start) old events stage new → GoesTo HasEnded events stage
  journal_goes start old new events stage (journal.awaits_journal is) = tt
  journal_goes start old new events stage (journal.needs_memory taken few is) = tt
  journal_goes start old new events stage (journal.is_refused text line fault small at_fault is) = refl
  journal_goes start old new events stage (journal.has_journal text a more small reads h is) = subst (λ (es : List Event). GoesTo HasEnded es stage) (sym is) (held_goes May start (lines_of_posts a) text more stage new h)

  text_goes : (notes : N) (text : List ℕ) (events : List Event) (stage : Stage) (notes' : N) → PostText IsSheet Denies May notes text events stage notes' → GoesTo HasEnded events stage
  text_goes notes text events stage notes' (journal.needs_sheet_memory is) = tt
  text_goes notes text events stage notes' (journal.sheet_is_refused why more has is) = refl
  text_goes notes text events stage notes' (journal.has_sheet start end is h) = journal_goes (start, notes) (start, notes) (end, notes') events stage h

  posts_go : (file : List ℕ) (notes : N) (events : List Event) (stage : Stage) (notes' : N) → Posts IsSheet Denies May file notes events stage notes' → GoesTo HasEnded events stage
  posts_go file notes events stage notes' (journal.needs_file_memory is) = tt
  posts_go file notes events stage notes' (journal.awaits_file is) = tt
  posts_go file notes events stage notes' (journal.has_file text more small h is) =
      subst (λ (es : List Event). GoesTo HasEnded es stage) (sym is) (behind HasEnded (gave file text ∷ []) (ended_later (gave file text ∷ [])) more stage (text_goes notes text more stage notes' h))

-- ---- a known input

nothing_left : (taken rest : List ℕ) → [] ≡ taken ++ rest → rest ≡ []
nothing_left [] rest is = sym is
nothing_left (b ∷ taken) rest is = absurd (cc is)

-- a known input that has ended stays at its end
still_ended : (x y z : Option (List ℕ)) (bytes before more : List ℕ) → x ≡ Some bytes → Consumes x y before → IsAtEnd y → Consumes y z more → IsAtEnd z
still_ended None y z bytes before more known first end then = absurd (cc known)
still_ended (Some x) None z bytes before more known first end then = absurd first
still_ended (Some x) (Some y) None bytes before more known first end then = absurd then
still_ended (Some x) (Some y) (Some z) bytes before more known first end then = nothing_left more z (sym end ∙ then)

ends_known : (events spare : List Event) (bytes : List ℕ) (a b : Outside) → a.input ≡ Some bytes → Happened (events ++ spare) a b → HasEnded events → IsAtEnd b.input
ends_known events spare bytes a b known happened (before, last, more, is) =
    let apart : events ++ spare ≡ before ++ (took_rest last ∷ (more ++ spare)) = ap (λ (es : List Event). es ++ spare) is ∙ append_assoc before (took_rest last ∷ more) spare in
    let two = happened-split before (took_rest last ∷ (more ++ spare)) a b (subst (λ (es : List Event). Happened es a b) apart happened) in
    let y = two.2.0 in
    let first = Consumes-trans a.input two.0.input y.input (taken_in before) last (taken_together before a two.0 two.1) two.2.1.1 in
    still_ended a.input y.input b.input bytes (taken_in before ++ last) (taken_in (more ++ spare)) known first two.2.1.2 (taken_together (more ++ spare) y b two.2.2)

pub faultless_posts_end : WordsFitOneRequest → FaultlessPostsAreAnswered
faultless_posts_end one words file bytes budget status notes notes' before after fits known runs calm short taken =
    let goes = by_words one words record { mode = posts file; budget = budget } fits notes tt (posts_go (Starts budget) (RefusesText budget) Allows file notes) in
    let calmly = by_words one words record { mode = posts file; budget = budget } fits notes (tt, tt) (posts_calmly (Starts budget) (RefusesText budget) Allows file notes) in
    ran_so HasEnded (asked.Course words notes) goes runs.0 status notes' before after (has_causes (asked.Course words notes) calmly runs.0 status notes' before after runs.2) runs.2
    (ends_known runs.2.events runs.2.spare bytes before after known runs.2.happened) calm short taken

-- ---- what is refused

module _ (budget : ℕ) (file : List ℕ) where
  -- the input, behind the file, is no journal's text
  record IsJournalRefusal (events : List Event) : Type 0 where
    text : List ℕ
    bytes : List ℕ
    more : List Event
    line : ℕ
    fault : LineFault
    are : events ≡ gave file text ∷ took_rest bytes ∷ more
    at_fault : IsFirstFaultOfJournal bytes line fault

  abbrev IsEither : List Event → Type 0
  IsEither events = IsRefusal budget file events ⊎ IsJournalRefusal events

  longer : (events more : List Event) → IsEither events → IsEither (events ++ more)
  longer events more (inl r) = inl (opening.longer budget file events more r)
  longer events more (inr r) = inr (record { text = r.text; bytes = r.bytes; more = r.more ++ more; line = r.line; fault = r.fault; are = ap (λ (es : List Event). es ++ more) r.are; at_fault = r.at_fault })

  of_held : (all : List Event) (start : State × Notes) (held : List (List ℕ)) (events : List Event) (stage : Stage) (end : State × Notes) → AnswersHeld Allows start held events stage end → Refuses IsEither all stage
  of_held all start held events stage end (journal.has_answer t mid line rest answer legal holds allowed is) = tt
  of_held all start held events stage end (journal.has_all t legal are is) = not_of_lines _ (worse_is (list_any (λ pair. is_no_memory pair.1) t) (list_any (λ pair. was_refused pair.1) t))

  of_journal : (text : List ℕ) (all : List Event) (start old new : State × Notes) (events : List Event) (stage : Stage) → all ≡ gave file text ∷ events → journal.FromInput (AnswersPosts Allows start) old events stage new → Refuses IsEither all stage
  of_journal text all start old new events stage gives (journal.awaits_journal is) = tt
  of_journal text all start old new events stage gives (journal.needs_memory taken few is) = tt
  of_journal text all start old new events stage gives (journal.is_refused bytes line fault small at_fault is) =
      λ _. inr (record { text = text; bytes = bytes; more = []; line = line; fault = fault; are = gives ∙ ap (λ (es : List Event). gave file text ∷ es) is; at_fault = at_fault })
  of_journal text all start old new events stage gives (journal.has_journal bytes a more small reads h is) = of_held all start (lines_of_posts a) more stage new h

  of_text : (text : List ℕ) (all : List Event) (notes : Notes) (events : List Event) (stage : Stage) (notes' : Notes) → all ≡ gave file text ∷ events → PostText (Starts budget) (RefusesText budget) Allows notes text events stage notes' → Refuses IsEither all stage
  of_text text all notes events stage notes' gives (journal.needs_sheet_memory is) = tt
  of_text text all notes events stage notes' gives (journal.sheet_is_refused why more has is) =
      λ _. inl (record { text = text; more = events; why = why; said = more; old = notes; new = notes'; gives = gives; refuses = has })
  of_text text all notes events stage notes' gives (journal.has_sheet start end is h) = of_journal text all (start, notes) (start, notes) (end, notes') events stage gives h

  of_posts : (notes : Notes) (events : List Event) (stage : Stage) (notes' : Notes) → Posts (Starts budget) (RefusesText budget) Allows file notes events stage notes' → Refuses IsEither events stage
  of_posts notes events stage notes' (journal.needs_file_memory is) = tt
  of_posts notes events stage notes' (journal.awaits_file is) = tt
  of_posts notes events stage notes' (journal.has_file text more small h is) = of_text text events notes more stage notes' is h

-- all of a known input is these bytes
all_known : (x y : Option (List ℕ)) (bytes taken : List ℕ) → x ≡ Some bytes → Consumes x y taken → IsAtEnd y → taken ≡ bytes
all_known None y bytes taken known takes end = absurd (cc known)
all_known (Some x) None bytes taken known takes end = absurd takes
all_known (Some x) (Some y) bytes taken known takes end =
    let same : x ≡ bytes = cc known in
    sym (append-nil taken) ∙ ap (λ (l : List ℕ). taken ++ l) (sym end) ∙ sym takes ∙ same

journal_taken : (file text taken bytes : List ℕ) (more : List Event) (a b : Outside) → a.input ≡ Some bytes → Happened (gave file text ∷ took_rest taken ∷ more) a b → taken ≡ bytes
journal_taken file text taken bytes more a b known (m, gives, (n, takes, then)) =
    all_known m.input n.input bytes taken (ap (λ (o : Outside). o.input) gives.0 ∙ known) takes.1 takes.2

-- neither may be refused
not_either : (budget : ℕ) (file : List ℕ) → JournalsReadBack → TextsOfEnoughAreOpened → 1 ≤ budget → (text bytes : List ℕ) (written : List Post) (files : Files) (state : State) (events spare : List Event) (a b : Outside) → a.kept ≡ Some files → file_named file files ≡ Some text
    → Starts budget text state → HasEnoughFor budget text → a.input ≡ Some bytes → IsTextOf bytes written → Happened (events ++ spare) a b → IsEither budget file events → ⊥
not_either budget file back opened some text bytes written files state events spare a b keeps named starts enough known reads happened (inl r) = not_this budget file opened some text files state events spare a b keeps named starts enough happened r
not_either budget file back opened some text bytes written files state events spare a b keeps named starts enough known reads happened (inr r) =
    let same = journal_taken file r.text r.bytes bytes (r.more ++ spare) a b known (subst (λ (es : List Event). Happened (es ++ spare) a b) r.are happened) in
    absurd (back.sound bytes written r.line r.fault reads (subst (λ (t : List ℕ). IsFirstFaultOfJournal t r.line r.fault) same r.at_fault))

not_refused : WordsFitOneRequest → JournalsReadBack → TextsOfEnoughAreOpened → (words : List (List ℕ)) (file text bytes : List ℕ) (written : List Post) (budget : ℕ) (files : Files) (state : State) (status : Status) (notes notes' : Notes) (a b : Outside)
    → FitsWords words record { mode = posts file; budget = budget } → a.kept ≡ Some files → file_named file files ≡ Some text → Starts budget text state → HasEnoughFor budget text → a.input ≡ Some bytes → IsTextOf bytes written
    → (most : ℕ) → Ran (asked.Course words notes) most status notes' a b → status ≢ SheetRefused
not_refused one back opened words file text bytes written budget files state status notes notes' a b fits keeps named starts enough known reads most ran e =
    not_either budget file back opened (some_budget words record { mode = posts file; budget = budget } fits) text bytes written files state ran.events ran.spare a b keeps named starts enough known reads ran.happened
    (of_run (IsEither budget file) (longer budget file) (asked.Course words notes) (by_words one words record { mode = posts file; budget = budget } fits notes tt (of_posts budget file notes)) ran.events status notes' ran.run e)

pub posts_end : WordsFitOneRequest → JournalsReadBack → TextsOfEnoughAreOpened → FaultlessPostsAreAnswered → PostsOfEnoughAreAnswered
posts_end one back opened answered words file text bytes written budget files state status notes notes' before after fits keeps named starts enough known reads runs calm short =
    answered words file bytes budget status notes notes' before after fits known runs calm short
    (not_refused one back opened words file text bytes written budget files state status notes notes' before after fits keeps named starts enough known reads runs.0 runs.2)
