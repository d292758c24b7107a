-- One verdict, and so one answer.
use Rattle.std.proofs.Common.{◌≡◌, ◌⊎◌, ◌↔◌, ℕ, List, [], ◌∷◌, Contains, inl, inr, refl, sym, ◌∙◌, ap, subst}
use Rattle.std.specs.List.{AllByRecursion}
use Rattle.std.proofs.lemmas.List.Elements.{recursion_from_All}
use Rattle.pc_lines.specs.Lines.{line_text_of}
use Rattle.pc_sheet.specs.Sheet.{Sheet, with_rule}
use Rattle.pc_sheet.specs.WellFormed.{IsWellFormed}
use Rattle.pc_books.specs.Edits.{entered, also_entered, without_cell, without_entry, without_rule}
use Rattle.pc_collab.specs.Journal.{Post, IsJournal}
use Rattle.pc_collab.specs.Merge.{IsMerge}
use Rattle.pc_collab.specs.Laws.{MergesAreOne}
use Rattle.pc_refusals.specs.declared.refusal.Refusal.{Refusal}
use Rattle.pc_refusals.specs.declared.refusal.Refusal.TheVariants.{Inconsistent}
use Rattle.pc_transcript.specs.Answer.{Answer, silent, accepted, shown, refused, no_memory}
use Rattle.pc_transcript.specs.Transcript.{Transcript, Legal, lines}
use Rattle.pc_display.specs.OneDisplay.{SheetHasOneDisplay}
use Rattle.pc_journal.specs.PostLines.{lines_of_posts}
use Rattle.pc_spreadsheet.specs.Judgement.{Verdict, nothing, does, refuses, contradicts, IsVerdictOn, opens}
use Rattle.pc_spreadsheet.specs.Refused.{IsRefusalOf, MakesContradiction, IsRefused, for_utf8, for_depth, for_syntax, for_asked}
use Rattle.pc_spreadsheet.specs.Tasks.{State, Task, enters, enters_beside, clears, removes, adds, drops, budgets, shows, PageKind, IsTaskOf, IsTask, IsEdit, state_after, Starts}
use Rattle.pc_spreadsheet.specs.Tasks as tasks
use Rattle.pc_spreadsheet.specs.Allowed.{Notes, Allows, RefusesLine, as_judged, as_contradiction, as_spent, as_proof_spent, as_ask_spent}
use Rattle.pc_spreadsheet.specs.Pages.{PageSays, IsCertificateAgainst}
use Rattle.pc_spreadsheet.specs.Laws.{LinesHaveOneVerdict, TextsHaveOneVerdict, AnswersKeepForm}
use Rattle.pc_afresh_laws.specs.Afresh.{IsDisplay, ListingsAreOne, StartsAreOpen, TranscriptsKeepOpen}
use Rattle.pc_afresh_laws.proofs.LoadAfresh.{one_page, same_display}
use Rattle.pc_afresh_laws.specs.Readers.{IsNotSpent, IsFull, GivesProof, SayTheSame, equal, pages, contradictions, AnswersSayTheSame, AlikeFrom, TranscriptsSayTheSame, ReadersSeeOneDisplay}

-- ---- what an answer tells

-- `ok`, or the page
abbrev IsDone : Sheet → Task → Answer → Type 0
IsDone sheet (shows kind) answer = (text : List ℕ) × PageSays kind sheet text × (answer ≡ shown text)
IsDone sheet task answer = answer ≡ accepted

abbrev Tells : Sheet → Verdict → Answer → Type 0
Tells sheet nothing answer = answer ≡ silent
Tells sheet (does task) answer = IsDone sheet task answer
Tells sheet (refuses why) answer = answer ≡ refused why []
Tells sheet (contradicts r) answer = (text : List ℕ) × IsCertificateAgainst (with_rule sheet r) text × (answer ≡ refused Inconsistent text)

abbrev after : State → Verdict → State
after state (does task) = state_after state task
after state verdict = state

-- the answer tells this verdict of the line
record Told (state : State) (line : List ℕ) (answer : Answer) (new : State) : Type 0 where
  verdict : Verdict
  is : IsVerdictOn state line verdict
  tells : Tells state.sheet verdict answer
  next : new ≡ after state verdict

edit_done : (sheet : Sheet) (task : Task) → IsEdit task → IsDone sheet task accepted
edit_done sheet (enters e) edit = refl
edit_done sheet (enters_beside e) edit = refl
edit_done sheet (clears k) edit = refl
edit_done sheet (removes e) edit = refl
edit_done sheet (adds r) edit = refl
edit_done sheet (drops place) edit = refl
edit_done sheet (budgets n) edit = refl
edit_done sheet (shows kind) edit = absurd edit

first_same : (old new : State × Notes) → new ≡ old → new.0 ≡ old.0
first_same old new same = ap (λ (s : State × Notes). s.0) same

told_refused : (old new : State × Notes) (line : List ℕ) (why : Refusal) (more : List ℕ) → IsNotSpent why → RefusesLine old line why more new → Told old.0 line (refused why more) new.0
told_refused old new line why more full (as_judged this none same) = record { verdict = refuses why; is = this; tells = ap (refused why) none; next = first_same old new same }
told_refused old new line why more full (as_contradiction r this certificate why_is same) =
    record { verdict = contradicts r; is = this; tells = (more, certificate, ap (λ (w : Refusal). refused w more) why_is); next = first_same old new same }
told_refused old new line why more full (as_spent counts spends why_is none same) = absurd (subst IsNotSpent why_is full)
told_refused old new line why more full (as_proof_spent counts spends why_is none same) = absurd (subst IsNotSpent why_is full)
told_refused old new line why more full (as_ask_spent counts spends why_is none same) = absurd (subst IsNotSpent why_is full)

told : (old new : State × Notes) (line : List ℕ) (answer : Answer) → IsFull answer → Allows old line answer new → Told old.0 line answer new.0
told old new line silent full (this, same) = record { verdict = nothing; is = this; tells = refl; next = first_same old new same }
told old new line accepted full (task, this, edit, same) = record { verdict = does task; is = this; tells = edit_done old.0.sheet task edit; next = ap (λ (s : State × Notes). s.0) same }
told old new line (shown text) full (kind, this, says, same) = record { verdict = does (shows kind); is = this; tells = (text, says, refl); next = first_same old new same }
told old new line (refused why more) full h = told_refused old new line why more full h
told old new line no_memory full h = absurd full

-- ---- verdicts and what they lead to depend on the sheet alone

refused_by_sheet : (state other : State) (line : List ℕ) (why : Refusal) → other.sheet ≡ state.sheet → IsRefused other line why → IsRefused state line why
refused_by_sheet state other line why same (for_utf8 reading) = for_utf8 reading
refused_by_sheet state other line why same (for_depth reading) = for_depth reading
refused_by_sheet state other line why same (for_syntax reading) = for_syntax reading
refused_by_sheet state other line why same (for_asked a reading refusal) = for_asked a reading (subst (λ (s : Sheet). IsRefusalOf s a why) same refusal)

judged_by_sheet : (state other : State) (line : List ℕ) (verdict : Verdict) → other.sheet ≡ state.sheet → IsVerdictOn other line verdict → IsVerdictOn state line verdict
judged_by_sheet state other line nothing same is = is
judged_by_sheet state other line (does task) same is = (is.0, is.1, subst (λ (s : Sheet). IsTaskOf s is.0 task) same is.2)
judged_by_sheet state other line (refuses why) same is = refused_by_sheet state other line why same is
judged_by_sheet state other line (contradicts r) same is = (is.0, is.1, subst (λ (s : Sheet). MakesContradiction s is.0 r) same is.2)

done_by_sheet : (state other : State) (task : Task) → other.sheet ≡ state.sheet → (state_after other task).sheet ≡ (state_after state task).sheet
done_by_sheet state other (enters e) same = ap (λ (s : Sheet). entered s e) same
done_by_sheet state other (enters_beside e) same = ap (λ (s : Sheet). also_entered s e) same
done_by_sheet state other (clears k) same = ap (λ (s : Sheet). without_cell s k) same
done_by_sheet state other (removes e) same = ap (λ (s : Sheet). without_entry s e) same
done_by_sheet state other (adds r) same = ap (λ (s : Sheet). with_rule s r) same
done_by_sheet state other (drops place) same = ap (λ (s : Sheet). without_rule s place) same
done_by_sheet state other (budgets n) same = same
done_by_sheet state other (shows kind) same = same

after_by_sheet : (state other : State) (verdict : Verdict) → other.sheet ≡ state.sheet → (after other verdict).sheet ≡ (after state verdict).sheet
after_by_sheet state other nothing same = same
after_by_sheet state other (does task) same = done_by_sheet state other task same
after_by_sheet state other (refuses why) same = same
after_by_sheet state other (contradicts r) same = same

-- ---- what tells one verdict says the same

both_are : (state : State) (line : List ℕ) (answer x y : Answer) → x ≡ answer → y ≡ answer → SayTheSame state line x y
both_are state line answer x y one two =
    subst (λ (a : Answer). SayTheSame state line a y) (sym one) (subst (λ (a : Answer). SayTheSame state line answer a) (sym two) (equal answer))

module _ (one : SheetHasOneDisplay) (listings : ListingsAreOne) (state : State) (line : List ℕ) (formed : IsWellFormed state.sheet) where
  displayed : (kind : PageKind) → IsDisplay kind → (s t : List ℕ) → PageSays kind state.sheet s → PageSays kind state.sheet t → t ≡ s
  displayed kind display s t says says' = let page = one_page one state.sheet kind formed display in (page.1 t).0 says' ∙ sym ((page.1 s).0 says)

  -- a page that gives no proof has one text
  one_text : (kind : PageKind) → GivesProof kind ⊎ ((s t : List ℕ) → PageSays kind state.sheet s → PageSays kind state.sheet t → t ≡ s)
  one_text tasks.lines_page = inr (displayed tasks.lines_page tt)
  one_text tasks.grid_page = inr (displayed tasks.grid_page tt)
  one_text tasks.json_page = inr (displayed tasks.json_page tt)
  one_text tasks.text_page = inr (λ s t says says'. says' ∙ sym says)
  one_text tasks.repairs_page = inr (listings state.sheet)
  one_text (tasks.why_page t) = inl tt
  one_text tasks.proof_page = inl tt
  one_text (tasks.whynot_page t) = inl tt
  one_text (tasks.ask_page made) = inl tt

  same_pages : (kind : PageKind) → IsTask state line (shows kind) → (x y : Answer) (s t : List ℕ) → PageSays kind state.sheet s → PageSays kind state.sheet t → x ≡ shown s → y ≡ shown t → SayTheSame state line x y
  same_pages kind task x y s t says says' is is' = elim (one_text kind) [
    | inl proof ↦
        subst (λ (a : Answer). SayTheSame state line a y) (sym is) (subst (λ (a : Answer). SayTheSame state line (shown s) a) (sym is') (pages kind s t proof task says says'))
    | inr same ↦ both_are state line (shown s) x y is (is' ∙ ap (λ (l : List ℕ). shown l) (same s t says says'))
  ]

  same_done : (task : Task) → IsTask state line task → (x y : Answer) → IsDone state.sheet task x → IsDone state.sheet task y → SayTheSame state line x y
  same_done (enters e) is x y one two = both_are state line accepted x y one two
  same_done (enters_beside e) is x y one two = both_are state line accepted x y one two
  same_done (clears k) is x y one two = both_are state line accepted x y one two
  same_done (removes e) is x y one two = both_are state line accepted x y one two
  same_done (adds r) is x y one two = both_are state line accepted x y one two
  same_done (drops place) is x y one two = both_are state line accepted x y one two
  same_done (budgets n) is x y one two = both_are state line accepted x y one two
  same_done (shows kind) is x y (s, says, x_is) (t, says', y_is) = same_pages kind is x y s t says says' x_is y_is

  same_told : (verdict : Verdict) → IsVerdictOn state line verdict → (x y : Answer) → Tells state.sheet verdict x → Tells state.sheet verdict y → SayTheSame state line x y
  same_told nothing is x y one two = both_are state line silent x y one two
  same_told (does task) is x y one two = same_done task is x y one two
  same_told (refuses why) is x y one two = both_are state line (refused why []) x y one two
  same_told (contradicts r) is x y (s, against, x_is) (t, against', y_is) =
      subst (λ (a : Answer). SayTheSame state line a y) (sym x_is) (subst (λ (a : Answer). SayTheSame state line (refused Inconsistent s) a) (sym y_is) (contradictions r s t is against against'))

pub answers_same : LinesHaveOneVerdict → SheetHasOneDisplay → ListingsAreOne → AnswersSayTheSame
answers_same verdicts one listings old other new new' line x y formed same full full' allowed allowed' =
    let first = told old new line x full allowed in
    let second = told other new' line y full' allowed' in
    let is' : IsVerdictOn old.0 line second.verdict = judged_by_sheet old.0 other.0 line second.verdict same second.is in
    let verdict : second.verdict ≡ first.verdict = verdicts old.0 formed line second.verdict first.verdict is' first.is in
    let tells' : Tells old.0.sheet first.verdict y = subst (λ (v : Verdict). Tells old.0.sheet v y) verdict (subst (λ (s : Sheet). Tells s second.verdict y) same second.tells) in (
      same_told one listings old.0 line formed first.verdict first.is x y first.tells tells',
      ap (λ (s : State). s.sheet) second.next ∙ after_by_sheet old.0 other.0 second.verdict same ∙ ap (λ (v : Verdict). (after old.0 v).sheet) verdict ∙ ap (λ (s : State). s.sheet) (sym first.next),
    )

-- ---- transcripts

heads : (x y : List ℕ) (xs ys : List (List ℕ)) → x ∷ xs ≡ y ∷ ys → (x ≡ y) × (xs ≡ ys)
heads x y xs ys same = (cc same, cc same)

module _ (answers : AnswersSayTheSame) (keep : AnswersKeepForm) where
  each_same : (old other new new' : State × Notes) (t u : Transcript) → IsWellFormed old.0.sheet → other.0.sheet ≡ old.0.sheet → lines u ≡ lines t → AllByRecursion (λ pair. IsFull pair.1) t → AllByRecursion (λ pair. IsFull pair.1) u
      → (legal : Legal Allows old t new) → Legal Allows other u new' → AlikeFrom old new t u legal × (new'.0.sheet ≡ new.0.sheet)
  each_same old other new new' [] [] formed same are full full' legal legal' = (tt, ap (λ (s : State). s.sheet) (first_same other new' legal') ∙ same ∙ ap (λ (s : State). s.sheet) (sym (first_same old new legal)))
  each_same old other new new' [] (pair ∷ more) formed same are full full' legal legal' = absurd (cc are)
  each_same old other new new' (pair ∷ more) [] formed same are full full' legal legal' = absurd (cc are)
  each_same old other new new' (pair ∷ more) (pair' ∷ more') formed same are full full' legal legal' =
      let split = heads pair'.0 pair.0 (lines more') (lines more) are in
      let line = line_text_of pair.0 in
      let allowed' : Allows other line pair'.1 legal'.0 = subst (λ (l : List ℕ). Allows other (line_text_of l) pair'.1 legal'.0) split.0 legal'.1 in
      let here = answers old other legal.0 legal'.0 line pair.1 pair'.1 formed same full.0 full'.0 legal.1 allowed' in
      let rest = each_same legal.0 legal'.0 new new' more more' (keep old legal.0 line pair.1 formed legal.1) here.1 split.1 full.1 full'.1 legal.2 legal'.2 in
      ((split.0, here.0, rest.0), rest.1)

pub transcripts_same : AnswersSayTheSame → AnswersKeepForm → TranscriptsSayTheSame
transcripts_same answers keep old other new new' t u formed same are full full' legal legal' =
    each_same answers keep old other new new' t u formed same are (recursion_from_All (λ pair. IsFull pair.1) t full) (recursion_from_All (λ pair. IsFull pair.1) u full') legal legal'

-- ---- readers

-- journals of the same posts are one
posts_determine : MergesAreOne → (posts others : List Post) → IsJournal posts → IsJournal others → ((p : Post) → Contains posts p ↔ Contains others p) → posts ≡ others
posts_determine merges posts others journal other same = merges posts posts posts others itself as_others
  where
    itself : IsMerge posts posts posts
    itself = record { journal = journal; posts = λ p. (λ there. inl there, λ either. elim either [ inl there ↦ there | inr there ↦ there ]) }

    as_others : IsMerge posts posts others
    as_others = record { journal = other; posts = λ p. (λ there. inl ((same p).1 there), λ either. elim either [ inl there ↦ (same p).0 there | inr there ↦ (same p).0 there ]) }

-- a text is one sheet, whatever the budgets
one_sheet : TextsHaveOneVerdict → (budget budget' : ℕ) (text : List ℕ) (start start' : State) → Starts budget text start → Starts budget' text start' → start'.sheet ≡ start.sheet
one_sheet texts budget budget' text start start' starts starts' = ap (λ (s : State). s.sheet) (state_same again start (texts budget text (opens again) (opens start) starts_again starts))
  where
    again : State
    again = record { sheet = start'.sheet; budget = budget }

    starts_again : Starts budget text again
    starts_again = record { reads = starts'.reads; light = starts'.light; consistent = starts'.consistent; budget = refl }

    state_same : (x y : State) → opens x ≡ opens y → x ≡ y
    state_same x y same = cc

pub readers_same : TranscriptsSayTheSame → TextsHaveOneVerdict → MergesAreOne → SheetHasOneDisplay → StartsAreOpen → TranscriptsKeepOpen → ReadersSeeOneDisplay
readers_same transcripts texts merges one opened keeps posts others budget budget' text start start' notes notes' end end' t u journal other_journal same_posts starts starts' are are' full full' legal legal' =
    let open_there = opened budget text start starts in
    let same : start'.sheet ≡ start.sheet = one_sheet texts budget budget' text start start' starts starts' in
    let lines_are : lines u ≡ lines t = are' ∙ ap lines_of_posts (sym (posts_determine merges posts others journal other_journal same_posts)) ∙ sym are in
    let both = transcripts (start, notes) (start', notes') end end' t u open_there.formed same lines_are full full' legal legal' in
    let reached = keeps (start, notes) end t open_there legal in
    (both.0, same_display one end.0.sheet end'.0.sheet reached.formed both.1)
