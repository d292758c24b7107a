-- That readers of one journal see one display. To one list of lines the answers are one, but for the certificates that they show, where none is
-- that a budget is spent or that memory is wanted.
use Rattle.std.specs.Prelude.{◌≡◌, ◌↔◌, ℕ, List, [], ◌∷◌, All, Contains}
use Rattle.pc_sheet.specs.Sheet.{NamedStatement, with_rule}
use Rattle.pc_sheet.specs.WellFormed.{IsWellFormed}
use Rattle.pc_lines.specs.Lines.{line_text_of}
use Rattle.pc_collab.specs.Journal.{Post, IsJournal}
use Rattle.pc_refusals.specs.declared.refusal.Refusal.{Refusal}
use Rattle.pc_refusals.specs.declared.refusal.Refusal.TheVariants.{Inconsistent, Spent}
use Rattle.pc_transcript.specs.Answer.{Answer, shown, refused, no_memory}
use Rattle.pc_transcript.specs.Transcript.{Transcript, Legal, lines}
use Rattle.pc_journal.specs.PostLines.{lines_of_posts}
use Rattle.pc_spreadsheet.specs.Refused.{IsContradiction}
use Rattle.pc_spreadsheet.specs.Tasks.{State, shows, PageKind, why_page, proof_page, whynot_page, ask_page, IsTask, Starts}
use Rattle.pc_spreadsheet.specs.Allowed.{Notes, Allows}
use Rattle.pc_spreadsheet.specs.Pages.{PageSays, IsCertificateAgainst}
use Rattle.pc_afresh_laws.specs.Afresh.{DisplayTheSame}

-- ---- answers

abbrev pub IsNotSpent : Refusal → Type 0
IsNotSpent (Spent counts) = ⊥
IsNotSpent why = Unit {0}

-- the answer is neither that a budget is spent nor that memory is wanted
abbrev pub IsFull : Answer → Type 0
IsFull (refused why more) = IsNotSpent why
IsFull no_memory = ⊥
IsFull answer = Unit {0}

abbrev pub AreFull : Transcript → Type 0
AreFull transcript = All (λ pair. IsFull pair.1) transcript

-- a page of this kind is a certificate, or tells that there is none
abbrev pub GivesProof : PageKind → Type 0
GivesProof (why_page t) = Unit {0}
GivesProof proof_page = Unit {0}
GivesProof (whynot_page t) = Unit {0}
GivesProof (ask_page made) = Unit {0}
GivesProof kind = ⊥

-- In a state, two answers to a line say the same: they are equal; or each is what the page for which it asks says of the sheet, by a
-- certificate; or they refuse the rule that it asks to add, each with a certificate of the contradiction.
pub data SayTheSame (state : State) (line : List ℕ) : Answer → Answer → Type 0 where
  equal : (answer : Answer) → SayTheSame state line answer answer
  pages : (kind : PageKind) (x y : List ℕ) → GivesProof kind → IsTask state line (shows kind) → PageSays kind state.sheet x → PageSays kind state.sheet y → SayTheSame state line (shown x) (shown y)
  contradictions : (r : NamedStatement) (x y : List ℕ) → IsContradiction state line r → IsCertificateAgainst (with_rule state.sheet r) x → IsCertificateAgainst (with_rule state.sheet r) y → SayTheSame state line (refused Inconsistent x) (refused Inconsistent y)

-- whatever is noted and whatever the budgets, two such answers to a line on one sheet say the same, and leave one sheet
abbrev pub AnswersSayTheSame : Type 0
AnswersSayTheSame =
    (old other new new' : State × Notes) (line : List ℕ) (x y : Answer) → IsWellFormed old.0.sheet → other.0.sheet ≡ old.0.sheet → IsFull x → IsFull y
    → Allows old line x new → Allows other line y new' → SayTheSame old.0 line x y × (new'.0.sheet ≡ new.0.sheet)

-- ---- transcripts

-- line by line, each in the state that the lines before it leave, the answers of a legal transcript and of another say the same
abbrev pub AlikeFrom : (old new : State × Notes) (transcript other : Transcript) → Legal Allows old transcript new → Type 0
AlikeFrom old new [] [] legal = Unit {0}
AlikeFrom old new [] (pair ∷ more) legal = ⊥
AlikeFrom old new (pair ∷ more) [] legal = ⊥
AlikeFrom old new (pair ∷ more) (pair' ∷ more') legal = (pair'.0 ≡ pair.0) × SayTheSame old.0 (line_text_of pair.0) pair.1 pair'.1 × AlikeFrom legal.0 new more more' legal.2

-- from one sheet over one list of lines, two such transcripts say the same, and leave one sheet
abbrev pub TranscriptsSayTheSame : Type 0
TranscriptsSayTheSame =
    (old other new new' : State × Notes) (t u : Transcript) → IsWellFormed old.0.sheet → other.0.sheet ≡ old.0.sheet → lines u ≡ lines t → AreFull t → AreFull u
    → (legal : Legal Allows old t new) → Legal Allows other u new' → AlikeFrom old new t u legal × (new'.0.sheet ≡ new.0.sheet)

-- ---- readers of journals

-- Two readers, each with a journal of the same posts, whichever journals they merged, answer them on one sheet's text, each with a budget of
-- its own. Their answers say the same, line by line, and their sheets have one display of each form.
abbrev pub ReadersSeeOneDisplay : Type 0
ReadersSeeOneDisplay =
    (posts others : List Post) (budget budget' : ℕ) (text : List ℕ) (start start' : State) (notes notes' : Notes) (end end' : State × Notes) (t u : Transcript) → IsJournal posts → IsJournal others → ((p : Post) → Contains posts p ↔ Contains others p)
    → Starts budget text start → Starts budget' text start' → lines t ≡ lines_of_posts posts → lines u ≡ lines_of_posts others → AreFull t → AreFull u
    → (legal : Legal Allows (start, notes) t end) → Legal Allows (start', notes') u end' → AlikeFrom (start, notes) end t u legal × DisplayTheSame end.0.sheet end'.0.sheet
