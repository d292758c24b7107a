-- Runs that would not keep their word.
use Rattle.std.proofs.Common.{◌≡◌, ℕ, true, List, [], ◌∷◌, ◌++◌, codes, refl, sym, ap, subst, inl, inr, Contains, Some, arith}
use Rattle.std.specs.List.{list_any}
use Rattle.pc_lemmas.proofs.Elements.{contains_first, contains_none}
use Rattle.pc_sheet.specs.Sheet.{Sheet}
use Rattle.pc_sheet.specs.MaximalSets.{AreRulesConsistent}
use Rattle.pc_sortcheck.specs.Declaring.{ReadsAs}
use Rattle.pc_load.specs.Laws.{TextsHaveOneOutcome}
use Rattle.pc_writer.specs.SheetText.{ended}
use Rattle.pc_syntax.specs.Tree.{Declared}
use Rattle.pc_syntax.specs.Line.{LineForm}
use Rattle.pc_syntax.specs.Sheet.{IsSheet, whole, AreStanding, is_begin}
use Rattle.pc_collab.specs.Journal.{Post}
use Rattle.pc_collab.specs.Text.{journal_text}
use Rattle.pc_port.specs.Shelf.{Files, file_named}
use Rattle.pc_refusals.specs.declared.status.Status.{Status}
use Rattle.pc_refusals.specs.declared.status.Status.TheVariants.{Done, SheetRefused, CertRefused, Memory}
use Rattle.pc_words.specs.Words.{replays, edits, checks, merges, Request, FitsWords, usual_budget}
use Rattle.pc_afresh_laws.specs.Afresh.{DumpsStartAgain}
use Rattle.pc_theorem.specs.Theorem.{EndsCheck, accepts, declines, finds_no_sheet, EndsSession, answers_all, refuses, Ends, IsCutOff}
use Rattle.pc_theorem.specs.Journals.{IsMerged, EndsMerge, merges_both, finds_no_merge}
use Rattle.pc_theorem.specs.Examples.{Keeps, KeepsPosts, merge_words, edit_words, BrokenWords}
use Rattle.pc_theorem.proofs.BrokenSessions.{a_post, run_on, told, is_file_name, edit_ends, no_line, none_refused, quietly_refused, ok_for_repairs, refused_demo, silent_demo}
use Rattle.pc_theorem.proofs.Clearing.{CommandsHaveOneReading}
use Rattle.pc_theorem.proofs.Checked.{no_other}
use Rattle.pc_theorem.proofs.OtherDisplay.{other_session}

-- ---- how such a run ends

ends : (words : List (List ℕ)) (files : Files) (printed : List ℕ) (status : Status) (request : Request) → FitsWords words request → (status ≡ Memory → ⊥) → ¬ IsCutOff status → Keeps words files [] printed status → Ends (run_on words files [] printed status) request.budget request.mode
ends words files printed status request fits other uncut keeps = elim ((keeps (run_on words files [] printed status) (told words files [] printed status) uncut).asked_for request fits) [
  | inl e ↦ e
  | inr lacks ↦ absurd (other lacks.0)
]

merge_ends : (files : Files) (printed : List ℕ) (status : Status) → (status ≡ Memory → ⊥) → ¬ IsCutOff status → KeepsPosts merge_words files [] printed status → EndsMerge (run_on merge_words files [] printed status) (codes "f")
merge_ends files printed status other uncut keeps = elim (keeps (run_on merge_words files [] printed status) (told merge_words files [] printed status) uncut (record { mode = merges (codes "f"); budget = usual_budget }) (inl ((refl, is_file_name), refl))) [
  | inl e ↦ e
  | inr lacks ↦ absurd (other lacks.0)
]

-- ---- a sheet that isn't there

front_empty : (xs ys : List ℕ) → [] ≡ xs ++ ys → xs ≡ []
front_empty [] ys e = refl
front_empty (x ∷ xs) ys e = absurd (cc)

no_forms : (forms : List LineForm) → AreStanding [] [] forms → list_any is_begin forms ≡ true → ⊥
no_forms [] standing has_begin = absurd (cc)
no_forms (f ∷ fs) standing has_begin = standing

empty_is_no_sheet : (declared : List (ℕ × Declared)) → IsSheet [] declared → ⊥
empty_is_no_sheet declared (whole forms standing has_begin) = no_forms forms standing has_begin

-- ---- a post that is lost

no_text : (p : Post) (ps : List Post) → journal_text (p ∷ ps) ≡ [] → ⊥
no_text p ps e = absurd (cc)

lost : IsMerged ((codes "f", a_post) ∷ []) (codes "f") [] [] → ⊥
lost is = by is.one is.merged is.reads_one.text (λ p there. (is.merge.posts p).1 (inl there)) (sym is.told) (bytes_are is.bytes is.found)
  where
    bytes_are : (bytes : List ℕ) → file_named (codes "f") ((codes "f", a_post) ∷ []) ≡ Some bytes → bytes ≡ a_post
    bytes_are bytes found = cc

    by : (one merged : List Post) → is.bytes ≡ journal_text one → ((p : Post) → Contains one p → Contains merged p) → journal_text merged ≡ [] → is.bytes ≡ a_post → ⊥
    by [] merged reads within none bytes = absurd (cc)
    by (p ∷ ps) [] reads within none bytes = contains_none p (within p (contains_first p ps))
    by (p ∷ ps) (q ∷ qs) reads within none bytes = no_text q qs none

-- ---- what is told

abbrev first_byte : List ℕ → ℕ
first_byte [] = 0
first_byte (b ∷ bs) = b

accepted_not_refused : (more : List ℕ) → ended (codes "accepted") ≡ codes "refused " ++ more → ⊥
accepted_not_refused more e = let bytes : 97 ≡ 114 = ap first_byte e in omega (arith, bytes)

pub nothing_not_refused : (more : List ℕ) → [] ≡ codes "journal refused " ++ more → ⊥
nothing_not_refused more e = let bytes : 0 ≡ 106 = ap first_byte e in omega (arith, bytes)

-- ---- checks, merges and inputs

abbrev check_words : List (List ℕ)
check_words = codes "check" ∷ codes "f" ∷ []

no_file : EndsCheck (run_on check_words [] [] (ended (codes "accepted")) Done) (codes "f") → ⊥
no_file (accepts so is) = let found = is.found in absurd (cc found)
no_file (declines so is) = absurd (cc)
no_file (finds_no_sheet so is) = absurd (cc)

as_accepted : (files : Files) → EndsCheck (run_on check_words files [] (ended (codes "accepted")) CertRefused) (codes "f") → ⊥
as_accepted files (accepts so is) = absurd (cc)
as_accepted files (declines so is) = accepted_not_refused is.told.0 is.told.1
as_accepted files (finds_no_sheet so is) = absurd (cc)

untold : (files : Files) → EndsMerge (run_on merge_words files [] [] SheetRefused) (codes "f") → ⊥
untold files (merges_both so is) = absurd (cc)
untold files (finds_no_merge so is) = nothing_not_refused is.told.0 is.told.1

lost_post : EndsMerge (run_on merge_words ((codes "f", a_post) ∷ []) [] [] Done) (codes "f") → ⊥
lost_post (merges_both so is) = lost is
lost_post (finds_no_merge so is) = absurd (cc)

no_sheet : EndsSession (run_on (codes "replay" ∷ []) [] [] [] Done) usual_budget replays → ⊥
no_sheet (answers_all text commands sheet commands_are s) =
    let reads = s.starts.reads in
    empty_is_no_sheet reads.declared (subst (λ t. IsSheet t reads.declared) (front_empty text sheet.0 sheet.1) reads.is)
no_sheet (refuses text why more so sheet refusing told_so) = absurd (cc)

-- ---- a sheet that no assignment fits

text_same : (x y : List ℕ) → Some x ≡ Some y → x ≡ y
text_same x y e = cc

inconsistent_session : TextsHaveOneOutcome → (sheet : Sheet) (text input printed : List ℕ) → ReadsAs text sheet → ¬ AreRulesConsistent sheet → EndsSession (run_on edit_words ((codes "f", text) ∷ []) input printed Done) usual_budget (edits (codes "f")) → ⊥
inconsistent_session one_outcome sheet text input printed reads never (answers_all taken commands found commands_are s) =
    let loaded = subst (λ x. ReadsAs x s.start.sheet) (sym (text_same text taken found)) s.starts.reads in
    never (subst AreRulesConsistent (no_other one_outcome text sheet s.start.sheet reads loaded) s.starts.consistent)
inconsistent_session one_outcome sheet text input printed reads never (refuses taken why more so found refusing told_so) = absurd (cc)

pub broken_words : CommandsHaveOneReading → DumpsStartAgain → TextsHaveOneOutcome → BrokenWords
broken_words read again one_outcome = record {
  no_file = λ keeps. no_file (ends check_words [] (ended (codes "accepted")) Done (record { mode = checks (codes "f"); budget = usual_budget }) (inl ((refl, is_file_name), refl)) (λ e. absurd (cc)) (λ c. c) keeps);
  no_sheet = λ keeps. no_sheet (ends (codes "replay" ∷ []) [] [] Done (record { mode = replays; budget = usual_budget }) (inl (refl, refl)) (λ e. absurd (cc)) (λ c. c) keeps);
  told_as_accepted = λ files keeps. as_accepted files (ends check_words files (ended (codes "accepted")) CertRefused (record { mode = checks (codes "f"); budget = usual_budget }) (inl ((refl, is_file_name), refl)) (λ e. absurd (cc)) (λ c. c) keeps);
  untold = λ files keeps. untold files (merge_ends files [] SheetRefused (λ e. absurd (cc)) (λ c. c) keeps);
  lost_post = λ keeps. lost_post (merge_ends ((codes "f", a_post) ∷ []) [] Done (λ e. absurd (cc)) (λ c. c) keeps);
  no_line = no_line;
  none_refused = none_refused;
  quietly_refused = quietly_refused;
  ok_for_repairs = ok_for_repairs read;
  other_shown = other_session read again;
  loaded_inconsistent = λ sheet text input printed reads never keeps. inconsistent_session one_outcome sheet text input printed reads never (edit_ends ((codes "f", text) ∷ []) input printed Done keeps (λ e. absurd (cc)) (λ c. c));
  refused_demo = refused_demo;
  silent_demo = silent_demo;
}
