-- Sessions and demonstrations that would not keep their word.
use Rattle.std.proofs.Common.{◌≡◌, ℕ, ◌<◌, Bool, true, false, List, [], ◌∷◌, ◌++◌, length, get_or, codes, refl, sym, ◌∙◌, ap, subst, inl, inr, ◌⊎◌, arith, append-nil}
use Rattle.std.specs.Str.Parse.{IsNumeral, digits_value}
use Rattle.std.proofs.lemmas.Fmt.{decimal_digit, decimal_is_IsNumeral_wide}
use Rattle.pc_port.specs.Shelf.{Files}
use Rattle.pc_sheet.specs.Sheet.{Sheet, Universe}
use Rattle.pc_formula.specs.Word.{name}
use Rattle.pc_syntax.specs.Tree.{Asked, asks_repairs}
use Rattle.pc_syntax.specs.Command.{IsCommandReading, asks}
use Rattle.pc_canonical_laws.proofs.Cuts.{Cuts, done}
use Rattle.pc_canonical_laws.proofs.Cutting.{nothing, cut_name}
use Rattle.pc_canonical_laws.proofs.Lines.{cuts_to_end}
use Rattle.pc_name.proofs.Letters.{small_name}
use Rattle.pc_writer.specs.SheetText.{ended}
use Rattle.pc_repairs.specs.Listed.{ListedPart, listing_text}
use Rattle.pc_refusals.specs.declared.status.Status.{Status}
use Rattle.pc_refusals.specs.declared.status.Status.TheVariants.{Done, SomeRefused, SheetRefused, Memory}
use Rattle.pc_transcript.specs.Answer.{Answer, answer_text}
use Rattle.pc_transcript.specs.Transcript.{Transcript, Legal, lines, output_of, worse_of, status_of}
use Rattle.pc_words.specs.Words.{edits, IsNumber, IsFileName, usual_budget}
use Rattle.pc_spreadsheet.specs.declared.summary.Summary.{Summary}
use Rattle.pc_spreadsheet.specs.Tasks.{State, PageKind, shows, IsTaskOf, listing, IsEdit, Task}
use Rattle.pc_demo.specs.Summing.{summary_text}
use Rattle.pc_theorem.specs.Theorem.{KnownRun, TellsPage, Answers, nothing_asked, edit_done, page_shown, not_doable, contradicting, budget_spent, memory_lacking, EndsSession, answers_all, refuses, LacksMemory, IsTold, IsCutOff}
use Rattle.pc_theorem.specs.Demonstrations.{EndsDemonstration, demonstrates_all, has_too_little}
use Rattle.pc_theorem.specs.Examples.{told_outside, edit_words, demo_words, Keeps, Demonstrated}
use Rattle.pc_theorem.proofs.Clearing.{CommandsHaveOneReading, asked_same}
use Rattle.pc_theorem.proofs.OneWord.{one_word}

-- ---- runs

abbrev pub run_on : List (List ℕ) → Files → List ℕ → List ℕ → Status → KnownRun
run_on words files input printed status = record { words = words; files = files; input = input; printed = printed; status = status }

pub told : (words : List (List ℕ)) (files : Files) (input printed : List ℕ) (status : Status) → IsTold words status (told_outside files input []) (told_outside files [] printed) (run_on words files input printed status)
told words files input printed status = record { words_are = refl; status_is = refl; files_are = refl; input_is = refl; earlier = []; given_before = refl; given_after = refl }

-- a journal of one post
abbrev pub a_post : List ℕ
a_post = codes "post 1 1 7 : show\n"

pub is_file_name : IsFileName (codes "f")
is_file_name = λ e. omega (arith, e)

-- how a session ends that doesn't want memory
pub session_ends : (words : List (List ℕ)) (run : KnownRun) (budget : ℕ) → (run.status ≡ Memory → ⊥) → EndsSession run budget (edits (codes "f")) ⊎ LacksMemory run → EndsSession run budget (edits (codes "f"))
session_ends words run budget other (inl ends) = ends
session_ends words run budget other (inr lacks) = absurd (other lacks.0)

pub edit_ends : (files : Files) (input printed : List ℕ) (status : Status) → Keeps edit_words files input printed status → (status ≡ Memory → ⊥) → ¬ IsCutOff status → EndsSession (run_on edit_words files input printed status) usual_budget (edits (codes "f"))
edit_ends files input printed status keeps other uncut =
    let run = run_on edit_words files input printed status in
    session_ends edit_words run usual_budget other ((keeps run (told edit_words files input printed status) uncut).asked_for (record { mode = edits (codes "f"); budget = usual_budget }) (inl ((refl, is_file_name), refl)))

-- ---- no command

no_lines : (t : Transcript) (commands : List (List ℕ)) → lines t ≡ commands → commands ≡ [] → t ≡ []
no_lines [] commands are none = refl
no_lines (p ∷ ps) commands are none = absurd (cc (are, none))

nothing_is_done : (files : Files) (printed : List ℕ) (status : Status) → (status ≡ SheetRefused → ⊥) → EndsSession (run_on edit_words files [] printed status) usual_budget (edits (codes "f")) → (printed ≡ []) × (status ≡ Done)
nothing_is_done files printed status other (answers_all text commands sheet commands_are s) =
    let none = no_lines s.transcript commands s.lines_are commands_are in
    (s.printed_are ∙ ap output_of none, s.status_is ∙ ap status_of none)
nothing_is_done files printed status other (refuses text why more so sheet refusing told_so) = absurd (other so)

pub no_line : (files : Files) → ¬ Keeps edit_words files [] (ended (codes "ok")) Done
no_line files keeps = absurd (cc (nothing_is_done files (ended (codes "ok")) Done (λ e. absurd (cc)) (edit_ends files [] (ended (codes "ok")) Done keeps (λ e. absurd (cc)) (λ c. c))).0)

pub none_refused : (files : Files) → ¬ Keeps edit_words files [] [] SomeRefused
none_refused files keeps = absurd (cc (nothing_is_done files [] SomeRefused (λ e. absurd (cc)) (edit_ends files [] [] SomeRefused keeps (λ e. absurd (cc)) (λ c. c))).1)

-- ---- a refusal that isn't told

abbrev pub first_byte : List ℕ → ℕ
first_byte [] = 0
first_byte (b ∷ bs) = b

pub never_refused : (b c : Bool) → SheetRefused ≡ worse_of b c → ⊥
never_refused true c is = absurd (cc)
never_refused false true is = absurd (cc)
never_refused false false is = absurd (cc)

quiet_refusal : (files : Files) → EndsSession (run_on edit_words files [] [] SheetRefused) usual_budget (edits (codes "f")) → ⊥
quiet_refusal files (answers_all text commands sheet commands_are s) = never_refused _ _ s.status_is
quiet_refusal files (refuses text why more so sheet refusing told_so) = let bytes : 0 ≡ 115 = ap first_byte told_so in omega (arith, bytes)

pub quietly_refused : (files : Files) → ¬ Keeps edit_words files [] [] SheetRefused
quietly_refused files keeps = quiet_refusal files (edit_ends files [] [] SheetRefused keeps (λ e. absurd (cc)) (λ c. c))

-- ---- a listing

abbrev listing_word : List ℕ
listing_word = codes "repairs"

cuts : Cuts listing_word (name listing_word ∷ [])
cuts = cuts_to_end listing_word (name listing_word ∷ []) (cut_name listing_word [] [] (small_name _ _ refl refl refl) nothing done)

long : 0 < length listing_word
long = omega arith

asks_listing : IsCommandReading listing_word (asks asks_repairs)
asks_listing = one_word listing_word cuts long (λ seen. absurd (cc)) (λ here. omega (arith, here)) asks_repairs (record { rest = []; words = refl; follows = refl })

abbrev listing_line : List ℕ
listing_line = codes "repairs\n"

-- what is printed as `ok` was no listing
not_a_listing : (u : Universe) (ls : List ListedPart) → ended (codes "ok") ≡ listing_text u ls → ⊥
not_a_listing u [] e = let bytes : 111 ≡ 0 = ap first_byte e in omega (arith, bytes)
not_a_listing u (l ∷ ls) e = let bytes : 111 ≡ 112 = ap first_byte e in omega (arith, bytes)

no_ok : (sheet : Sheet) (kind : PageKind) (text : List ℕ) → IsTaskOf sheet asks_repairs (shows kind) → TellsPage sheet kind text → ended (codes "ok") ≡ text → ⊥
no_ok sheet kind text listing tells same = not_a_listing sheet.universe tells.is.listing (same ∙ tells.is.told)

no_edit : (sheet : Sheet) (edit : Task) → IsTaskOf sheet asks_repairs edit → ¬ IsEdit edit
no_edit sheet edit listing is_edit = is_edit

module _ (read : CommandsHaveOneReading) where
  asks_so : (a : Asked) → IsCommandReading listing_word (asks a) → a ≡ asks_repairs
  asks_so a reading = asked_same a asks_repairs (read listing_word (asks a) (asks asks_repairs) reading asks_listing)

  never_ok : (start end : State) (answer : Answer) → Answers start listing_word answer end → ended (codes "ok") ≡ answer_text answer → Done ≡ status_of ((listing_line, answer) ∷ []) → ⊥
  never_ok start end answer (nothing_asked none) same status = absurd (cc)
  never_ok start end answer (edit_done edit asked is_edit) same status = no_edit start.sheet edit (subst (λ a. IsTaskOf start.sheet a edit) (asks_so asked.0 asked.1) asked.2) is_edit
  never_ok start end answer (page_shown kind text asked tells) same status = no_ok start.sheet kind text (subst (λ a. IsTaskOf start.sheet a (shows kind)) (asks_so asked.0 asked.1) asked.2) tells same
  never_ok start end answer (not_doable why is) same status = absurd (cc)
  never_ok start end answer (contradicting r certificate is shows_it) same status = absurd (cc)
  never_ok start end answer (budget_spent counts short placed) same status = absurd (cc)
  never_ok start end answer (memory_lacking takes) same status = absurd (cc)

pub one_answer : (t : Transcript) (commands : List (List ℕ)) (line : List ℕ) → lines t ≡ commands → commands ≡ line ∷ [] → (answer : Answer) × (t ≡ (line, answer) ∷ [])
one_answer [] commands line are is = absurd (cc (are, is))
one_answer (p ∷ (q ∷ more)) commands line are is = absurd (cc (are, is))
one_answer (p ∷ []) commands line are is = (p.1, ap (λ (l : List ℕ). (l, p.1) ∷ []) (head_is p.0 line (are ∙ is)))
  where
    head_is : (x y : List ℕ) → x ∷ [] ≡ y ∷ [] → x ≡ y
    head_is x y e = cc

pub ok_for_repairs : CommandsHaveOneReading → (files : Files) → ¬ Keeps edit_words files listing_line (ended (codes "ok")) Done
ok_for_repairs read files keeps = by (edit_ends files listing_line (ended (codes "ok")) Done keeps (λ e. absurd (cc)) (λ c. c))
  where
    by : EndsSession (run_on edit_words files listing_line (ended (codes "ok")) Done) usual_budget (edits (codes "f")) → ⊥
    by (answers_all text commands sheet commands_are s) =
        let one = one_answer s.transcript commands listing_line s.lines_are commands_are in
        let legal = subst (λ (t : Transcript). Legal Answers s.start t s.end) one.1 s.legal in
        never_ok read s.start legal.0 one.0 legal.1 (s.printed_are ∙ ap output_of one.1 ∙ append-nil (answer_text one.0)) (s.status_is ∙ ap status_of one.1)
    by (refuses text why more so sheet refusing told_so) = absurd (cc)

-- ---- a demonstration

pub one_digit : IsNumber 3 256 (codes "1") 1
one_digit =
    let written = decimal_digit 1 (omega arith) in
    let read = decimal_is_IsNumeral_wide 1 (omega arith) in
    let short : length (codes "1") ≡ 1 = refl in
    record {
      numeral = subst (IsNumeral 10) written read.0;
      short = omega (arith, short);
      value = sym (subst (λ (d : List ℕ). digits_value 10 d ≡ 1) written read.1);
      some = omega arith;
      within = omega arith;
    }

not_silent : (s : Summary) (loaded more : List ℕ) → loaded ≡ summary_text (codes "loaded") s → [] ≡ loaded ++ more → ⊥
not_silent s loaded more is e = let bytes : 0 ≡ 108 = ap first_byte (e ∙ ap (λ (xs : List ℕ). xs ++ more) is) in omega (arith, bytes)

pub demo_ends : (files : Files) (printed : List ℕ) (status : Status) → Demonstrated demo_words files [] printed status → (status ≡ Memory → ⊥) → ¬ IsCutOff status → EndsDemonstration (run_on demo_words files [] printed status) usual_budget 1
demo_ends files printed status keeps other uncut = elim (keeps (run_on demo_words files [] printed status) (told demo_words files [] printed status) uncut 1 usual_budget (inl ((codes "1", refl, one_digit), refl))) [
  | inl ends ↦ ends
  | inr lacks ↦ absurd (other lacks.0)
]

-- the byte at which `13` and `14` differ
abbrev pub sixteenth : List ℕ → ℕ
sixteenth text = get_or text 15 0

abbrev told_inconsistent : List ℕ
told_inconsistent = ended (codes "sheet refused 13 inconsistent")

refused_so : (files : Files) → EndsDemonstration (run_on demo_words files [] told_inconsistent SheetRefused) usual_budget 1 → ⊥
refused_so files (demonstrates_all d) = never_refused _ _ d.status_is
refused_so files (has_too_little counts so short placed told_so) = let bytes : 51 ≡ 52 = ap sixteenth told_so in omega (arith, bytes)

pub refused_demo : (files : Files) → ¬ Demonstrated demo_words files [] told_inconsistent SheetRefused
refused_demo files keeps = refused_so files (demo_ends files told_inconsistent SheetRefused keeps (λ e. absurd (cc)) (λ c. c))

silent_so : (files : Files) → EndsDemonstration (run_on demo_words files [] [] Done) usual_budget 1 → ⊥
silent_so files (demonstrates_all d) = not_silent d.sums.0 d.loaded _ d.sums.2 d.printed_are
silent_so files (has_too_little counts so short placed told_so) = absurd (cc)

pub silent_demo : (files : Files) → ¬ Demonstrated demo_words files [] [] Done
silent_demo files keeps = silent_so files (demo_ends files [] Done keeps (λ e. absurd (cc)) (λ c. c))
