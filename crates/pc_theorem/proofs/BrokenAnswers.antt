-- Answers that no line may have.
use Rattle.std.proofs.Common.{◌≡◌, ◌≢◌, ℕ, zero, suc, ◌<◌, ◌≤◌, Bool, true, false, cond, List, [], ◌∷◌, length, codes, Any, map, refl, sym, ap, subst, inl, inr, arith}
use Rattle.std.specs.Str.Lines.{lines}
use Rattle.pc_token.specs.Line.{IsOneName}
use Rattle.pc_syntax.specs.Tree.{asks_clear, asks_show, Cell}
use Rattle.pc_syntax.specs.Command.{IsCommandReading, asks}
use Rattle.pc_sheet.specs.Sheet.{Sheet, Statement}
use Rattle.pc_sheet.specs.Entailment.{cell_sizes, AreWithin, IsImplied}
use Rattle.pc_sheet.specs.WellFormed.{IsWellFormed}
use Rattle.pc_sheet.specs.declared.ids.Entry.{Entry}
use Rattle.pc_sheet.specs.declared.ids.ValueId.{ValueId}
use Rattle.pc_lemmas.proofs.Elements.{contains_first}
use Rattle.pc_sheet.specs.declared.ids.CellId.{CellId}
use Rattle.pc_sheet.specs.declared.ids.Target.{Target}
use Rattle.std.specs.declared.option.Option.{Option}
use Rattle.pc_laws.specs.Examples.{equal_cells, entry, red, green}
use Rattle.pc_books.specs.Edits.{without_cell}
use Rattle.pc_enough_laws.specs.Amounts.{enough}
use Rattle.pc_enough_laws.specs.Enough.{enough_for_all}
use Rattle.pc_accept.specs.Accepts.{implied, value_of_entry}
use Rattle.pc_cert.specs.Claims.{written_implied, written_inconsistent, written_repairs, written_unimplied, written_against}
use Rattle.pc_writer.specs.SheetText.{ended}
use Rattle.pc_display.specs.Show.{IsShown}
use Rattle.pc_refusals.specs.declared.refusal.Counts.{Counts}
use Rattle.pc_refusals.specs.declared.refusal.Refusal.TheVariants.{Inconsistent, Spent}
use Rattle.pc_transcript.specs.Answer.{Answer, shown, refused, no_memory}
use Rattle.pc_words.specs.Words.{usual_budget}
use Rattle.pc_spreadsheet.specs.Judgement.{does, refuses}
use Rattle.pc_spreadsheet.specs.Laws.{LinesHaveOneVerdict}
use Rattle.pc_spreadsheet.specs.Allowed.{NeedsSearch, to_clear, NeedsProof, NeedsAnswer}
use Rattle.pc_spreadsheet.specs.Tasks.{State, PageKind, lines_page, why_page, shows, IsTaskOf, showing, IsTask}
use Rattle.pc_run_laws.proofs.WorkedBudgets.{no_verdict_spent}
use Rattle.pc_theorem.specs.Certificates.{IsClaimLine, IsValueLine, Assigns}
use Rattle.pc_theorem.specs.Theorem.{TellsPage, Explains, not_implied, by_support, Answers, nothing_asked, edit_done, page_shown, not_doable, contradicting, budget_spent, memory_lacking}
use Rattle.pc_theorem.specs.Budgets.{HasTooLittle, to_edit, to_prove, to_ask}
use Rattle.pc_theorem.specs.Examples.{BrokenAnswers}
use Rattle.pc_theorem.proofs.Clearing.{CommandsHaveOneReading, asked_same}

-- ---- `show`

pub only_display : (sheet : Sheet) (kind : PageKind) → IsTaskOf sheet asks_show (shows kind) → kind ≡ lines_page
only_display sheet kind showing = refl

pub shown_is_display : (sheet : Sheet) (kind : PageKind) (text display : List ℕ) → kind ≡ lines_page → TellsPage sheet kind text → IsShown sheet display → display ≡ text
shown_is_display sheet kind text display same tells is = (subst (λ k. TellsPage sheet k text) same tells).only display is

other_display : CommandsHaveOneReading → (state next : State) (line text display : List ℕ) → IsCommandReading line (asks asks_show) → IsShown state.sheet display → text ≢ display → ¬ Answers state line (shown text) next
other_display read state next line text display reading is other (page_shown kind said asked tells) =
    let a_is = asked_same asked.0 asks_show (read line (asks asked.0) (asks asks_show) asked.1 reading) in
    other (sym (shown_is_display state.sheet kind text display (only_display state.sheet kind (subst (λ a. IsTaskOf state.sheet a (shows kind)) a_is asked.2)) tells is))

memory_for_show : (state next : State) (line : List ℕ) → IsOneName line (codes "show") → ¬ Answers state line no_memory next
memory_for_show state next line one (memory_lacking takes) = takes (inr (inl one))

-- ---- `why`

abbrev pub first_byte : List ℕ → ℕ
first_byte [] = 0
first_byte (b ∷ bs) = b

abbrev pub first_text : List (List ℕ) → ℕ
first_text [] = 0
first_text (t ∷ ts) = first_byte t

-- the line `not implied` claims nothing
claims_nothing : (sheet : Sheet) (t : Target) → ¬ IsClaimLine sheet (codes "not implied") (implied t)
claims_nothing sheet t (written_implied p holds, is, named) = let bytes : 110 ≡ 99 = ap first_text is.0.is in omega (arith, bytes)
claims_nothing sheet t (written_inconsistent, is, named) = absurd named
claims_nothing sheet t (written_repairs, is, named) = absurd named
claims_nothing sheet t (written_unimplied p, is, named) = absurd named
claims_nothing sheet t (written_against n, is, named) = absurd named

one_line : lines (ended (codes "not implied")) ≡ codes "not implied" ∷ []
one_line = refl

pub of_one : (P : List ℕ → Type 0) (x : List ℕ) → Any P (x ∷ []) → P x
of_one P x (zero, y, inside, same, p) = subst P (sym same) p
of_one P x (suc k, y, inside, same, p) = absurd (omega (arith, inside))

never_not_implied : (sheet : Sheet) (t : Target) → IsImplied sheet t → ¬ Explains sheet t (ended (codes "not implied"))
never_not_implied sheet t is (not_implied never told) = never is
never_not_implied sheet t is (by_support uses least by) =
    claims_nothing sheet t (of_one (λ line. IsClaimLine sheet line (implied t)) (codes "not implied") (subst (Any (λ line. IsClaimLine sheet line (implied t))) one_line by.claims.claimed))

-- where there is a cell, some value is given
no_values : (sizes : List ℕ) (a : List ValueId) → 0 < length sizes → AreWithin sizes a → a ≡ [] → ⊥
no_values [] a some within none = absurd (omega (arith, some))
no_values (n ∷ ns) [] some within none = within
no_values (n ∷ ns) (v ∷ vs) some within none = absurd (cc)

never_unassigned : (sheet : Sheet) (t : Target) (text : List ℕ) → IsImplied sheet t → 0 < length (cell_sizes sheet.universe) → ((e : Entry) → ¬ Any (λ line. IsValueLine sheet line e) (lines text)) → ¬ Explains sheet t text
never_unassigned sheet t text is some none (not_implied never told) = never is
never_unassigned sheet t text is some none (by_support uses least by) = no_values (cell_sizes sheet.universe) (map value_of_entry by.values) some by.shown.assigns (nothing_given by.values by.assigns)
  where
    nothing_given : (values : List Entry) → Assigns sheet text values → map value_of_entry values ≡ []
    nothing_given [] assigns = refl
    nothing_given (v ∷ vs) assigns = absurd (none v ((assigns v).0 (contains_first v vs)))

-- one page is asked for
pub same_page : (kind other : PageKind) → does (shows kind) ≡ does (shows other) → kind ≡ other
same_page kind other same = cc

pub explains_it : LinesHaveOneVerdict → (state next : State) (line text : List ℕ) (t : Target) → IsWellFormed state.sheet → IsTask state line (shows (why_page t)) → Answers state line (shown text) next → Explains state.sheet t text
explains_it one state next line text t formed asks_why (page_shown kind said asked tells) = subst (λ k. TellsPage state.sheet k text) (same_page kind (why_page t) (one state formed line (does (shows kind)) (does (shows (why_page t))) asked asks_why)) tells

-- ---- a spent budget

-- of two cells, what is left where one is cleared
few_left : (b c : Bool) → enough 5 (length (cond b (entry 0 red ∷ cond c (entry 1 green ∷ []) []) (cond c (entry 1 green ∷ []) []))) 8 ≤ 4375
few_left true true = omega arith
few_left true false = omega arith
few_left false true = omega arith
few_left false false = omega arith

cleared_is_small : (k : CellId) → enough_for_all (without_cell equal_cells k) ≤ 4375
cleared_is_small k = few_left _ _

no_proof : (sheet : Sheet) (c : Cell) → ¬ NeedsProof sheet (asks_clear c)
no_proof sheet c needs = elim needs [ ]

no_formula : (sheet : Sheet) (c : Cell) (f : Statement) → ¬ NeedsAnswer sheet (asks_clear c) f
no_formula sheet c f needs = elim needs [ ]

enough_to_clear : (c : Cell) (cell : Option CellId) (made : Sheet) → NeedsSearch equal_cells (asks_clear c) cell made → enough_for_all made ≤ 4375
enough_to_clear c cell made (to_clear k named has used) = cleared_is_small k

abbrev two_cells : State
two_cells = record { sheet = equal_cells; budget = usual_budget }

has_enough : CommandsHaveOneReading → (line : List ℕ) (c : Cell) → IsCommandReading line (asks (asks_clear c)) → ¬ HasTooLittle two_cells line
has_enough read line c reading (to_edit a cell made other needs short) =
    let a_is = asked_same a (asks_clear c) (read line (asks a) (asks (asks_clear c)) other reading) in
    let few = enough_to_clear c cell made (subst (λ x. NeedsSearch equal_cells x cell made) a_is needs) in
    omega (arith, few, short)
has_enough read line c reading (to_prove a other needs short) =
    let a_is = asked_same a (asks_clear c) (read line (asks a) (asks (asks_clear c)) other reading) in
    no_proof equal_cells c (subst (NeedsProof equal_cells) a_is needs)
has_enough read line c reading (to_ask a f other needs short) =
    let a_is = asked_same a (asks_clear c) (read line (asks a) (asks (asks_clear c)) other reading) in
    no_formula equal_cells c f (subst (λ x. NeedsAnswer equal_cells x f) a_is needs)

-- what is told as spent has too little budget
pub too_little : (state next : State) (line more : List ℕ) (answer : Answer) (counts : Counts) → answer ≡ refused (Spent counts) more → Answers state line answer next → HasTooLittle state line
too_little state next line more answer counts same (nothing_asked none) = absurd (cc)
too_little state next line more answer counts same (edit_done edit asked edits) = absurd (cc)
too_little state next line more answer counts same (page_shown kind text asked tells) = absurd (cc)
too_little state next line more answer counts same (not_doable why is) = let why_is : why ≡ Spent counts = cc in absurd (no_verdict_spent state line (refuses why) counts [] is (ap (λ w. refused w []) (sym why_is)))
too_little state next line more answer counts same (contradicting r certificate is shows_it) = let why_is : Inconsistent ≡ Spent counts = cc in absurd (cc why_is)
too_little state next line more answer counts same (budget_spent told short placed) = short
too_little state next line more answer counts same (memory_lacking takes) = absurd (cc)

pub broken_answers : CommandsHaveOneReading → LinesHaveOneVerdict → BrokenAnswers
broken_answers read one = record {
  other_display = other_display read;
  memory_for_show = memory_for_show;
  told_not_implied = λ state next line t formed asked is answers. never_not_implied state.sheet t is (explains_it one state next line (ended (codes "not implied")) t formed asked answers);
  unassigned = λ state next line text t formed asked is some none answers. never_unassigned state.sheet t text is some none (explains_it one state next line text t formed asked answers);
  spent_at_once = λ next line more c counts reading answers. has_enough read line c reading (too_little two_cells next line more (refused (Spent counts) more) counts refl answers);
}
