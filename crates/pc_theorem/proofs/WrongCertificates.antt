-- Certificates that no line may have.
use Rattle.std.proofs.Common.{◌≡◌, ◌≢◌, ℕ, List, [], ◌∷◌, length, codes, Any, Contains, refl, sym, ◌∙◌, ap, subst, arith}
use Rattle.std.proofs.lemmas.List.{append_cancel_left}
use Rattle.std.specs.List.{AllZip}
use Rattle.std.specs.Str.Lines.{lines}
use Rattle.pc_lemmas.proofs.Elements.{contains_first, contains_later, contains_none}
use Rattle.pc_laws.specs.Laws.{ImpliedHasOneLeastSupport}
use Rattle.pc_syntax.specs.Tree.{asks_prove_repairs}
use Rattle.pc_sheet.specs.Sheet.{Sheet, Statement, NamedStatement, negation}
use Rattle.pc_sheet.specs.Entailment.{IsImplied, IsLeastSupport}
use Rattle.pc_sheet.specs.MaximalSets.{IsMaximalSet}
use Rattle.pc_sheet.specs.WellFormed.{IsWellFormed}
use Rattle.pc_sheet.specs.declared.ids.Entry.{Entry}
use Rattle.pc_sheet.specs.declared.ids.Target.{Target}
use Rattle.pc_accept.specs.Accepts.{unimplied, against}
use Rattle.pc_accept.specs.Asked.{denial, asked, IsStatementImplied}
use Rattle.pc_cert.specs.Claims.{written_implied, written_inconsistent, written_repairs, written_unimplied, written_against}
use Rattle.pc_writer.specs.SheetText.{ended}
use Rattle.pc_transcript.specs.Answer.{shown}
use Rattle.pc_spreadsheet.specs.Judgement.{does}
use Rattle.pc_spreadsheet.specs.Laws.{LinesHaveOneVerdict}
use Rattle.pc_spreadsheet.specs.Tasks.{State, PageKind, proof_page, whynot_page, ask_page, shows, IsTaskOf, proving, IsTask}
use Rattle.pc_theorem.specs.Certificates.{IsClaimLine, IsSetLine, IsUseLine, ArePartedAtSets, none_left, other_line, set_line, AreUsedBy}
use Rattle.pc_theorem.specs.Formulas.{AnswersFormula, not_entailed, by_least}
use Rattle.pc_theorem.specs.Sets.{Doubts, is_implied, by_sets}
use Rattle.pc_theorem.specs.Theorem.{TellsPage, Explains, not_implied, by_support, Answers, page_shown}
use Rattle.pc_theorem.specs.WrongAnswers.{BrokenCertificates}
use Rattle.pc_theorem.proofs.BrokenAnswers.{of_one, same_page, explains_it, first_text}
use Rattle.pc_theorem.proofs.Clearing.{CommandsHaveOneReading}
use Rattle.pc_theorem.proofs.WrongPages.{told_page}

-- ---- the page that is asked for

told_kind : LinesHaveOneVerdict → (state next : State) (line text : List ℕ) (wanted : PageKind) → IsWellFormed state.sheet → IsTask state line (shows wanted) → Answers state line (shown text) next → TellsPage state.sheet wanted text
told_kind one state next line text wanted formed asks_it (page_shown kind said asked_so tells) =
    subst (λ k. TellsPage state.sheet k text) (same_page kind wanted (one state formed line (does (shows kind)) (does (shows wanted)) asked_so asks_it)) tells

-- ---- by supports

explained_wrongly : (sheet : Sheet) (t : Target) (text : List ℕ) → ¬ IsImplied sheet t → text ≢ ended (codes "not implied") → ¬ Explains sheet t text
explained_wrongly sheet t text never other (not_implied none told) = other told
explained_wrongly sheet t text never other (by_support uses least by) = never (uses, least.supports)

-- lines without a set are all in front
front_is_all : (ls front : List (List ℕ)) (behind : List (List (List ℕ))) → ArePartedAtSets ls front behind → behind ≡ [] → front ≡ ls
front_is_all ls front behind none_left none = refl
front_is_all ls front behind (other_line {line = line} not_set more) none = ap (λ (xs : List (List ℕ)). line ∷ xs) (front_is_all _ _ _ more none)
front_is_all ls front behind (set_line is more) none = absurd (cc)

nothing_behind : (sheet : Sheet) (behind : List (List (List ℕ))) → AllZip (AreUsedBy sheet) behind [] → behind ≡ []
nothing_behind sheet [] given = refl
nothing_behind sheet (x ∷ xs) given = absurd given

uses_more : ImpliedHasOneLeastSupport → (sheet : Sheet) (t : Target) (text : List ℕ) (s : List Entry) (e : Entry) → IsWellFormed sheet → IsLeastSupport sheet s t → ¬ Contains s e → Any (λ said. IsUseLine sheet said e) (lines text) → ¬ Explains sheet t text
uses_more one_least sheet t text s e formed is lacks used (not_implied none told) = none (s, is.supports)
uses_more one_least sheet t text s e formed is lacks used (by_support uses least by) =
    let only = one_least sheet t formed.entries.distinct (s, is.supports) in
    let same : uses ≡ s = only.2 uses least ∙ sym (only.2 s is) in
    let front = front_is_all (lines text) by.claims.front by.claims.behind by.claims.parted (nothing_behind sheet by.claims.behind by.claims.given) in
    lacks (subst (λ (xs : List Entry). Contains xs e) same ((by.claims.used e).1 (subst (Any (λ said. IsUseLine sheet said e)) (sym front) used)))

-- ---- by sets

none_behind : (ls front : List (List ℕ)) (behind : List (List (List ℕ))) → ((said : List ℕ) → Contains ls said → ¬ IsSetLine said) → ArePartedAtSets ls front behind → behind ≡ []
none_behind ls front behind none none_left = refl
none_behind ls front behind none (other_line {line = line} {more = rest} not_set more) = none_behind rest _ behind (λ said there. none said (contains_later line rest said there)) more
none_behind ls front behind none (set_line {line = line} {more = rest} is more) = absurd (none line (contains_first line rest) is)

no_given : (sheet : Sheet) (behind : List (List (List ℕ))) (sets : List (List Entry)) → behind ≡ [] → AllZip (AreUsedBy sheet) behind sets → sets ≡ []
no_given sheet [] [] none given = refl
no_given sheet [] (s ∷ ss) none given = absurd given
no_given sheet (x ∷ xs) sets none given = absurd (cc)

only_proof : (sheet : Sheet) (kind : PageKind) → IsTaskOf sheet asks_prove_repairs (shows kind) → kind ≡ proof_page
only_proof sheet kind (proving few) = refl

gives_sets : (sheet : Sheet) (text : List ℕ) (s : List Entry) → TellsPage sheet proof_page text → IsMaximalSet sheet s → ((said : List ℕ) → Contains (lines text) said → ¬ IsSetLine said) → ⊥
gives_sets sheet text s proves maximal none =
    let empty = no_given sheet proves.claims.behind proves.sets (none_behind (lines text) proves.claims.front proves.claims.behind none proves.claims.parted) proves.claims.given in
    contains_none s (subst (λ (ss : List (List Entry)). Contains ss s) empty ((proves.exact.exact s).1 maximal))

-- ---- what claims nothing

not_unimplied : (sheet : Sheet) (t : Target) → ¬ IsClaimLine sheet (codes "implied") (unimplied t)
not_unimplied sheet t (written_implied p holds, is, named) = absurd named
not_unimplied sheet t (written_inconsistent, is, named) = absurd named
not_unimplied sheet t (written_repairs, is, named) = absurd named
not_unimplied sheet t (written_unimplied p, is, named) = let bytes : 105 ≡ 99 = ap first_text is.0.is in omega (arith, bytes)
not_unimplied sheet t (written_against n, is, named) = absurd named

not_against : (sheet : Sheet) (r : ℕ) → ¬ IsClaimLine sheet (codes "not implied") (against r)
not_against sheet r (written_implied p holds, is, named) = absurd named
not_against sheet r (written_inconsistent, is, named) = absurd named
not_against sheet r (written_repairs, is, named) = absurd named
not_against sheet r (written_unimplied p, is, named) = absurd named
not_against sheet r (written_against n, is, named) = let bytes : 110 ≡ 99 = ap first_text is.0 in omega (arith, bytes)

implied_line : lines (ended (codes "implied")) ≡ codes "implied" ∷ []
implied_line = refl

not_implied_line : lines (ended (codes "not implied")) ≡ codes "not implied" ∷ []
not_implied_line = refl

never_implied : (sheet : Sheet) (t : Target) → ¬ IsImplied sheet t → ¬ Doubts sheet t (ended (codes "implied"))
never_implied sheet t never (is_implied is told) = never is
never_implied sheet t never (by_sets none proves) =
    not_unimplied sheet t (of_one (λ line. IsClaimLine sheet line (unimplied t)) (codes "implied") (subst (Any (λ line. IsClaimLine sheet line (unimplied t))) implied_line proves.claims.claimed))

never_unentailed : (sheet : Sheet) (f : Statement) → IsStatementImplied sheet f → ¬ AnswersFormula sheet f (ended (codes "not implied"))
never_unentailed sheet f is (not_entailed never told) = never is
never_unentailed sheet f is (by_least uses least claims accepted) =
    let r = length sheet.rules in
    not_against (asked sheet f) r (of_one (λ line. IsClaimLine (asked sheet f) line (against r)) (codes "not implied") (subst (Any (λ line. IsClaimLine (asked sheet f) line (against r))) not_implied_line claims.claimed))

-- ---- the formula that is asked

abbrev rules_of : Sheet → List NamedStatement
rules_of sheet = sheet.rules

same_denial : (f g : Statement) → denial f ∷ [] ≡ denial g ∷ [] → f ≡ g
same_denial f g e = let first : denial f ≡ denial g = cc in let states : negation f ≡ negation g = ap (λ (r : NamedStatement). r.states) first in cc states

one_asked : (sheet : Sheet) (f g : Statement) → asked sheet f ≡ asked sheet g → f ≡ g
one_asked sheet f g e = same_denial f g (append_cancel_left sheet.rules (denial f ∷ []) (denial g ∷ []) (ap rules_of e))

not_entailed_so : (sheet : Sheet) (f : Statement) → IsStatementImplied sheet f → TellsPage sheet (ask_page (asked sheet f)) (ended (codes "not implied")) → ⊥
not_entailed_so sheet f is (g, made, answers) = never_unentailed sheet g (subst (IsStatementImplied sheet) (one_asked sheet f g made) is) answers

pub broken_certificates : CommandsHaveOneReading → LinesHaveOneVerdict → ImpliedHasOneLeastSupport → BrokenCertificates
broken_certificates read one one_least = record {
  certified_wrongly = λ state next line text t formed asks_it never other answers. explained_wrongly state.sheet t text never other (explains_it one state next line text t formed asks_it answers);
  more_used = λ state next line text t s e formed asks_it least lacks used answers. uses_more one_least state.sheet t text s e formed least lacks used (explains_it one state next line text t formed asks_it answers);
  no_sets = λ state next line text s reading maximal none answers. gives_sets state.sheet text s (told_page read state next line text asks_prove_repairs proof_page (only_proof state.sheet) reading answers) maximal none;
  told_implied = λ state next line t formed asks_it never answers. never_implied state.sheet t never (told_kind one state next line (ended (codes "implied")) (whynot_page t) formed asks_it answers);
  told_not_entailed = λ state next line f formed asks_it is answers. not_entailed_so state.sheet f is (told_kind one state next line (ended (codes "not implied")) (ask_page (asked state.sheet f)) formed asks_it answers);
}
