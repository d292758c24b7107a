-- What comes of asking a formula.
use Rattle.std.proofs.Common.{◌≡◌, ℕ, ◌+◌, ◌*◌, ◌-◌, ◌<◌, ◌≤◌, Bool, true, false, Result, Ok, Err, List, [], ◌∷◌, ◌++◌, None, length, refl, sym, ap, ap₂, subst, arith, inl, inr, ◌∙◌}
use Rattle.std.specs.Prelude.{codes, cond, nat_lt, Box, IfErr, IfOk, MatchResult}
use Rattle.std.specs.declared.alloc.Global.{Global}
use Rattle.pc_sheet.specs.Views.{rule_of, statement_of}
use Rattle.pc_sheet.specs.declared.formula.Formula.{Formula}
use Rattle.pc_sheet.specs.declared.formula.Formula.TheVariants as formulas
use Rattle.pc_sheet.specs.declared.formula.Rule.{Rule}
use Rattle.pc_elaborate.proofs.FormulaTold.{statement_of-Not}
use Rattle.std.proofs.lemmas.List.{length-append}
use Rattle.pc_name.specs.Names.{IsName}
use Rattle.pc_name.proofs.Letters.{small_name}
use Rattle.pc_formula.specs.Tree as written
use Rattle.pc_syntax.specs.Tree.{not, asks_ask}
use Rattle.pc_lits.specs.declared.tally.Tally.{Tally}
use Rattle.pc_log.specs.Lines.{LogLine}
use Rattle.pc_sheet.specs.Sheet.{Sheet, Statement, NamedStatement, negation, with_rule}
use Rattle.pc_sheet.specs.Nesting.{nesting_of, tightness, parentheses}
use Rattle.pc_sheet.specs.WellFormed.{IsWellFormed}
use Rattle.pc_sheet.specs.WellSorted.{IsWellSorted}
use Rattle.pc_sheet.specs.Limits.{most_weight}
use Rattle.pc_sheet.specs.Weight.{weight}
use Rattle.pc_accept.specs.Asked.{ask_name, denial, asked}
use Rattle.pc_accept.specs.Accepts.{Certificate}
use Rattle.pc_world_list.specs.RuleCertificates.{GoesAgainst, IsAgainstRule}
use Rattle.pc_cert_text.specs.CertificateText.{certificate_text}
use Rattle.pc_ground.specs.Naming.{names_of}
use Rattle.pc_axiom_names.specs.Listed.{NameLists}
use Rattle.pc_elaborate.specs.declared.fault.SortFault.{SortFault}
use Rattle.pc_elaborate.specs.declared.fault.SortFault.TheVariants as sort_fault
use Rattle.pc_sheet.specs.declared.limits.Limited.TheVariants.{Rules}
use Rattle.pc_elaborate.specs.Elaboration.{IsStatement, is_negation}
use Rattle.pc_elaborate.specs.FormulaFaults.{IsFormulaFault}
use Rattle.pc_elaborate.specs.Tests.{no_test}
use Rattle.pc_elaborate.specs.Told.{IsFaultOf}
use Rattle.pc_sortcheck.specs.DeclarationFaults.{IsRuleFault}
use Rattle.pc_theory.specs.WholeSpendings.{IsSpentWhole}
use Rattle.pc_repairs.specs.Searches.{IsWholeSearch}
use Rattle.pc_ask.specs.Asking.{AreReadSizes, IsAnswer}
use Rattle.pc_ask.specs.declared.answer.Answer.{Answer}
use Rattle.pc_books.specs.RuleNames.{IsNewName, IsRuleAt}
use Rattle.pc_session.specs.Views.{SessionView}
use Rattle.pc_session.specs.Views as session
use Rattle.pc_refusals.specs.declared.refusal.Refusal.TheVariants.{DuplicateRule}
use Rattle.pc_transcript.specs.declared.machine.Reply.TheVariants.{Refused}
use Rattle.pc_spreadsheet.specs.declared.page.AskProof.{AskProof}
use Rattle.pc_spreadsheet.specs.Refused.{of_rule_ask, too_large_asked}
use Rattle.pc_spreadsheet.specs.Tasks.{State, shows, ask_page, IsDenialRule, IsNewDenial, IsLight, IsTaskOf, inquiring}
use Rattle.pc_spreadsheet.specs.Pages.{ProvesAsked, IsAnsweredIn, by_support}
use Rattle.pc_spreadsheet.specs.Allowed.{Notes, to_answer}
use Rattle.pc_spreadsheet.specs.Commands.{Told, state_of, Obeys, judged, ask_spent}
use Rattle.pc_spreadsheet.specs.inside.Repairs.{HasSpent, NotesWhole, noted, not_noted}
use Rattle.pc_spreadsheet.specs.inside.Asking.{Answers, by_lines, by_lack, by_weight, by_search, by_want, Certified, with_lines, without_room}
use Rattle.pc_spreadsheet.proofs.Places.{not_new}
use Rattle.pc_spreadsheet.proofs.Rules.{formed_with}
use Rattle.pc_spreadsheet.proofs.Proving.{search_is_spent, is_spent_whole, with_fewer}

-- ---- the rule that denies a formula

abbrev rule_from : List ℕ → Statement → NamedStatement
rule_from name states = record { name = name; states = states }

pub ask_is_name : IsName ask_name
ask_is_name = small_name 97 (codes "sk") refl refl refl

one_at_most : (b : Bool) → cond b 1 0 ≤ 1
one_at_most true = omega arith
one_at_most false = omega arith

denied_nesting : (s : Statement) (n : ℕ) → nesting_of s ≡ n → n ≤ 126 → nesting_of (negation s) ≤ 128
denied_nesting s n same within =
    let one : parentheses 5 s ≤ 1 = one_at_most (nat_lt (tightness s) 5) in
    let is : nesting_of (negation s) ≡ 1 + parentheses 5 s + nesting_of s = refl in
    omega (arith, is, one, same, within)

pub denial_found : (sheet : Sheet) (f : written.Formula) (s : Statement) (n : ℕ) → IsStatement sheet.universe [] f s × IsWellSorted sheet.universe [] s → nesting_of s ≡ n → n ≤ 126 → length sheet.rules < 1024 → IsDenialRule sheet f s
denial_found sheet f s n told same within room = record {
  name = refl;
  states = is_negation [] f s told.0;
  formed = record { named = ask_is_name; sorted = told.1; nesting = denied_nesting s n same within };
  room = room;
}

pub denied_rule : (r : Rule) (s : Statement) (b : Box Formula Global) → r.name ≡ ask_name → r.formula ≡ formulas.Not b → statement_of b.value ≡ s → rule_of r ≡ denial s
denied_rule r s b named is same = ap₂ rule_from named (ap statement_of is ∙ statement_of-Not b ∙ ap negation same)

-- a fault of the formula is one of its denial
pub fault_denied : (sheet : Sheet) (f : written.Formula) (e : SortFault) → IsFaultOf (IsFormulaFault sheet.universe [] f) e → IsFaultOf (IsRuleFault sheet (not f) no_test) e
fault_denied sheet f sort_fault.UnknownName is = inl is
fault_denied sheet f sort_fault.DuplicateName is = inl is
fault_denied sheet f sort_fault.WrongArity is = inl is
fault_denied sheet f sort_fault.WrongSort is = inl is
fault_denied sheet f sort_fault.NotAValue is = inl is
fault_denied sheet f sort_fault.EmptySort is = inl is
fault_denied sheet f (sort_fault.Limit which) is = inl is
fault_denied sheet f sort_fault.Memory is = tt

pub no_room_denied : (sheet : Sheet) (f : written.Formula) (s : Statement) → IsStatement sheet.universe [] f s × IsWellSorted sheet.universe [] s → 1024 ≤ length sheet.rules → IsFaultOf (IsRuleFault sheet (not f) no_test) (sort_fault.Limit Rules)
no_room_denied sheet f s told many = inr ((negation s, is_negation [] f s told.0, told.1), inl ((λ room. absurd (omega (arith, room, many))), refl))

-- what the making of the rule answers
pub denied_told : (sheet : Sheet) (f : written.Formula) (s : Statement) (r : Result Rule SortFault) → IsDenialRule sheet f s → IfOk r (λ rule. rule_of rule ≡ denial s) → IfErr r (λ e. e ≡ sort_fault.Memory)
    → MatchResult r (λ rule. (t : Statement) × (rule_of rule ≡ denial t) × IsDenialRule sheet f t) (IsFaultOf (IsRuleFault sheet (not f) no_test))
denied_told sheet f s (Ok rule) is same want = (s, same, is)
denied_told sheet f s (Err e) is same want = subst (IsFaultOf (IsRuleFault sheet (not f) no_test)) (sym want) tt

-- ---- commands

abbrev pair_of : State → Notes → State × Notes
pair_of state notes = (state, notes)

pub name_taken : (s : SessionView) (n : Notes) (f : written.Formula) (st : Statement) (place : ℕ) → IsDenialRule s.sheet f st → IsRuleAt s.sheet.rules ask_name place → Obeys (state_of s, n) (asks_ask f) (Refused DuplicateRule None) (state_of s, n)
name_taken s n f st place is at = judged (of_rule_ask st is (λ new. not_new s.sheet.rules ask_name place (denial st) at new)) refl refl

page_task : (sheet : Sheet) (f : written.Formula) (st : Statement) (made : Sheet) → IsNewDenial sheet f st → IsLight (asked sheet st) → made ≡ asked sheet st → IsTaskOf sheet (asks_ask f) (shows (ask_page made))
page_task sheet f st made new light is = subst (λ (m : Sheet). IsTaskOf sheet (asks_ask f) (shows (ask_page m))) (sym is) (inquiring st new light)

pub answered_so : (s : SessionView) (n n' : Notes) (f : written.Formula) (st : Statement) (reply : Told) → IsNewDenial s.sheet f st → Answers s.budget s.sheet st n n' reply → Obeys (state_of s, n) (asks_ask f) reply (state_of s, n')
answered_so s n n' f st reply new (by_lines proof light proves same) = (page_task s.sheet f st proof.book new light proves.0, (st, proves), ap (pair_of (state_of s)) same)
answered_so s n n' f st reply new (by_lack made light is none same) = (page_task s.sheet f st made new light is, (st, is, none), ap (pair_of (state_of s)) same)
answered_so s n n' f st reply new (by_weight heavy same) = judged (too_large_asked st new heavy) refl (ap (pair_of (state_of s)) same)
answered_so s n n' f st reply new (by_search counts light spent) = ask_spent counts (st, to_answer st new light, spent) refl refl refl
answered_so s n n' f st reply new (by_want none) = (tt, ap (pair_of (state_of s)) none)

-- ---- answers

pub answer_proves : (sheet : Sheet) (f : Statement) (log : List LogLine) (answer : Answer) (p : AskProof) → p.book ≡ asked sheet f → IsAnswer sheet f log answer → p.support ≡ answer.support → p.shown ≡ answer.shown → p.names ≡ answer.names
    → GoesAgainst p.book (names_of p.book) (length p.book.rules - 1) answer.support.items answer.shown p.lines p.span → ProvesAsked sheet f p
answer_proves sheet f log answer p made is support shown names goes =
    (made, rw support is.least, rw support (rw shown (subst (λ (l : NameLists). GoesAgainst p.book l (length p.book.rules - 1) answer.support.items answer.shown p.lines p.span) (ap names_of made ∙ sym is.names ∙ sym names) goes)))

pub certified_so : (budget : ℕ) (sheet : Sheet) (f : Statement) (n : Notes) (reply : Told) → IsLight (asked sheet f) → Certified sheet f reply → Answers budget sheet f n n reply
certified_so budget sheet f n reply light (with_lines proof proves) = by_lines proof light proves refl
certified_so budget sheet f n reply light without_room = by_want refl

pub light_by : (sheet : Sheet) (f : Statement) (book : Sheet) → book ≡ asked sheet f → weight book ≤ most_weight → IsLight (asked sheet f)
light_by sheet f book made light = subst IsLight made light

pub heavy_by : (sheet : Sheet) (f : Statement) (book : Sheet) → book ≡ asked sheet f → most_weight < weight book → most_weight < weight (asked sheet f)
heavy_by sheet f book made heavy = subst (λ (b : Sheet). most_weight < weight b) made heavy

-- ---- what is spent

pub ask_is_spent : (book : Sheet) (budget most : ℕ) (log : List LogLine) (before after : Tally) → IsWholeSearch book [] most before after log → HasSpent book budget 0 [] before → HasSpent book budget most (log ∷ []) after
ask_is_spent book budget most log before after search none = with_fewer book budget (0 + most) most (log ∷ []) after (search_is_spent book budget 0 most [] log [] before after (omega arith) none search) (omega arith)

pub ask_noted : (sheet : Sheet) (f : Statement) (book : Sheet) (budget most : ℕ) (log : List LogLine) (before after : Tally) (n n' : Notes) (reply : Told) → book ≡ asked sheet f → IsLight (asked sheet f) → IsWholeSearch book [] most before after log
    → HasSpent book budget 0 [] before → ((entries sets : ℕ) → AreReadSizes sheet f entries sets → IsWholeSearch book [] (sets * (entries + 2) + 1) before after log)
    → after.placed ≡ after.limit → NotesWhole book after n n' reply → Answers budget sheet f n n' reply
ask_noted sheet f book budget most log before after n n' reply made light search none sized placed (noted counts is now_noted) =
    let spent = ask_is_spent book budget most log before after search none in
    by_search counts light record {
      log = log;
      tally = after;
      spent = subst (λ (b : Sheet). IsSpentWhole b (log ∷ []) after) made (is_spent_whole book budget most (log ∷ []) after spent placed);
      limited = spent.limited;
      few_calls = λ entries sets sizes. (ask_is_spent book budget (sets * (entries + 2) + 1) log before after (sized entries sets sizes) none).few_calls;
      counts_are = is;
      noted = subst (λ (b : Sheet). n' ≡ n ++ record { sheet = b; cell = None; tally = session.counts_of after } ∷ []) made now_noted;
    }
ask_noted sheet f book budget most log before after n n' reply made light search none sized placed (not_noted stay) = by_want stay

-- ---- pages

last_rule : (sheet : Sheet) (f : Statement) (book : Sheet) → book ≡ asked sheet f → length book.rules - 1 ≡ length sheet.rules
last_rule sheet f book made = omega (arith, ap (λ (b : Sheet). length b.rules) made, length-append sheet.rules (denial f ∷ []))

pub some_rules : (sheet : Sheet) (f : Statement) (book : Sheet) → book ≡ asked sheet f → 0 < length book.rules
some_rules sheet f book made = omega (arith, ap (λ (b : Sheet). length b.rules) made, length-append sheet.rules (denial f ∷ []))

pub answered_text : (sheet : Sheet) (f : Statement) (p : AskProof) (c : Certificate) → ProvesAsked sheet f p → IsAgainstRule p.book (length p.book.rules - 1) p.support.items c → IsAnsweredIn sheet p.book (certificate_text p.book c)
answered_text sheet f p c proves against =
    let rule = subst (λ n. IsAgainstRule p.book n p.support.items c) (last_rule sheet f p.book proves.0) against in
    (f, proves.0, by_support p.support.items c proves.1 (subst (λ (b : Sheet). IsAgainstRule b (length sheet.rules) p.support.items c) proves.0 rule) (ap (λ (b : Sheet). certificate_text b c) proves.0))

-- ---- in a session with the book

named_ask : (r : Rule) (st : Statement) → rule_of r ≡ denial st → r.name ≡ ask_name
named_ask r st same = ap (λ (q : NamedStatement). q.name) same

pub name_taken_in : (s : SessionView) (n : Notes) (book : Sheet) (f : written.Formula) (st : Statement) (r : Rule) (rules : List NamedStatement) (place : ℕ) → book ≡ s.sheet → rules ≡ book.rules → rule_of r ≡ denial st → IsDenialRule book f st → IsRuleAt rules r.name place
    → Obeys (state_of s, n) (asks_ask f) (Refused DuplicateRule None) (state_of s, n)
name_taken_in s n book f st r rules place made are same is at =
    let here : IsRuleAt book.rules ask_name place = subst (λ name. IsRuleAt book.rules name place) (named_ask r st same) (subst (λ rs. IsRuleAt rs r.name place) are at) in
    name_taken s n f st place (subst (λ (b : Sheet). IsDenialRule b f st) made is) (subst (λ (b : Sheet). IsRuleAt b.rules ask_name place) made here)

pub new_in : (sheet book : Sheet) (f : written.Formula) (st : Statement) (r : Rule) (rules : List NamedStatement) → book ≡ sheet → rules ≡ book.rules → rule_of r ≡ denial st → IsDenialRule book f st → IsNewName rules r.name → IsNewDenial sheet f st
new_in sheet book f st r rules made are same is new =
    let here : IsNewName book.rules ask_name = subst (λ name. IsNewName book.rules name) (named_ask r st same) (subst (λ rs. IsNewName rs r.name) are new) in
    (subst (λ (b : Sheet). IsDenialRule b f st) made is, subst (λ (b : Sheet). IsNewName b.rules ask_name) made here)

pub question_formed : (sheet : Sheet) (f : written.Formula) (st : Statement) (r : Rule) → IsWellFormed sheet → rule_of r ≡ denial st → IsNewDenial sheet f st → IsWellFormed (with_rule sheet (rule_of r))
question_formed sheet f st r formed same new = subst (λ q. IsWellFormed (with_rule sheet q)) (sym same) (formed_with sheet ask_name (not f) (denial st) formed new)

pub made_with : (sheet book made : Sheet) (r : Rule) (f : Statement) → book ≡ sheet → made ≡ with_rule book (rule_of r) → rule_of r ≡ denial f → made ≡ asked sheet f
made_with sheet book made r f is by same = by ∙ ap (λ q. with_rule book q) same ∙ ap (λ (b : Sheet). asked b f) is
