-- What the pages of a sheet and certificates tell, in the words of the page.
use Rattle.std.proofs.Common.{◌≡◌, ℕ, List, [], ◌<◌, length, map, true, sym, ◌∙◌, ap, subst}
use Rattle.pc_syntax.specs.Tree.{Asked}
use Rattle.pc_sheet.specs.Sheet.{Sheet, Statement, NamedStatement, with_rule}
use Rattle.pc_sheet.specs.Entailment.{Fits}
use Rattle.pc_sheet.specs.WellFormed.{IsWellFormed}
use Rattle.pc_sheet.specs.declared.ids.CellId.{CellId}
use Rattle.pc_sheet.specs.declared.ids.Target.{Target}
use Rattle.std.specs.declared.option.Option.{Option}
use Rattle.pc_accept.specs.Accepts.{Claim, implied, inconsistent, repairs, unimplied, against, Certificate, AreShown, AcceptsClaim, Accepts}
use Rattle.pc_accept.specs.Writable.{IsWritableCertificate}
use Rattle.pc_writer.specs.SheetText.{ended}
use Rattle.pc_cert.specs.Text.{set_read}
use Rattle.pc_cert.specs.ReadFor.{HasNoEntries, IsBare}
use Rattle.pc_cert_text.specs.CertificateText.{certificate_text}
use Rattle.pc_cert_laws.specs.ReadBack.{CertificatesReadBack, HasForm}
use Rattle.pc_display.specs.Show.{IsShown}
use Rattle.pc_display.specs.Grid.{IsGrid}
use Rattle.pc_display.specs.Json.{IsJson, IsJsonLine}
use Rattle.pc_display.specs.OneDisplay.{HasOneText, SheetHasOneDisplay}
use Rattle.pc_cert.specs.Readings.{LinesHaveOneForm, FormsSayOneThing, WhatIsReadIsBare}
use Rattle.pc_refusals.specs.declared.refusal.Counts.{Counts}
use Rattle.pc_judge.specs.AcceptedText.{IsAcceptedText}
use Rattle.pc_spreadsheet.specs.Refused.{MakesContradiction, contradicting}
use Rattle.pc_spreadsheet.specs.Tasks.{PageKind, lines_page, grid_page, json_page, text_page, why_page, repairs_page, proof_page, whynot_page, ask_page, shows, IsTaskOf, doubting, inquiring}
use Rattle.pc_spreadsheet.specs.Pages.{IsWhy, certified, not_implied, uses_of, IsCertificateOnSets, IsWhyNot, shown_unimplied, implied as is_so_implied, IsAnswered, by_support as by_least_support, by_none, PageSays, IsCertificateAgainst}
use Rattle.pc_spreadsheet.specs.Allowed.{Notes, IsLawfullySpent, IsWholeSpent, IsAskSpent}
use Rattle.pc_accept.specs.Asked.{ask_name, denial, asked}
use Rattle.pc_spreadsheet.proofs.Rules.{formed_with}
use Rattle.pc_afresh_laws.specs.Afresh.{IsOpen, DumpsStartAgain}
use Rattle.pc_theorem.specs.Theorem as page
use Rattle.pc_theorem.specs.Theorem.{TellsPage, IsTheText, Explains, by_support, IsRefutation}
use Rattle.pc_theorem.specs.Sets.{ProvesBySets, Doubts, is_implied, by_sets}
use Rattle.pc_theorem.specs.Formulas.{AnswersFormula, not_entailed, by_least}
use Rattle.pc_theorem.specs.Certificates.{Claims, Assigns}
use Rattle.pc_theorem.proofs.Claimed.{certificate_claims, certificate_assigns}
use Rattle.pc_theorem.proofs.Listed.{ListingsAreTold}

-- ---- the counts of what is spent

abbrev placed_of : Counts → ℕ
placed_of counts = counts.placed

pub search_placed : (budget : ℕ) (sheet : Sheet) (cell : Option CellId) (counts : Counts) (old new : Notes) → IsLawfullySpent budget sheet cell counts old new → counts.placed ≡ budget
search_placed budget sheet cell counts old new spent = ap placed_of spent.counts_are ∙ spent.lawful.all_placed

pub whole_placed : (budget : ℕ) (sheet : Sheet) (counts : Counts) (old new : Notes) → IsWholeSpent budget sheet counts old new → counts.placed ≡ budget
whole_placed budget sheet counts old new spent = ap placed_of spent.counts_are ∙ spent.spent.all_placed ∙ spent.limited

pub ask_placed : (budget : ℕ) (sheet : Sheet) (f : Statement) (counts : Counts) (old new : Notes) → IsAskSpent budget sheet f counts old new → counts.placed ≡ budget
ask_placed budget sheet f counts old new spent = ap placed_of spent.counts_are ∙ spent.spent.all_placed ∙ spent.limited

-- ---- sheets with one rule more

-- the sheet in which a formula is asked is well formed
pub asked_is_formed : (sheet : Sheet) (a : Asked) (made : Sheet) → IsWellFormed sheet → IsTaskOf sheet a (shows (ask_page made)) → IsWellFormed made
asked_is_formed sheet a made formed (inquiring s new light) = formed_with sheet ask_name _ (denial s) formed new

-- and so is the sheet with a rule that leaves no assignment
pub contradicting_is_formed : (sheet : Sheet) (a : Asked) (r : NamedStatement) → IsWellFormed sheet → MakesContradiction sheet a r → IsWellFormed (with_rule sheet r)
contradicting_is_formed sheet a r formed (contradicting s new light never) = formed_with sheet _ _ s formed new

-- `whynot` asks whether a cell has a value
pub doubts_a_value : (sheet : Sheet) (a : Asked) (t : Target) → IsTaskOf sheet a (shows (whynot_page t)) → t.holds ≡ true
doubts_a_value sheet a t (doubting u named holds few) = holds

-- ---- what pages say

-- the claims whose certificates use no entries beside their sets
abbrev pub UsesNothing : Claim → Type 0
UsesNothing repairs = Unit {0}
UsesNothing (unimplied t) = Unit {0}
UsesNothing claim = ⊥

no_uses : (sheet : Sheet) (c : Certificate) (claim : Claim) → UsesNothing claim → AcceptsClaim sheet c claim → c.uses ≡ []
no_uses sheet c repairs on_sets takes = takes.no_uses
no_uses sheet c (unimplied t) on_sets takes = takes.no_uses
no_uses sheet c claim on_sets takes = absurd on_sets

pub the_text : (Says : Sheet → List ℕ → Type 0) → HasOneText Says → (sheet : Sheet) (text : List ℕ) → IsOpen sheet → Says sheet text → IsTheText Says sheet text
the_text Says one sheet text is says =
    let found = one sheet is.formed in
    record { is = says; only = λ other also. found.2 other also ∙ sym (found.2 text says) }

pub the_json : HasOneText IsJson → (sheet : Sheet) (text : List ℕ) → IsOpen sheet → IsJsonLine sheet text → IsTheText IsJsonLine sheet text
the_json one sheet text is says =
    let found = one sheet is.formed in
    record { is = says; only = λ other also. also.2 ∙ ap ended (found.2 also.0 also.1) ∙ sym (says.2 ∙ ap ended (found.2 says.0 says.1)) }

module _ (back : CertificatesReadBack) (one_form : LinesHaveOneForm) (one_thing : FormsSayOneThing) (bare : WhatIsReadIsBare) where
  -- a certificate that is accepted and can be written, as its text
  record IsToldBy (sheet : Sheet) (c : Certificate) (text : List ℕ) : Type 0 where
    accepted : IsAcceptedText sheet text
    says : Claims sheet text c.claim c.uses (map uses_of c.sets)
    no_sets : (t : Target) → c.claim ≡ implied t → map uses_of c.sets ≡ []
    none_against : (k : ℕ) → c.claim ≡ against k → map uses_of c.sets ≡ []
    none_refuting : c.claim ≡ inconsistent → map uses_of c.sets ≡ []
    assigns : (t : Target) → c.claim ≡ implied t → Assigns sheet text c.values

  told_by : (sheet : Sheet) (c : Certificate) (text : List ℕ) → IsWellFormed sheet → Accepts sheet c → IsWritableCertificate sheet c → HasForm c.claim → text ≡ certificate_text sheet c → IsToldBy sheet c text
  told_by sheet c text formed accepts written form told =
      let read = back sheet c formed (record { written = written; form = form }) in
      subst (λ x. IsToldBy sheet c x) (sym told) (record {
        accepted = (read.reading, read.read, subst (Accepts sheet) (sym read.same) accepts);
        says = certificate_claims one_form one_thing sheet formed (certificate_text sheet c) read.reading c read.read read.same;
        no_sets = λ t claims_so.
            let none : read.reading.sets ≡ [] =
            subst (IsBare sheet read.reading) (ap (λ (d : Certificate). d.claim) read.same ∙ claims_so) (bare sheet (certificate_text sheet c) read.reading read.read) in
            ap (λ (d : Certificate). map uses_of d.sets) (sym read.same) ∙ ap (λ ss. map uses_of (map set_read ss)) none;
        assigns = λ t claims_so.
            certificate_assigns one_form one_thing sheet formed (certificate_text sheet c) read.reading c read.read read.same
            (subst (IsBare sheet read.reading) (ap (λ (d : Certificate). d.claim) read.same ∙ claims_so) (bare sheet (certificate_text sheet c) read.reading read.read));
        none_against = λ k claims_so.
            let both : (read.reading.sets ≡ []) × (k < length sheet.rules) =
            subst (IsBare sheet read.reading) (ap (λ (d : Certificate). d.claim) read.same ∙ claims_so) (bare sheet (certificate_text sheet c) read.reading read.read) in
            ap (λ (d : Certificate). map uses_of d.sets) (sym read.same) ∙ ap (λ ss. map uses_of (map set_read ss)) both.0;
        none_refuting = λ claims_so.
            let both : (read.reading.sets ≡ []) × HasNoEntries read.reading =
            subst (IsBare sheet read.reading) (ap (λ (d : Certificate). d.claim) read.same ∙ claims_so) (bare sheet (certificate_text sheet c) read.reading read.read) in
            ap (λ (d : Certificate). map uses_of d.sets) (sym read.same) ∙ ap (λ ss. map uses_of (map set_read ss)) both.0;
      })

  -- a certificate that is accepted shows its entries consistent
  shows_entries : (sheet : Sheet) (c : Certificate) (t : Target) → AcceptsClaim sheet c (implied t) → AreShown sheet (Fits sheet) c.uses c.values
  shows_entries sheet c t takes = takes.shown

  pub explains : (sheet : Sheet) (t : Target) (text : List ℕ) → IsOpen sheet → IsWhy sheet t text → Explains sheet t text
  explains sheet t text is (not_implied never told) = page.not_implied never told
  explains sheet t text is (certified c for told) =
      let by = told_by sheet c text is.formed for.accepted for.written (subst HasForm (sym for.claim) tt) told in
      by_support c.uses for.least (record {
        claims = subst (λ x. Claims sheet text x c.uses []) for.claim (subst (λ ss. Claims sheet text c.claim c.uses ss) (by.no_sets t for.claim) by.says);
        values = c.values;
        assigns = by.assigns t for.claim;
        shown = shows_entries sheet c t (subst (AcceptsClaim sheet c) for.claim for.accepted);
        accepted = by.accepted;
      })

  -- a certificate of sets, whose claim uses no entries beside them
  pub proves_by_sets : (sheet : Sheet) (claim : Claim) (text : List ℕ) → IsOpen sheet → HasForm claim → UsesNothing claim → IsCertificateOnSets sheet claim text → ProvesBySets sheet claim text
  proves_by_sets sheet claim text is form on_sets on =
      let c = on.certificate in
      let claims_so = on.accepted.claims in
      let by = told_by sheet c text is.formed on.accepted.accepted on.accepted.written (subst HasForm (sym claims_so) form) on.text_is in
      let none = no_uses sheet c claim on_sets (subst (AcceptsClaim sheet c) claims_so on.accepted.accepted) in
      record {
        sets = map uses_of c.sets;
        exact = on.sets;
        claims = subst (λ us. Claims sheet text claim us (map uses_of c.sets)) none (subst (λ x. Claims sheet text x c.uses (map uses_of c.sets)) claims_so by.says);
        accepted = by.accepted;
      }

  pub doubts : (sheet : Sheet) (t : Target) (text : List ℕ) → IsOpen sheet → t.holds ≡ true → IsWhyNot sheet t text → Doubts sheet t text
  doubts sheet t text is holds (shown_unimplied never on) = by_sets never (proves_by_sets sheet (unimplied t) text is holds tt on)
  doubts sheet t text is holds (is_so_implied is_so told) = is_implied is_so told

  -- ---- formulas

  answers_formula : (sheet : Sheet) (f : Statement) (text : List ℕ) → IsWellFormed (asked sheet f) → IsAnswered sheet f text → AnswersFormula sheet f text
  answers_formula sheet f text formed (by_none never told) = not_entailed never told
  answers_formula sheet f text formed (by_least_support s c least is told) =
      let by = told_by (asked sheet f) c text formed is.accepted is.written (subst HasForm (sym is.claims) tt) told in
      let claims = subst (λ ss. Claims (asked sheet f) text c.claim c.uses ss) (by.none_against (length sheet.rules) is.claims) by.says in
      by_least s least (subst (λ us. Claims (asked sheet f) text (against (length sheet.rules)) us []) is.uses (subst (λ x. Claims (asked sheet f) text x c.uses []) is.claims claims)) by.accepted

  -- ---- contradictions

  pub refutes : (sheet : Sheet) (text : List ℕ) → IsWellFormed sheet → IsCertificateAgainst sheet text → IsRefutation sheet text
  refutes sheet text formed (c, refuting, told) =
      let by = told_by sheet c text formed refuting.accepted refuting.written (subst HasForm (sym refuting.claim) tt) told in
      let taken : AcceptsClaim sheet c inconsistent = subst (AcceptsClaim sheet c) refuting.claim refuting.accepted in
      let claims = subst (λ ss. Claims sheet text c.claim c.uses ss) (by.none_refuting refuting.claim) by.says in
      record {
        claims = subst (λ us. Claims sheet text inconsistent us []) taken.no_uses (subst (λ x. Claims sheet text x c.uses []) refuting.claim claims);
        accepted = by.accepted;
      }

  -- ---- pages that are asked for

  module _ (one_display : SheetHasOneDisplay) (again : DumpsStartAgain) (listings : ListingsAreTold) where
    -- what a page says is what is told
    pub tells : (sheet : Sheet) (kind : PageKind) (a : Asked) (text : List ℕ) → IsOpen sheet → IsTaskOf sheet a (shows kind) → PageSays kind sheet text → TellsPage sheet kind text
    tells sheet lines_page a text is asked_so says = the_text IsShown one_display.shown sheet text is says
    tells sheet grid_page a text is asked_so says = the_text IsGrid one_display.grid sheet text is says
    tells sheet json_page a text is asked_so says = the_json one_display.json sheet text is says
    tells sheet text_page a text is asked_so says = again sheet text is says
    tells sheet (why_page t) a text is asked_so says = explains sheet t text is says
    tells sheet repairs_page a text is asked_so says = listings sheet text is says
    tells sheet proof_page a text is asked_so says = proves_by_sets sheet repairs text is tt tt says
    tells sheet (whynot_page t) a text is asked_so says = doubts sheet t text is (doubts_a_value sheet a t asked_so) says
    tells sheet (ask_page made) a text is asked_so says =
        (says.0, says.1, answers_formula sheet says.0 text (subst IsWellFormed says.1 (asked_is_formed sheet a made is.formed asked_so)) says.2)
