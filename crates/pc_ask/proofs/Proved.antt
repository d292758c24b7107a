-- What the line of an answer rests on is accepted against the last rule of the asked sheet.
use Rattle.std.proofs.Common.{◌≡◌, ℕ, ◌+◌, ◌-◌, ◌<◌, ◌^◌, List, [], ◌∷◌, length, map, Some, IsSomeAnd, arith, ap, refl, sym, ◌∙◌, subst, length-append}
use Rattle.std.proofs.lemmas.List.{get_or_append_left}
use Rattle.std.proofs.lemmas.List.Elements.{All-nil, All-contains}
use Rattle.std.proofs.lemmas.Option.{slice_get-get_or}
use Rattle.pc_lemmas.proofs.Elements.{all_from, contains_mapped}
use Rattle.pc_laws.proofs.Contained.{sub_contained}
use Rattle.pc_lits.specs.declared.literal.Lit.{Lit}
use Rattle.pc_lits.specs.Literals.{negated}
use Rattle.pc_log.specs.Lines.{LogLine}
use Rattle.pc_log.specs.Spans.{IsSpanOf, lines_of_span}
use Rattle.pc_log.specs.Trimmed.{IsTrimmed}
use Rattle.pc_log.specs.declared.trimming.Span.{Span}
use Rattle.pc_sheet.specs.Sheet.{Sheet, Statement, NamedStatement}
use Rattle.pc_sheet.specs.Truth.{Holds}
use Rattle.pc_sheet.specs.Entailment.{cell_sizes, Fits, Shows}
use Rattle.pc_sheet.specs.WellFormed.{IsEntryOf, IsWellFormed}
use Rattle.pc_sheet.specs.declared.ids.ValueId.{ValueId}
use Rattle.pc_sheet.specs.declared.ids.Entry.{Entry}
use Rattle.pc_accept.specs.Accepts.{FitsOthers}
use Rattle.pc_accept.specs.Laws.{ShowsOthers}
use Rattle.pc_accept.specs.Writable.{IsSetOf}
use Rattle.pc_lits.specs.Clauses.{IsOverNegated}
use Rattle.pc_accept.specs.Asked.{denial, asked}
use Rattle.pc_world_list.specs.RuleCertificates.{GoesAgainst}
use Rattle.pc_components.specs.Pairs.{entry_literal}
use Rattle.pc_ground.specs.Naming.{names_of}
use Rattle.pc_justify_laws.specs.Found.{IsDerivedAt, IsOfEntries}
use Rattle.pc_justify_laws.specs.Laws.{DeriveAgainst, NamesAreOfTheirSheet, OwnLinesAreNamed, TrimmedLinesAreAgainst}
use Rattle.pc_solver.specs.Solver.{IsLawfulLog}
use Rattle.pc_theory.specs.WholeSpendings.{all_variables}
use Rattle.pc_repairs.specs.Searches.{whole_problem}
use Rattle.pc_repairs.proofs.Certified.{entered_from, own_in}
use Rattle.pc_ask.specs.Asking.{IsAnswer}
use Rattle.pc_ask.specs.declared.answer.Answer.{Answer}
use Rattle.pc_ask.proofs.Places.{none_at}

-- each literal of the clause is the negation of an entry's
of_entries : (sheet : Sheet) (set : List Entry) (clause : List Lit) → IsOverNegated (map (entry_literal (cell_sizes sheet.universe)) set) clause → IsOfEntries sheet set clause
of_entries sheet set clause over m c =
    let a = over m c in
    let e = contains_mapped (entry_literal (cell_sizes sheet.universe)) set a.0 a.1 in
    (e.0, e.1, a.2 ∙ ap negated (sym e.2))

module _ (sheet : Sheet) (f : Statement) where
  abbrev there : Sheet
  there = asked sheet f

  abbrev last : ℕ
  last = length sheet.rules

  abbrev RuleIs : List ValueId → NamedStatement → Type 0
  RuleIs a rule = Holds sheet.universe a [] rule.states

  count : length there.rules ≡ last + 1
  count = length-append sheet.rules (denial f ∷ [])

  fits_others : (a : List ValueId) → Fits sheet a → FitsOthers there last a
  fits_others a fits k low other =
      let below : k < last = omega (arith, low, count, other) in
      subst (λ o. IsSomeAnd o (RuleIs a)) (sym (slice_get-get_or there.rules k (denial f) low ∙ ap Some (get_or_append_left sheet.rules (denial f ∷ []) (denial f) k below))) (fits k (denial f) below)

  shows_others : (s : List Entry) (a : List ValueId) → Shows sheet s a → ShowsOthers there last s a
  shows_others s a shows = record { assigns = shows.assigns; fits = fits_others a shows.fits; has = shows.has }

  module _ (own : OwnLinesAreNamed) (trims : TrimmedLinesAreAgainst) (of_sheet : NamesAreOfTheirSheet) (formed : IsWellFormed there) (log : List LogLine) (lawful : IsLawfulLog (whole_problem there) [] log) (few : length log < 10 ^ 18)
      (answer : Answer) (h : IsAnswer sheet f log answer) (lines : List LogLine) (trimmed : IsTrimmed log answer.last.0 [] lines) where
    derived : IsDerivedAt there log answer.last.0
    derived = record {
      derivation = lawful.derivation;
      stands = h.denied.stands;
      named = own there (all_variables there) log answer.last.0 lawful.derivation (λ i number clause at. none_at number clause (lawful.blocks_are i number clause at)) (own_in there) lawful.over_own;
    }

    derives : DeriveAgainst there last answer.support.items answer.shown lines
    derives = trims there last answer.support.items answer.shown log lines answer.last.0 formed (of_sheet there formed) (omega (arith, count)) h.least.supports.among (shows_others answer.support.items answer.shown h.shown) few derived
        (of_entries there answer.support.items _ h.denied.over) trimmed

    goes : (kept : List LogLine) (span : Span) → IsSpanOf kept span → lines ≡ lines_of_span kept span → GoesAgainst there (names_of there) last answer.support.items answer.shown kept span
    goes kept span lies are = by (subst (DeriveAgainst there last answer.support.items answer.shown) are derives)
      where
        by : DeriveAgainst there last answer.support.items answer.shown (lines_of_span kept span) → GoesAgainst there (names_of there) last answer.support.items answer.shown kept span
        by d = record {
          lies = lies;
          named = d.named;
          accepted = d.accepted;
          written = record {
            claim = (refl, omega (arith, count));
            sets = All-nil (IsSetOf there);
            uses = all_from (IsEntryOf sheet.universe) answer.support.items
                (λ e c. All-contains (IsEntryOf sheet.universe) sheet.entries e formed.entries.each (sub_contained sheet.entries answer.support.items h.least.supports.among e c));
            values = entered_from [] (cell_sizes sheet.universe) 0 answer.shown refl h.shown.assigns;
            lines = d.written;
            few = d.few;
            few_sets = omega arith;
          };
        }

-- of a sheet that is the asked one
pub goes_against : OwnLinesAreNamed → TrimmedLinesAreAgainst → NamesAreOfTheirSheet → (book : Sheet) → IsWellFormed book → (log : List LogLine) → IsLawfulLog (whole_problem book) [] log → length log < 10 ^ 18
    → (answer : Answer) → (sheet : Sheet) (f : Statement) → book ≡ asked sheet f → IsAnswer sheet f log answer → (kept : List LogLine) (span : Span) → IsSpanOf kept span → IsTrimmed log answer.last.0 [] (lines_of_span kept span)
    → GoesAgainst book (names_of book) (length book.rules - 1) answer.support.items answer.shown kept span
goes_against own trims of_sheet book formed log lawful few answer sheet f is h kept span lies trimmed =
    let place : length sheet.rules ≡ length book.rules - 1 = omega (arith, ap (λ (s : Sheet). length s.rules) is, count sheet f) in
    subst (λ n. GoesAgainst book (names_of book) n answer.support.items answer.shown kept span) place
    (subst (λ (b : Sheet). GoesAgainst b (names_of b) (length sheet.rules) answer.support.items answer.shown kept span) (sym is)
    (goes sheet f own trims of_sheet (subst IsWellFormed is formed) log (subst (λ (b : Sheet). IsLawfulLog (whole_problem b) [] log) is lawful) few answer h (lines_of_span kept span) trimmed kept span lies refl))
