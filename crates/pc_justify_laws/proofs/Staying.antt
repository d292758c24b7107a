-- Reasons whose support has none of the entries that are gone stay right.
use Rattle.std.proofs.Common.{◌≡◌, ℕ, ◌+◌, inl, inr, Bool, false, not, List, [], ◌∷◌, ◌++◌, get_or, map, filter, Contains, ap, sym, ◌∙◌, subst}
use Rattle.std.proofs.lemmas.List.{append-nil}
use Rattle.std.proofs.lemmas.List.Elements.{All-nil, All-contains, All-contains_itself}
use Rattle.pc_sheet.specs.Sheet.{Sheet}
use Rattle.pc_sheet.specs.Entailment.{IsSublist, IsLeastSupport}
use Rattle.pc_sheet.specs.WellFormed.{AreDifferent}
use Rattle.pc_sheet.specs.declared.ids.CellId.{CellId}
use Rattle.pc_sheet.specs.declared.ids.Entry.{Entry}
use Rattle.pc_sheet.specs.declared.ids.Target.{Target}
use Rattle.pc_lemmas.proofs.Elements.{kept}
use Rattle.pc_laws.proofs.Contained.{all_contained, sub_contained, sub_of_sub, filter_sub}
use Rattle.pc_laws.proofs.Least.{stays_with_newest, stays_without_others, support_here}
use Rattle.pc_accept.specs.Literals.{Literal, Symbol, pair, node}
use Rattle.pc_accept.specs.Axioms.{Axiom, axiom_some, axiom_one, axiom_rule, axiom_node, axiom_atom, IsClauseOf}
use Rattle.pc_accept.specs.Accepts.{Line, taken, derived, blocked, IsLineClause, DerivesClause}
use Rattle.pc_accept.specs.Writable.{IsSymbolOf, IsAxiomOf, IsLineOf, AreLinesOf, IsSetOf}
use Rattle.pc_ground.specs.Naming.{names_of}
use Rattle.pc_reason.specs.Derivation.{line_named}
use Rattle.pc_reason.specs.Reasons.{Justification}
use Rattle.pc_justify_laws.specs.Reasons.{IsJustified}
use Rattle.pc_justify_laws.specs.Edits.{HasNone, IsAdded, edited}
use Rattle.pc_justify_laws.specs.EditLaws.{ReasonsStay, NoneStays}

-- ---- other entries, the same rules

module _ (sheet : Sheet) (xs : List Entry) where
  abbrev there : Sheet
  there = record sheet { entries = xs }

  clause_there : (a : Axiom) (clause : List Literal) → IsClauseOf sheet a clause → IsClauseOf there a clause
  clause_there (axiom_some c) clause h = h
  clause_there (axiom_one c v w) clause h = h
  clause_there (axiom_rule r) clause h = h
  clause_there (axiom_node r path i) clause h = h
  clause_there (axiom_atom r path reads) clause h = record { scope = h.scope; states = h.states; at = h.at; each = h.each; truth = h.truth; given = h.given; is = h.is }

  line_there : (clauses : List (List Literal)) (i : ℕ) (line : Line) (clause : List Literal) → IsLineClause sheet clauses i line clause → IsLineClause there clauses i line clause
  line_there clauses i (taken a) clause h = clause_there a clause h
  line_there clauses i (derived own hints) clause h = h
  line_there clauses i (blocked j) clause h = h

  derives_there : (lines : List Line) (allowed : List Literal) → DerivesClause sheet lines allowed → DerivesClause there lines allowed
  derives_there lines allowed d = record { clauses = d.clauses; derivation = record { count = d.derivation.count; each = λ i line l. line_there d.clauses i (get_or lines i line) (get_or d.clauses i []) (d.derivation.each i line l) }; ends = d.ends }

  symbol_there : (x : Symbol) → IsSymbolOf sheet x → IsSymbolOf there x
  symbol_there (pair c v) h = h
  symbol_there (node r steps) h = record { leads = h.leads; small = h.small }

  axiom_there : (a : Axiom) → IsAxiomOf sheet a → IsAxiomOf there a
  axiom_there (axiom_some c) h = h
  axiom_there (axiom_one c v w) h = h
  axiom_there (axiom_rule r) h = h
  axiom_there (axiom_node r steps i) h = (record { leads = h.0.leads; small = h.0.small }, h.1)
  axiom_there (axiom_atom r steps reads) h = (record { leads = h.0.leads; small = h.0.small }, h.1)

  written_there : (place : ℕ) (line : Line) → IsLineOf sheet place line → IsLineOf there place line
  written_there place (taken a) h = axiom_there a h
  written_there place (derived clause hints) h = (λ i d below. symbol_there (get_or clause i d).what (h.0 i d below), h.1)
  written_there place (blocked j) h = h

  all_written : (place : ℕ) (lines : List Line) → AreLinesOf sheet place lines → AreLinesOf there place lines
  all_written place [] h = h
  all_written place (line ∷ lines) h = (written_there place line h.0, all_written (place + 1) lines h.1)

  pub justified_there : (t : Target) (j : Justification) → IsJustified sheet t j → IsLeastSupport there j.support t → IsJustified there t j
  justified_there t j is least = record {
    least = least;
    named = is.named;
    accepted = record {
      shown = record {
        entered = all_contained (Contains xs) j.support xs (sub_contained xs j.support least.supports.among) (All-contains_itself xs);
        in_order = is.accepted.shown.in_order;
        assigns = is.accepted.shown.assigns;
        has = is.accepted.shown.has;
        fits = is.accepted.shown.fits;
      };
      derives = derives_there (map (line_named (names_of sheet)) j.lines) _ is.accepted.derives;
    };
    written = record {
      claim = is.written.claim;
      sets = All-nil (IsSetOf there);
      uses = is.written.uses;
      values = is.written.values;
      lines = all_written 0 (map (line_named (names_of sheet)) j.lines) is.written.lines;
      few = is.written.few;
      few_sets = is.written.few_sets;
    };
  }

-- ---- an edit of entries

module _ (sheet : Sheet) (gone : Entry → Bool) where
  abbrev stays : Entry → Bool
  stays e = not (gone e)

  abbrev left : List Entry
  left = filter stays sheet.entries

  least_without : (t : Target) (s : List Entry) → AreDifferent sheet.entries → HasNone gone s → IsLeastSupport sheet s t → IsLeastSupport (record sheet { entries = left }) s t
  least_without t s distinct lacks least =
      stays_without_others sheet left s t distinct (filter_sub stays sheet.entries)
      (λ e in_s. kept stays sheet.entries e (sub_contained sheet.entries s least.supports.among e in_s) (ap not (All-contains (λ f. gone f ≡ false) s e lacks in_s))) least

  least_edited : (added : List Entry) (c : CellId) (t : Target) (s : List Entry) → IsAdded c added → AreDifferent sheet.entries → AreDifferent (edited sheet gone added).entries → HasNone gone s → IsLeastSupport sheet s t → IsLeastSupport (edited sheet gone added) s t
  least_edited added c t s (inl none) distinct after lacks least =
      let P : List Entry → Type 0 = λ es. IsLeastSupport (record sheet { entries = es }) s t in
      subst P (sym (append-nil left) ∙ ap (λ more. left ++ more) (sym none)) (least_without t s distinct lacks least)
  least_edited added c t s (inr (e, is, of_cell)) distinct after lacks least =
      let P : List Entry → Type 0 = λ es. IsLeastSupport (record sheet { entries = es }) s t in
      let apart : AreDifferent (left ++ e ∷ []) = subst (λ more. AreDifferent (left ++ more)) is after in
      subst P (ap (λ more. left ++ more) (sym is)) (stays_with_newest (record sheet { entries = left }) e s t apart (least_without t s distinct lacks least))

pub reasons_stay : ReasonsStay
reasons_stay sheet gone added c t j is_added distinct after lacks is =
    justified_there sheet (filter (λ e. not (gone e)) sheet.entries ++ added) t j is (least_edited sheet gone added c t j.support is_added distinct after lacks is.least)

pub none_stays : NoneStays
none_stays sheet gone t none (s, sup) =
    let left = filter (λ e. not (gone e)) sheet.entries in
    let sub : IsSublist sheet.entries s = sub_of_sub sheet.entries left s (filter_sub (λ e. not (gone e)) sheet.entries) (subst (λ xs. IsSublist xs s) (append-nil left) sup.among) in
    none (s, support_here sheet (left ++ []) s t sub sup)
