-- Where a certificate against a rule is accepted, the rule is false under each assignment that makes the others true and has the
-- used entries.
use Rattle.std.proofs.Common.{ℕ, ◌<◌, inl, inr, List, [], length, map, slice_get, sym, subst}
use Rattle.std.proofs.lemmas.Bool.{cases_eq}
use Rattle.std.proofs.lemmas.Option.{get_or_from_slice_get}
use Rattle.pc_sheet.specs.Sheet.{Sheet, NamedStatement}
use Rattle.pc_sheet.specs.Truth.{Holds}
use Rattle.pc_sheet.specs.Entailment.{RuleHolds, Fits}
use Rattle.pc_sheet.specs.declared.ids.Entry.{Entry}
use Rattle.pc_sheet.specs.declared.ids.ValueId.{ValueId}
use Rattle.pc_accept.specs.Axioms.{negated_entry}
use Rattle.pc_accept.specs.Accepts.{Line, value_of_entry, FitsOthers, AcceptsAgainst}
use Rattle.pc_accept.specs.Laws.{IsInOrder, AreAgainst}
use Rattle.pc_lemmas.proofs.Options.{some_and}
use Rattle.pc_accept.proofs.Soundness.{derived_true, no_negated, has_same}

-- the rules are true one by one
pub fits_from : (sheet : Sheet) (a : List ValueId) → ((k : ℕ) → k < length sheet.rules → RuleHolds sheet a k) → Fits sheet a
fits_from sheet a each k d l =
    let found = some_and (slice_get sheet.rules k) (λ (rule : NamedStatement). Holds sheet.universe a [] rule.states) (each k l) in
    subst (λ (rule : NamedStatement). Holds sheet.universe a [] rule.states) (sym (get_or_from_slice_get sheet.rules k found.0 d found.1)) found.2

-- all rules are true where the others are and this one is
pub fits_with : (sheet : Sheet) (r : ℕ) (a : List ValueId) → FitsOthers sheet r a → RuleHolds sheet a r → Fits sheet a
fits_with sheet r a others holds = fits_from sheet a (λ k l. elim (cases_eq k r) [ inl is ↦ subst (RuleHolds sheet a) (sym is) holds | inr other ↦ others k l other ])

pub are_against : (sheet : Sheet) (r : ℕ) (uses values : List Entry) (lines : List Line) → AcceptsAgainst sheet r uses values lines → (s : List Entry) → IsInOrder sheet.entries uses s → AreAgainst sheet r s
are_against sheet r uses values lines h s o = record {
  some_one = (map value_of_entry values, record { assigns = h.shown.assigns; fits = h.shown.fits; has = has_same (map value_of_entry values) s uses (λ e. (o.same e).0) h.shown.has });
  each_one = λ a shows holds.
      no_negated sheet uses a (has_same a uses s (λ e. (o.same e).1) shows.has)
      (derived_true sheet a shows.assigns (fits_with sheet r a shows.fits holds) lines (map negated_entry uses) h.derives);
}
