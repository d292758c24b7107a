-- Worlds as the sets of a certificate.
use Rattle.std.proofs.Common.{◌≡◌, ℕ, ◌<◌, ◌^◌, List, [], map, length, get_or, Option, Some, Result, slice_get, All, refl, sym, ap, ◌∙◌, subst}
use Rattle.std.specs.Prelude.{option_map}
use Rattle.std.proofs.lemmas.List.{get_or-map, length-map}
use Rattle.std.proofs.lemmas.Option.{slice_get-map, slice_get-get_or}
use Rattle.pc_sheet.specs.Sheet.{Sheet}
use Rattle.pc_sheet.specs.declared.ids.ValueId.{ValueId}
use Rattle.pc_sheet.specs.declared.ids.Entry.{Entry}
use Rattle.pc_accept.specs.Sets.{GivenSet}
use Rattle.pc_accept.specs.Writable.{AreLinesBeside, IsSetOf}
use Rattle.pc_accept.specs.Accepts.{Certificate}
use Rattle.pc_world_list.specs.RuleCertificates.{certificate_against_rule, GoesAgainst, IsAgainstRule}
use Rattle.pc_world_list.specs.SetCertificates.{AreCertified, certificate_of_sets, claim_on_sets, given_of, IsOnSets, SetParts}
use Rattle.pc_log.specs.Lines.{LogLine}
use Rattle.pc_log.specs.Spans.{lines_of_span}
use Rattle.pc_log.specs.declared.trimming.Span.{Span}
use Rattle.pc_axiom_names.specs.Listed.{NameLists}
use Rattle.pc_reason.specs.Derivation.{entries_from, line_named}
use Rattle.pc_world_list.specs.Worlds.{WorldView, set_of, set_at}
use Rattle.pc_writer.specs.Writes.{Writes}
use Rattle.pc_cert_text.specs.CertificateText.{certificate_text}
use Rattle.pc_cert_text.specs.inside.Steps.{AreNamedAndOfSheet}
use Rattle.pc_cert_text.proofs.LineLemmas.{all_at}

abbrev pub blank_world : WorldView
blank_world = record { entries = []; shown = [] }

abbrev pub given_by : List Entry → List ValueId → GivenSet
given_by entries values = record { uses = entries; values = entries_from 0 values }

-- the set of the world at that place
pub given_at : (worlds : List WorldView) (i : ℕ) (entries : List Entry) (values : List ValueId) → i < length worlds → entries ≡ set_at worlds i → values ≡ (get_or worlds i blank_world).shown
    → slice_get (map given_of worlds) i ≡ Some (given_by entries values)
given_at worlds i entries values below sets shows =
    slice_get-map given_of worlds i ∙ ap (option_map given_of) (slice_get-get_or worlds i blank_world below)
    ∙ ap (λ es. Some (given_by es (get_or worlds i blank_world).shown)) (sym (sets ∙ get_or-map set_of worlds i blank_world [] below))
    ∙ ap (λ vs. Some (given_by entries vs)) (sym shows)

pub set_can_be_written : (sheet : Sheet) (worlds : List WorldView) (i : ℕ) (entries : List Entry) (values : List ValueId) → All (IsSetOf sheet) (map given_of worlds)
    → slice_get (map given_of worlds) i ≡ Some (given_by entries values) → IsSetOf sheet (given_by entries values)
set_can_be_written sheet worlds i entries values are at = all_at (IsSetOf sheet) (map given_of worlds) i (given_by entries values) are at

-- ---- the lines

pub same_lines : (lines more : List LogLine) (span other : Span) → lines ≡ more → span ≡ other → lines_of_span lines span ≡ lines_of_span more other
same_lines lines more span other lines_are span_is = ap (λ (ls : List LogLine). lines_of_span ls span) lines_are ∙ ap (lines_of_span more) span_is

pub certified_lines : (sheet : Sheet) (names : NameLists) (p : SetParts) → AreCertified sheet names p → AreNamedAndOfSheet sheet names (lines_of_span p.lines p.span)
certified_lines sheet names p is = record {
  sets = length p.worlds;
  few = subst (λ n. n < 10 ^ 18) (length-map p.worlds given_of) is.written.few_sets;
  named = is.named;
  written = subst (λ n. AreLinesBeside sheet n 0 (map (line_named names) (lines_of_span p.lines p.span))) (length-map p.worlds given_of) is.written.lines;
}

-- the text of the certificate of sets is that of one on them
pub on_sets : {S T E : Type 0} {given : S → Option (List ℕ)} {faults : S → ℕ} {before after : S} {outcome : Result T E} (sheet : Sheet) (names : NameLists) (p : SetParts) → AreCertified sheet names p
    → Writes given faults before after outcome (certificate_text sheet (certificate_of_sets names (claim_on_sets p.claim) p.worlds (lines_of_span p.lines p.span)))
    → (c : Certificate) × IsOnSets sheet (claim_on_sets p.claim) c × (c.sets ≡ map given_of p.worlds) × Writes given faults before after outcome (certificate_text sheet c)
on_sets sheet names p are wrote = (certificate_of_sets names (claim_on_sets p.claim) p.worlds (lines_of_span p.lines p.span), record { claims = refl; accepted = are.accepted; written = are.written }, refl, wrote)

-- the text of the certificate against a rule is that of one against it
pub on_rule : {S T E : Type 0} {given : S → Option (List ℕ)} {faults : S → ℕ} {before after : S} {outcome : Result T E} (sheet : Sheet) (names : NameLists) (rule : ℕ) (support : List Entry) (shown : List ValueId) (lines : List LogLine) (span : Span)
    → GoesAgainst sheet names rule support shown lines span → Writes given faults before after outcome (certificate_text sheet (certificate_against_rule names rule support shown (lines_of_span lines span)))
    → (c : Certificate) × IsAgainstRule sheet rule support c × Writes given faults before after outcome (certificate_text sheet c)
on_rule sheet names rule support shown lines span goes wrote = (certificate_against_rule names rule support shown (lines_of_span lines span), record { claims = refl; uses = refl; accepted = goes.accepted; written = goes.written }, wrote)
