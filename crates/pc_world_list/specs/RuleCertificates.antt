-- Certificates against a rule: what they are made of, before they are text.
use Rattle.std.specs.Prelude.{◌≡◌, ℕ, List, [], map}
use Rattle.pc_sheet.specs.Sheet.{Sheet}
use Rattle.pc_sheet.specs.declared.ids.Entry.{Entry}
use Rattle.pc_sheet.specs.declared.ids.ValueId.{ValueId}
use Rattle.pc_log.specs.Lines.{LogLine}
use Rattle.pc_log.specs.Spans.{IsSpanOf, lines_of_span}
use Rattle.pc_log.specs.declared.trimming.Span.{Span}
use Rattle.pc_accept.specs.Accepts.{against, Certificate, Accepts}
use Rattle.pc_accept.specs.Writable.{IsWritableCertificate}
use Rattle.pc_axiom_names.specs.Listed.{NameLists}
use Rattle.pc_reason.specs.Derivation.{line_named, AreLinesNamed, entries_from}

-- the certificate against the rule of that number which uses these entries and shows this assignment
abbrev pub certificate_against_rule : NameLists → ℕ → List Entry → List ValueId → List LogLine → Certificate
certificate_against_rule names rule support shown lines =
    record { claim = against rule; sets = []; uses = support; values = entries_from 0 shown; lines = map (line_named names) lines }

-- The span's lines can be named, and the certificate that they make with the entries and the assignment is accepted and
-- speaks of what the sheet has alone.
pub record GoesAgainst (sheet : Sheet) (names : NameLists) (rule : ℕ) (support : List Entry) (shown : List ValueId) (lines : List LogLine) (span : Span) : Type 0 where
  pub lies : IsSpanOf lines span
  pub named : AreLinesNamed names (lines_of_span lines span)
  pub accepted : Accepts sheet (certificate_against_rule names rule support shown (lines_of_span lines span))
  pub written : IsWritableCertificate sheet (certificate_against_rule names rule support shown (lines_of_span lines span))

-- the certificate is against that rule and uses these entries, the sheet accepts it, and it can be written
pub record IsAgainstRule (sheet : Sheet) (rule : ℕ) (support : List Entry) (c : Certificate) : Type 0 where
  pub claims : c.claim ≡ against rule
  pub uses : c.uses ≡ support
  pub accepted : Accepts sheet c
  pub written : IsWritableCertificate sheet c
