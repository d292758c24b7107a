-- The lines of a derivation as they are kept, and the text of each.
use Rattle.std.specs.Prelude.{◌≡◌, ℕ, ◌+◌, ◌-◌, ◌<◌, ◌≤◌, ◌^◌, List, ◌++◌, Some, codes, get_or, length, map, slice_get, All, Contains}
use Rattle.std.specs.List.{flat_map}
use Rattle.pc_sheet.specs.Sheet.{Sheet}
use Rattle.pc_lits.specs.declared.literal.Lit.{Lit}
use Rattle.pc_log.specs.declared.log.StepId.{StepId}
use Rattle.pc_log.specs.Lines.{LogLine, AxiomLine, BlockLine, StepLine, hints_of}
use Rattle.pc_log.specs.Spans.{IsSpanOf, lines_of_span}
use Rattle.pc_log.specs.Sparse.{index_of, IsPicked}
use Rattle.pc_log.specs.Trimmed.{moved}
use Rattle.pc_axiom_names.specs.Listed.{NameLists}
use Rattle.pc_reason.specs.Derivation.{literal_named, symbol_named, axiom_named, line_named, AreLinesNamedBeside}
use Rattle.pc_reason.specs.Reasons.{lines_of_derivation}
use Rattle.pc_cert_text.specs.declared.lines.Lines.{Lines}
use Rattle.pc_cert_text.specs.declared.lines.Lines.TheVariants.{Logged, Shared}
use Rattle.pc_writer.specs.SheetText.{ended}
use Rattle.pc_cert_text.specs.CertificateText.{behind_blank, literal_text, number_text, derivation_line_text, derivation_lines_text}
use Rattle.pc_accept.specs.Writable.{IsAxiomOf, IsSymbolOf, AreLinesBeside}

-- its variable has a name, which is the sheet's
pub record IsLiteralOf (sheet : Sheet) (names : NameLists) (l : Lit) : Type 0 where
  pub named : l.variable.0 < length names.variables
  pub symbol : IsSymbolOf sheet (symbol_named names l.variable.0)

-- where they are kept there are such lines, and each hint of theirs is one of them
abbrev pub AreKept : Lines → Type 0
AreKept (Logged log span) = IsSpanOf log.now span
AreKept (Shared d) = IsPicked d.lines.now d.places.now

-- the lines, each hint counted by where its line stands among them
abbrev pub lines_in : Lines → List LogLine
lines_in (Logged log span) = lines_of_span log.now span
lines_in (Shared d) = lines_of_derivation d

-- the number of the line at this place, counted from 0
abbrev pub number_in : Lines → ℕ → ℕ
number_in (Logged log span) = λ h. h - span.first.0
number_in (Shared d) = λ h. index_of h d.places.now

-- the place has a number
abbrev pub HasNumber : Lines → ℕ → Type 0
HasNumber (Logged log span) h = span.first.0 ≤ h
HasNumber (Shared d) h = Contains d.places.now h

-- `from` lies behind the places before this number, and no further on than the place of this number
pub record IsBehind (places : List ℕ) (k from : ℕ) : Type 0 where
  pub later : k < length places → from ≤ get_or places k 0
  pub earlier : (i : ℕ) → i < k → get_or places i 0 < from

-- the line of this number can be looked for from there on; in a log it needn't be
abbrev pub IsNext : Lines → ℕ → ℕ → Type 0
IsNext (Logged log span) k from = Unit {0}
IsNext (Shared d) k from = IsBehind d.places.now k from

-- the line of this number, counted from 0, as it is kept
pub record IsLineAt (lines : Lines) (k : ℕ) (line : LogLine) : Type 0 where
  pub stands : slice_get (lines_in lines) k ≡ Some (moved (number_in lines) line)
  pub hints : (h : StepId) → Contains (hints_of line) h → HasNumber lines h.0

-- The line can be written: its axiom or variables have names, which are the sheet's, its hints have numbers, and a block's
-- number isn't too large.
abbrev pub CanBeWritten : Sheet → NameLists → Lines → LogLine → Type 0
CanBeWritten sheet names lines (AxiomLine a) = (a < length names.axioms) × IsAxiomOf sheet (axiom_named names a)
CanBeWritten sheet names lines (BlockLine number clause) = number + 1 < 2 ^ 64
CanBeWritten sheet names lines (StepLine clause hints learned) = All (IsLiteralOf sheet names) clause × All (λ h. HasNumber lines h.0) hints

-- Beside some number of given sets, which isn't too large, the lines can be named, and what they are by name is the sheet's.
pub record AreNamedAndOfSheet (sheet : Sheet) (names : NameLists) (lines : List LogLine) : Type 0 where
  pub sets : ℕ
  pub few : sets < 10 ^ 18
  pub named : AreLinesNamedBeside sets names lines
  pub written : AreLinesBeside sheet sets 0 (map (line_named names) lines)

-- the text of the line, its hints so numbered
abbrev pub logged_text : Sheet → NameLists → Lines → LogLine → List ℕ
logged_text sheet names lines line = derivation_line_text sheet (line_named names (moved (number_in lines) line))

abbrev pub spaced_literal_text : Sheet → NameLists → Lit → List ℕ
spaced_literal_text sheet names l = behind_blank (literal_text sheet (literal_named names l))

abbrev pub hint_text : Lines → StepId → List ℕ
hint_text lines h = behind_blank (number_text (number_in lines h.0 + 1))

abbrev pub step_text : Sheet → NameLists → Lines → List Lit → List StepId → List ℕ
step_text sheet names lines clause hints =
    codes "step" ++ (flat_map (spaced_literal_text sheet names) clause ++ (codes " :" ++ flat_map (hint_text lines) hints))

-- the lines, numbered from 1, and the last line of a certificate
abbrev pub ending_text : Sheet → NameLists → List LogLine → List ℕ
ending_text sheet names lines = derivation_lines_text sheet 1 (map (line_named names) lines) ++ ended (codes "end")
