-- What the text of a certificate is read as.
use Rattle.std.specs.Prelude.{◌≡◌, ℕ, ◌<◌, true, List, Ok, All, IsSome, length}
use Rattle.pc_sheet.specs.Sheet.{Sheet}
use Rattle.pc_sheet.specs.Entailment.{cell_sizes}
use Rattle.pc_sheet.specs.Nodes.{node_at}
use Rattle.pc_sheet.specs.WellFormed.{IsEntryOf, IsWellFormed}
use Rattle.pc_accept.specs.Literals.{Symbol, pair, node}
use Rattle.pc_accept.specs.Axioms.{Axiom, axiom_some, axiom_one, axiom_rule, axiom_node, axiom_atom}
use Rattle.pc_accept.specs.Accepts.{Claim, implied, inconsistent, repairs, unimplied, against}
use Rattle.pc_cert.specs.declared.cert.Cert.{Cert}
use Rattle.pc_cert.specs.Written.{WrittenLine, CertificatePart, taken, derived, blocked, SaidLine}
use Rattle.pc_cert.specs.Line.{IsCertificateLine}
use Rattle.pc_cert.specs.Meaning.{IsSaidLine}
use Rattle.pc_cert.specs.Text.{SetReading, CertificateReading, TextReading, IsTextReading, certificate}
use Rattle.pc_cert.specs.Views.{IsCertTold}
use Rattle.pc_cert.specs.ReadFor.{IsBare, IsReadFor}

-- ---- one reading

-- a line has at most one form
abbrev pub LinesHaveOneForm : Type 0
LinesHaveOneForm = (line : List ℕ) (f g : WrittenLine) → IsCertificateLine line f → IsCertificateLine line g → f ≡ g

-- in a well-formed sheet a form says at most one thing, behind however many sets
abbrev pub FormsSayOneThing : Type 0
FormsSayOneThing = (sheet : Sheet) → IsWellFormed sheet → (sets : ℕ) (form : WrittenLine) (k l : SaidLine) → IsSaidLine sheet sets form k → IsSaidLine sheet sets form l → k ≡ l

-- in a well-formed sheet a text has at most one reading
abbrev pub TextsHaveOneReading : Type 0
TextsHaveOneReading = (sheet : Sheet) → IsWellFormed sheet → (text : List ℕ) (r s : TextReading) → IsTextReading sheet text r → IsTextReading sheet text s → r ≡ s

-- ---- read for the sheet

-- what a text is read as in a sheet is a certificate for that sheet
abbrev pub WhatIsReadIsForTheSheet : Type 0
WhatIsReadIsForTheSheet = (sheet : Sheet) (text : List ℕ) (c : Cert) → IsCertTold sheet text (Ok c) → IsReadFor sheet c

-- ---- what it speaks of

-- a cell of the sheet with a value of its sort, or a node of one of its rules
abbrev pub IsSheetSymbol : Sheet → Symbol → Type 0
IsSheetSymbol sheet (pair c v) = IsEntryOf sheet.universe (record { cell = c; value = v })
IsSheetSymbol sheet (node rule steps) = IsSome (node_at sheet rule steps)

-- its cells, values, rules and paths are the sheet's
abbrev pub IsSheetAxiom : Sheet → Axiom → Type 0
IsSheetAxiom sheet (axiom_some c) = c.0 < length (cell_sizes sheet.universe)
IsSheetAxiom sheet (axiom_one c v w) = IsSheetSymbol sheet (pair c v) × IsSheetSymbol sheet (pair c w)
IsSheetAxiom sheet (axiom_rule rule) = rule < length sheet.rules
IsSheetAxiom sheet (axiom_node rule steps i) = IsSheetSymbol sheet (node rule steps)
IsSheetAxiom sheet (axiom_atom rule steps reads) = IsSheetSymbol sheet (node rule steps) × All (IsEntryOf sheet.universe) reads

-- an axiom of the sheet, a step over symbols of the sheet, or the clause of one of so many sets
abbrev pub IsPartOverSheet : Sheet → ℕ → CertificatePart → Type 0
IsPartOverSheet sheet sets (taken a) = IsSheetAxiom sheet a
IsPartOverSheet sheet sets (derived clause hints) = All (λ l. IsSheetSymbol sheet l.what) clause
IsPartOverSheet sheet sets (blocked j) = j < sets

abbrev pub IsSheetClaim : Sheet → Claim → Type 0
IsSheetClaim sheet (implied t) = IsSheetSymbol sheet (pair t.cell t.value)
IsSheetClaim sheet inconsistent = Unit {0}
IsSheetClaim sheet repairs = Unit {0}
IsSheetClaim sheet (unimplied t) = IsSheetSymbol sheet (pair t.cell t.value) × (t.holds ≡ true)
IsSheetClaim sheet (against r) = r < length sheet.rules

pub record IsSheetSet (sheet : Sheet) (s : SetReading) : Type 0 where
  pub uses : All (λ e. IsEntryOf sheet.universe e.1) s.uses
  pub values : All (λ e. IsEntryOf sheet.universe e.1) s.values

pub record SpeaksOf (sheet : Sheet) (r : CertificateReading) : Type 0 where
  pub claim : IsSheetClaim sheet r.claim
  pub sets : All (IsSheetSet sheet) r.sets
  pub uses : All (λ e. IsEntryOf sheet.universe e.1) r.uses
  pub values : All (λ e. IsEntryOf sheet.universe e.1) r.values
  pub parts : All (λ p. IsPartOverSheet sheet (length r.sets) p.1) r.parts

-- what a text is read as in a sheet speaks of that sheet alone
abbrev pub WhatIsReadSpeaksOfTheSheet : Type 0
WhatIsReadSpeaksOfTheSheet = (sheet : Sheet) (text : List ℕ) (r : CertificateReading) → IsTextReading sheet text (certificate r) → SpeaksOf sheet r

-- what is read has nothing beside what its claim asks for
abbrev pub WhatIsReadIsBare : Type 0
WhatIsReadIsBare = (sheet : Sheet) (text : List ℕ) (r : CertificateReading) → IsTextReading sheet text (certificate r) → IsBare sheet r r.claim
