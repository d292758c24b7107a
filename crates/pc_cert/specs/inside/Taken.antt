-- Lines that were taken one after the other.
use Rattle.std.specs.Prelude.{◌≡◌, ℕ, ◌+◌, ◌≤◌, List, [], ◌∷◌, ◌++◌, map, length}
use Rattle.std.specs.Str.Lines.{lines}
use Rattle.pc_sheet.specs.Sheet.{Sheet}
use Rattle.pc_cert.specs.Written.{WrittenLine, SaidLine}
use Rattle.pc_cert.specs.Line.{IsCertificateLine}
use Rattle.pc_cert.specs.Order.{LineKind, kind_of}
use Rattle.pc_cert.specs.Standing.{order_of}
use Rattle.pc_cert.specs.Text.{SaysOfSheet, AllSay, IsCertificateAtFault, syntax, unknown_name}
use Rattle.pc_cert.specs.Gathered.{IsGathered}
use Rattle.pc_cert.specs.declared.draft.Draft.{Draft}
use Rattle.pc_cert.specs.declared.order.Order.{Order}
use Rattle.pc_cert.specs.declared.cert.CertFault.{CertFault}
use Rattle.pc_cert.specs.declared.cert.CertFault.TheVariants as cert_fault

-- the line of this number has no form
abbrev pub IsFormless : List ℕ → ℕ → CertFault → Type 0
IsFormless line number (cert_fault.Syntax n) = (n ≡ number) × ((form : WrittenLine) → IsCertificateLine line form → ⊥)
IsFormless line number (cert_fault.UnknownName n) = ⊥
IsFormless line number cert_fault.Memory = Unit {0}

-- the fault of the line of this number, behind lines of these kinds
abbrev pub IsLineFault : Sheet → List LineKind → List ℕ → ℕ → CertFault → Type 0
IsLineFault sheet before line number (cert_fault.Syntax n) = (n ≡ number) × IsCertificateAtFault sheet before line syntax
IsLineFault sheet before line number (cert_fault.UnknownName n) = (n ≡ number) × IsCertificateAtFault sheet before line unknown_name
IsLineFault sheet before line number cert_fault.Memory = Unit {0}

-- the line says something behind lines that say this, which is gathered
pub record IsTaken (sheet : Sheet) (ls : List SaidLine) (line : List ℕ) (o : Order) (d : Draft) : Type 0 where
  pub says : SaidLine
  pub is : SaysOfSheet sheet (map kind_of ls) line says
  pub gathered : IsGathered (ls ++ says ∷ []) d
  pub order : o ≡ order_of (map kind_of (ls ++ says ∷ []))

-- the text's lines up to the rest are taken, and the next one has this number
pub record AreTaken (sheet : Sheet) (text rest : List ℕ) (o : Order) (d : Draft) (number : ℕ) : Type 0 where
  pub before : List (List ℕ)
  pub says : List SaidLine
  pub parted : lines text ≡ before ++ lines rest
  pub all : AllSay sheet [] before says
  pub gathered : IsGathered says d
  pub order : o ≡ order_of (map kind_of says)
  pub at : number ≡ length says + 1
  pub short : number + length rest ≤ length text + 1
