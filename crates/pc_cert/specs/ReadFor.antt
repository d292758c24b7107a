-- What a certificate is that was read for a sheet.
use Rattle.std.specs.Prelude.{◌≡◌, ◌<◌, List, [], length, All}
use Rattle.pc_sheet.specs.Sheet.{Sheet}
use Rattle.pc_sheet.specs.Entailment.{cell_sizes}
use Rattle.pc_sheet.specs.WellFormed.{IsEntryOf}
use Rattle.pc_lits.specs.declared.literal.Lit.{Lit}
use Rattle.pc_accept.specs.Literals.{Symbol}
use Rattle.pc_accept.specs.Accepts as accepts
use Rattle.pc_axiom_names.specs.declared.axiom_name.AxiomName.{AxiomName}
use Rattle.pc_axiom_names.specs.declared.axiom_name.AxiomName.TheVariants.{Any, One, Rule, Node, Atom}
use Rattle.pc_cert.specs.declared.cert.Cert.{Cert}
use Rattle.pc_cert.specs.declared.cert.CertPart.{CertPart}
use Rattle.pc_cert.specs.declared.cert.CertPart.TheVariants.{Axiom, Step, Block}
use Rattle.pc_cert.specs.declared.cert.Said.{Said}
use Rattle.pc_cert.specs.declared.cert.SaidSet.{SaidSet}
use Rattle.pc_cert.specs.Text.{CertificateReading}
use Rattle.pc_cert.specs.Views.{symbols_of, reading_of, AreSymbolsDistinct}

abbrev pub IsSaidOf : Sheet → Said → Type 0
IsSaidOf sheet s = IsEntryOf sheet.universe s.entry

-- the literal's number is that of one of these symbols
abbrev pub IsNamedIn : List Symbol → Lit → Type 0
IsNamedIn names l = l.variable.0 < length names

-- the axiom speaks of cells and values of the sheet
abbrev pub IsOverSheet : Sheet → AxiomName → Type 0
IsOverSheet sheet (Any c) = c.0 < length (cell_sizes sheet.universe)
IsOverSheet sheet (One c v w) = IsEntryOf sheet.universe (record { cell = c; value = v }) × IsEntryOf sheet.universe (record { cell = c; value = w })
IsOverSheet sheet (Rule r) = Unit {0}
IsOverSheet sheet (Node p i) = Unit {0}
IsOverSheet sheet (Atom p reads) = All (IsEntryOf sheet.universe) reads.items

-- an axiom over the sheet, or a step whose literals are of these symbols
abbrev pub IsPartOver : Sheet → List Symbol → CertPart → Type 0
IsPartOver sheet symbols (Axiom a) = IsOverSheet sheet a
IsPartOver sheet symbols (Step clause hints) = All (IsNamedIn symbols) clause.items
IsPartOver sheet symbols (Block j) = Unit {0}

pub record IsSetSaidOf (sheet : Sheet) (s : SaidSet) : Type 0 where
  pub uses : All (IsSaidOf sheet) s.uses.items
  pub values : All (IsSaidOf sheet) s.values.items

abbrev pub HasNoEntries : CertificateReading → Type 0
HasNoEntries r = (r.uses ≡ []) × (r.values ≡ [])

-- with a claim of inconsistency or on sets there are neither used entries nor values, and with another claim than one on sets there
-- are no sets; a rule that is named is one of the sheet's
abbrev pub IsBare : Sheet → CertificateReading → accepts.Claim → Type 0
IsBare sheet r (accepts.implied t) = r.sets ≡ []
IsBare sheet r accepts.inconsistent = (r.sets ≡ []) × HasNoEntries r
IsBare sheet r accepts.repairs = HasNoEntries r
IsBare sheet r (accepts.unimplied t) = HasNoEntries r
IsBare sheet r (accepts.against k) = (r.sets ≡ []) × (k < length sheet.rules)

-- entries of the sheet, different symbols, literals of these, and nothing beside what the claim asks for
pub record IsReadFor (sheet : Sheet) (c : Cert) : Type 0 where
  pub sets : All (IsSetSaidOf sheet) c.sets.items
  pub uses : All (IsSaidOf sheet) c.uses.items
  pub values : All (IsSaidOf sheet) c.values.items
  pub distinct : AreSymbolsDistinct (symbols_of c)
  pub parts : All (λ l. IsPartOver sheet (symbols_of c) l.part) c.lines.items
  pub bare : IsBare sheet (reading_of c) (reading_of c).claim
