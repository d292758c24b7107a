-- What the types of the code stand for.
use Rattle.std.specs.Prelude.{◌≡◌, ◌≢◌, ℕ, ◌+◌, ◌<◌, ◌⊎◌, List, [], ◌∷◌, ◌++◌, length, map, slice_index_or, Result, Ok, Err}
use Rattle.pc_sheet.specs.Sheet.{Sheet}
use Rattle.pc_sheet.specs.declared.ids.Entry.{Entry}
use Rattle.pc_lits.specs.declared.literal.Lit.{Lit}
use Rattle.pc_accept.specs.Literals as plain
use Rattle.pc_accept.specs.Accepts as accepts
use Rattle.pc_axiom_names.specs.Views.{axiom_of}
use Rattle.pc_cert.specs.Written.{CertificatePart, taken, derived, blocked}
use Rattle.pc_cert.specs.Text.{SetReading, CertificateReading, certificate, fault_at, syntax, unknown_name, IsTextReading}
use Rattle.pc_cert.specs.declared.cert.Claim.{Claim}
use Rattle.pc_cert.specs.declared.cert.Claim.TheVariants.{Implied, Inconsistent, Repairs, Not, Against}
use Rattle.pc_cert.specs.declared.cert.Said.{Said}
use Rattle.pc_cert.specs.declared.cert.SaidSet.{SaidSet}
use Rattle.pc_cert.specs.declared.cert.Symbol.{Symbol}
use Rattle.pc_cert.specs.declared.cert.Symbol.TheVariants.{Pair, Node}
use Rattle.pc_cert.specs.declared.cert.CertPart.{CertPart}
use Rattle.pc_cert.specs.declared.cert.CertPart.TheVariants.{Axiom, Step, Block}
use Rattle.pc_cert.specs.declared.cert.CertLine.{CertLine}
use Rattle.pc_cert.specs.declared.cert.Cert.{Cert}
use Rattle.pc_cert.specs.declared.cert.CertFault.{CertFault}
use Rattle.pc_cert.specs.declared.cert.CertFault.TheVariants as cert_fault

abbrev pub claim_of : Claim → accepts.Claim
claim_of (Implied t) = accepts.implied t
claim_of Inconsistent = accepts.inconsistent
claim_of Repairs = accepts.repairs
claim_of (Not t) = accepts.unimplied t
claim_of (Against r) = accepts.against r

abbrev pub said_of : Said → ℕ × Entry
said_of s = (s.line, s.entry)

abbrev pub set_of : SaidSet → SetReading
set_of s = record { line = s.line; uses = map said_of s.uses.items; values = map said_of s.values.items; after = s.after }

abbrev pub symbol_of : Symbol → plain.Symbol
symbol_of (Pair c v) = plain.pair c v
symbol_of (Node p) = plain.node p.rule p.steps.items

-- ---- over a table of symbols

-- the symbol at a place of the table; past its end, the root of the first rule
abbrev pub symbol_at : List plain.Symbol → ℕ → plain.Symbol
symbol_at symbols k = slice_index_or symbols k (plain.node 0 [])

abbrev pub literal_of : List plain.Symbol → Lit → plain.Literal
literal_of symbols l = record { what = symbol_at symbols l.variable.0; sign = l.sign }

abbrev pub part_of : List plain.Symbol → CertPart → CertificatePart
part_of symbols (Axiom a) = taken (axiom_of a)
part_of symbols (Step clause hints) = derived (map (literal_of symbols) clause.items) hints.items
part_of symbols (Block j) = blocked j

abbrev pub numbered_part_of : List plain.Symbol → CertLine → ℕ × CertificatePart
numbered_part_of symbols l = (l.line, part_of symbols l.part)

abbrev pub symbols_of : Cert → List plain.Symbol
symbols_of c = map symbol_of c.symbols.items

abbrev pub reading_of : Cert → CertificateReading
reading_of c = record { claim = claim_of c.claim; sets = map set_of c.sets.items; uses = map said_of c.uses.items; values = map said_of c.values.items; after = c.after; parts = map (numbered_part_of (symbols_of c)) c.lines.items }

-- ---- how symbols are numbered

abbrev pub place_of : Lit → ℕ
place_of l = l.variable.0

-- the places that a part's literals have
abbrev pub places_in : CertPart → List ℕ
places_in (Axiom a) = []
places_in (Step clause hints) = map place_of clause.items
places_in (Block j) = []

abbrev pub places_of : List CertLine → List ℕ
places_of [] = []
places_of (l ∷ ls) = places_in l.part ++ places_of ls

-- after n symbols, each place is that of one of those or of the next one, and in the end of all
abbrev pub AppearInOrder : ℕ → List ℕ → ℕ → Type 0
AppearInOrder n [] all = n ≡ all
AppearInOrder n (k ∷ ks) all = ((k < n) × AppearInOrder n ks all) ⊎ ((k ≡ n) × AppearInOrder (n + 1) ks all)

abbrev pub AreSymbolsDistinct : List plain.Symbol → Type 0
AreSymbolsDistinct symbols = (i j : ℕ) → i < j → j < length symbols → symbol_at symbols i ≢ symbol_at symbols j

-- the symbols are all different, and are those of the clauses in the order in which they first appear
pub record AreInFirstOrder (symbols : List plain.Symbol) (places : List ℕ) : Type 0 where
  pub different : AreSymbolsDistinct symbols
  pub appear : AppearInOrder 0 places (length symbols)

-- ---- what the reading of a text tells

-- the text is read as what is answered, unless memory ran out
abbrev pub IsCertTold : Sheet → List ℕ → Result Cert CertFault → Type 0
IsCertTold sheet text (Ok c) = IsTextReading sheet text (certificate (reading_of c)) × AreInFirstOrder (symbols_of c) (places_of c.lines.items)
IsCertTold sheet text (Err (cert_fault.Syntax n)) = IsTextReading sheet text (fault_at n syntax)
IsCertTold sheet text (Err (cert_fault.UnknownName n)) = IsTextReading sheet text (fault_at n unknown_name)
IsCertTold sheet text (Err cert_fault.Memory) = Unit {0}
