-- How symbols get their numbers as literals are read.
use Rattle.std.specs.Prelude.{◌≡◌, ℕ, List, ◌++◌, length, map}
use Rattle.pc_sheet.specs.Sheet.{Sheet}
use Rattle.pc_lits.specs.declared.literal.Lit.{Lit}
use Rattle.pc_accept.specs.Literals.{Symbol, Literal}
use Rattle.pc_cert.specs.Written.{WrittenLiteral, WrittenPart, derived, blocked}
use Rattle.pc_cert.specs.Meaning.{IsLiteralNamed, IsPartNamed, AreNamedEach}
use Rattle.pc_cert.specs.Views.{symbol_of, literal_of, part_of, place_of, places_in, AppearInOrder}
use Rattle.pc_cert.specs.declared.cert.CertPart.{CertPart}
use Rattle.pc_cert.specs.declared.table.Table.{Table}

-- the numbers are those of the symbols
abbrev pub AreSymbolNumbers : Table → Type 0
AreSymbolNumbers t = t.names ≡ map symbol_of t.symbols.items

-- more symbols may follow these
abbrev pub StartsWith : List Symbol → List Symbol → Type 0
StartsWith old new = (more : List Symbol) × (new ≡ old ++ more)

-- these literals are named by number, after which there are more symbols, each numbered in its turn
pub record AreNumbered (sheet : Sheet) (written : List WrittenLiteral) (old new : List Symbol) (lits : List Lit) : Type 0 where
  pub grows : StartsWith old new
  pub named : AreNamedEach (IsLiteralNamed sheet) written (map (literal_of new) lits)
  pub appear : AppearInOrder (length old) (map place_of lits) (length new)

-- the same of a part of the derivation behind so many sets
pub record IsPartTaken (sheet : Sheet) (sets : ℕ) (written : WrittenPart) (old new : List Symbol) (p : CertPart) : Type 0 where
  pub grows : StartsWith old new
  pub named : IsPartNamed sheet sets written (part_of new p)
  pub appear : AppearInOrder (length old) (places_in p) (length new)

-- behind so many sets this names neither a clause with hints nor a set's
pub record IsNoClause (sheet : Sheet) (sets : ℕ) (written : WrittenPart) : Type 0 where
  pub not_derived : (ls : List Literal) (ns : List ℕ) → IsPartNamed sheet sets written (derived ls ns) → ⊥
  pub not_blocked : (k : ℕ) → IsPartNamed sheet sets written (blocked k) → ⊥
