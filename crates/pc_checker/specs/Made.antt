-- When a certificate was read for a sheet, and when a scratch was made for both.
use Rattle.std.specs.Prelude.{◌≡◌, ◌<◌, ◌≤◌, ℕ, Bool, false, MatchBool, List, [], ◌++◌, map, length, slice_get, slice_index_or, Some, All}
use Rattle.pc_sheet.specs.Sheet.{Sheet}
use Rattle.pc_sheet.specs.declared.ids.ValueId.{ValueId}
use Rattle.pc_lits.specs.declared.literal.Lit.{Lit}
use Rattle.pc_accept.specs.Literals.{Symbol, Literal}
use Rattle.pc_accept.specs.Axioms.{IsClauseOf}
use Rattle.pc_axiom_names.specs.Views.{axiom_of}
use Rattle.pc_cert.specs.declared.cert.Cert.{Cert}
use Rattle.pc_cert.specs.declared.cert.CertPart.{CertPart}
use Rattle.pc_cert.specs.declared.cert.CertPart.TheVariants.{Axiom, Step, Block}
use Rattle.pc_cert.specs.declared.cert.CertLine.{CertLine}
use Rattle.pc_cert.specs.declared.cert.Said.{Said}
use Rattle.pc_cert.specs.declared.cert.SaidSet.{SaidSet}
use Rattle.pc_accept.specs.Sets.{blocks_of}
use Rattle.pc_cert.specs.Text.{entry_said, set_read}
use Rattle.pc_sheet.specs.declared.ids.Entry.{Entry}
use Rattle.pc_cert.specs.Views.{said_of, set_of, symbols_of, literal_of, reading_of, AreSymbolsDistinct}
use Rattle.pc_cert.specs.ReadFor.{IsNamedIn, IsReadFor}
use Rattle.pc_checker.specs.declared.scratch.Scratch.{Scratch}
use Rattle.pc_checker.specs.Entered.{AreEnteredPairs, HasEachPair}
use Rattle.pc_checker.specs.LineClauses.{HasSame}
use Rattle.pc_checker.specs.Verdicts.{AreApart, values_in, allowed_in}

abbrev pub value_said : Said → ValueId
value_said s = s.entry.value

-- a step's own literals, however often each; or an axiom's or a set's clause, where it is marked as one, and no such clause where it isn't
abbrev pub IsPrepared : Sheet → List (List Literal) → List Symbol → List Lit → Bool → CertPart → Type 0
IsPrepared sheet blocks names clause good (Axiom a) =
    MatchBool good (IsClauseOf sheet (axiom_of a) (map (literal_of names) clause)) ((c : List Literal) → ¬ IsClauseOf sheet (axiom_of a) c)
IsPrepared sheet blocks names clause good (Step c hints) = HasSame clause c.items
IsPrepared sheet blocks names clause good (Block j) =
    MatchBool good (slice_get blocks j ≡ Some (map (literal_of names) clause)) ((c : List Literal) → ¬ (slice_get blocks j ≡ Some c))

abbrev pub entries_of : List Said → List Entry
entries_of uses = map entry_said (map said_of uses)

-- the clauses of these sets in the sheet
abbrev pub blocks_said : Sheet → List SaidSet → List (List Literal)
blocks_said sheet sets = blocks_of sheet (map set_read (map set_of sets))

abbrev pub own_blocks : Sheet → Cert → List (List Literal)
own_blocks sheet c = blocks_said sheet c.sets.items

abbrev pub set_values : SaidSet → List ValueId
set_values s = values_in (map said_of s.values.items)

-- the sets before this place are apart from the one there
abbrev pub AreApartAt : List SaidSet → ℕ → Type 0
AreApartAt sets place = (k : ℕ) (d : SaidSet) → k < place → AreApart (set_of (slice_index_or sets k d)) (set_of (slice_index_or sets place d))

-- so many of the first sets are apart from one another
pub record AreFirstApart (sets : List SaidSet) (n : ℕ) : Type 0 where
  pub within : n ≤ length sets
  pub apart : (j : ℕ) → j < n → AreApartAt sets j

-- all that the check needs: the entries by cell and value, a mark for each such pair, how many of the first sets are apart, the symbols
-- of the clauses, the certificate's first, and each clause by their numbers
pub record IsPreparedFor (sheet : Sheet) (c : Cert) (s : Scratch) : Type 0 where
  pub more : List Symbol
  pub distinct : AreSymbolsDistinct (symbols_of c ++ more)
  pub room : length s.values ≡ length (symbols_of c ++ more)
  pub entered : AreEnteredPairs sheet s.entered.items
  pub assignment : s.assignment ≡ values_in (reading_of c).values
  pub sets : s.sets.items ≡ map set_values c.sets.items
  pub pairs : HasEachPair sheet s.pairs
  pub apart : AreFirstApart c.sets.items s.apart
  pub count : length s.clauses ≡ length c.lines.items
  pub marks : length s.axioms.items ≡ length c.lines.items
  pub within : All (All (IsNamedIn (symbols_of c ++ more))) s.clauses
  pub each : (i : ℕ) (d : CertLine) → i < length c.lines.items
      → IsPrepared sheet (own_blocks sheet c) (symbols_of c ++ more) (slice_index_or s.clauses i []) (slice_index_or s.axioms.items i false) (slice_index_or c.lines.items i d).part
  pub allowed : map (literal_of (symbols_of c ++ more)) s.allowed.items ≡ allowed_in (reading_of c)
  pub allowed_within : All (IsNamedIn (symbols_of c ++ more)) s.allowed.items

-- the certificate was read for the sheet, and the scratch was made for both
pub record IsMadeFor (sheet : Sheet) (c : Cert) (s : Scratch) : Type 0 where
  pub read : IsReadFor sheet c
  pub prepared : IsPreparedFor sheet c s
