-- What is prepared of a certificate: its lines, one after the other, and what its claim is tested by.
use Rattle.std.specs.Prelude.{◌≡◌, ℕ, ◌<◌, Bool, Option, false, List, [], ◌∷◌, ◌++◌, map, length, slice_index_or, All}
use Rattle.pc_sheet.specs.Sheet.{Sheet}
use Rattle.pc_sheet.specs.declared.ids.ValueId.{ValueId}
use Rattle.pc_lits.specs.declared.literal.Lit.{Lit}
use Rattle.pc_lits.specs.Values.{IsInRange}
use Rattle.pc_accept.specs.Literals.{Symbol, Literal}
use Rattle.pc_cert.specs.declared.cert.Cert.{Cert}
use Rattle.pc_cert.specs.declared.cert.CertPart.{CertPart}
use Rattle.pc_cert.specs.declared.cert.CertPart.TheVariants.{Axiom, Step, Block}
use Rattle.pc_cert.specs.declared.cert.CertLine.{CertLine}
use Rattle.pc_cert.specs.ReadFor.{IsNamedIn, IsSaidOf, IsSetSaidOf, IsReadFor}
use Rattle.pc_cert.specs.declared.cert.SaidSet.{SaidSet}
use Rattle.pc_cert.specs.declared.cert.Said.{Said}
use Rattle.pc_cert.specs.Views.{said_of, symbols_of, literal_of, reading_of, AreSymbolsDistinct}
use Rattle.pc_checker.specs.Made.{AreFirstApart, IsPrepared, own_blocks, set_values}
use Rattle.pc_cert.specs.Numbered.{StartsWith}
use Rattle.pc_checker.specs.Entered.{AreEnteredPairs, HasEachPair}
use Rattle.pc_checker.specs.Verdicts.{values_in, allowed_in}

-- one clause more is stored, which is prepared for the part
pub record IsLinePrepared (sheet : Sheet) (blocks : List (List Literal)) (part : CertPart) (old new : List Symbol) (before after : List (List Lit)) (good : Bool) : Type 0 where
  pub grows : StartsWith old new
  pub clause : List Lit
  pub pushed : after ≡ before ++ clause ∷ []
  pub within : All (IsNamedIn new) clause
  pub prepared : IsPrepared sheet blocks new clause good part

-- there is a mark for each variable of a step
abbrev pub IsStepInRange : List (Option Bool) → CertPart → Type 0
IsStepInRange marks (Axiom a) = Unit {0}
IsStepInRange marks (Step c hints) = All (IsInRange marks) c.items
IsStepInRange marks (Block j) = Unit {0}

-- the clause and the mark of an earlier line are taken once more
pub record IsRepeated (earlier : ℕ) (marks : List Bool) (old new : List Symbol) (before after : List (List Lit)) (good : Bool) : Type 0 where
  pub symbols : new ≡ old
  pub pushed : after ≡ before ++ slice_index_or before earlier [] ∷ []
  pub mark : good ≡ slice_index_or marks earlier false

-- the first n lines are prepared
pub record ArePrepared (sheet : Sheet) (blocks : List (List Literal)) (lines : List CertLine) (n : ℕ) (symbols names : List Symbol) (clauses : List (List Lit)) (axioms : List Bool) : Type 0 where
  pub grows : StartsWith symbols names
  pub count : length clauses ≡ n
  pub marks : length axioms ≡ n
  pub within : All (All (IsNamedIn names)) clauses
  pub each : (i : ℕ) (d : CertLine) → i < n → IsPrepared sheet blocks names (slice_index_or clauses i []) (slice_index_or axioms i false) (slice_index_or lines i d).part

-- What the test of a derivation needs: the clause of each line by numbers of symbols, the certificate's first, which of them are taken
-- as axioms, the literals that the last clause may have, and so much room for truth values.
pub record IsDerivationPrepared (sheet : Sheet) (c : Cert) (clauses : List (List Lit)) (axioms : List Bool) (allowed : List Lit) (room : ℕ) : Type 0 where
  pub names : List Symbol
  pub distinct : AreSymbolsDistinct names
  pub lines : ArePrepared sheet (own_blocks sheet c) c.lines.items (length c.lines.items) (symbols_of c) names clauses axioms
  pub room_is : room ≡ length names
  pub literals : map (literal_of names) allowed ≡ allowed_in (reading_of c)
  pub within : All (IsNamedIn names) allowed

-- what the test of the claim needs beside it, room for a mark of each pair, and how many of the first sets are apart
pub record AreValuesPrepared (sheet : Sheet) (c : Cert) (by_pair : List Bool) (assigned : List ValueId) (in_sets : List (List ValueId)) (pairs : List (Option Bool)) (apart : ℕ) : Type 0 where
  pub entered : AreEnteredPairs sheet by_pair
  pub values : assigned ≡ values_in (reading_of c).values
  pub sets : in_sets ≡ map set_values c.sets.items
  pub room : HasEachPair sheet pairs
  pub first_apart : AreFirstApart c.sets.items apart

-- what the tests of a claim need: a certificate that was read for the sheet, the sheet's entries by cell and value, and
-- the assignments that the certificate and its sets give
pub record IsClaimPrepared (sheet : Sheet) (c : Cert) (by_pair : List Bool) (assigned : List ValueId) (in_sets : List (List ValueId)) : Type 0 where
  pub read : IsReadFor sheet c
  pub entered : AreEnteredPairs sheet by_pair
  pub values : assigned ≡ values_in (reading_of c).values
  pub sets : in_sets ≡ map set_values c.sets.items

-- the same of sets by themselves
pub record AreSetsPrepared (sheet : Sheet) (sets : List SaidSet) (by_pair : List Bool) (assigned : List (List ValueId)) : Type 0 where
  pub each : All (IsSetSaidOf sheet) sets
  pub entered : AreEnteredPairs sheet by_pair
  pub values_are : assigned ≡ map set_values sets

-- and of used entries and values
pub record IsShownPrepared (sheet : Sheet) (uses values : List Said) (by_pair : List Bool) (assigned : List ValueId) : Type 0 where
  pub uses_of : All (IsSaidOf sheet) uses
  pub values_of : All (IsSaidOf sheet) values
  pub entered : AreEnteredPairs sheet by_pair
  pub values_are : assigned ≡ values_in (map said_of values)
