-- The tests of a certificate, in their order, and the verdict that the first failing one gives.
use Rattle.std.specs.Prelude.{◌≡◌, ◌≢◌, ℕ, ◌<◌, ◌⊎◌, List, [], ◌∷◌, ◌++◌, map, length, All, AllPairs, Contains, Option, None, Some}
use Rattle.pc_sheet.specs.Sheet.{Sheet}
use Rattle.pc_sheet.specs.Entailment.{cell_sizes, IsAssignment, RuleHolds, Fits, HasEntry}
use Rattle.pc_sheet.specs.declared.ids.ValueId.{ValueId}
use Rattle.pc_sheet.specs.declared.ids.Entry.{Entry}
use Rattle.pc_accept.specs.Literals.{Literal}
use Rattle.pc_accept.specs.Axioms.{negated_entry}
use Rattle.pc_accept.specs.Sets.{blocks_of, NeitherIsWithin}
use Rattle.pc_accept.specs.Accepts.{Claim, implied, inconsistent, repairs, unimplied, against, IsLineClauseBeside, AreLineClausesBeside, EndsWithin, DerivesBeside, literal_of_target, value_of_entry, AreInCellOrder, FitsOthers, BarsTarget, BarsNothing}
use Rattle.pc_cert.specs.Written.{CertificatePart, taken, derived, blocked}
use Rattle.pc_cert.specs.Text.{SetReading, CertificateReading, entry_said, set_read, line_of, lines_from}
use Rattle.pc_checker.specs.declared.verdict.Verdict.{Verdict}
use Rattle.pc_checker.specs.declared.verdict.Verdict.TheVariants.{UseNotEntered, BadValues, UseNotHeld, RuleBroken, HasValue, SetInSet, BadAxiom, BadStep, WrongEnd, Accepted}

-- an entry, or a part of the derivation, with the number of the line that says it
abbrev pub Numbered : Type 0 → Type 0
Numbered X = ℕ × X

-- the first of the list that isn't so
pub record IsFirstWithout {X : Type 0} (P : X → Type 0) (xs : List X) (x : X) : Type 0 where
  pub before : List X
  pub after : List X
  pub are : xs ≡ before ++ x ∷ after
  pub so : All P before
  pub fails : ¬ P x

-- ---- the tests of used entries and an assignment

-- each used entry is an entry of the sheet
abbrev pub IsEntered : Sheet → Numbered Entry → Type 0
IsEntered sheet e = Contains sheet.entries e.1

abbrev pub AreEntered : Sheet → List (Numbered Entry) → Type 0
AreEntered sheet uses = All (IsEntered sheet) uses

-- the values are those of the cells in their order, each once
abbrev pub values_in : List (Numbered Entry) → List ValueId
values_in values = map value_of_entry (map entry_said values)

abbrev pub AreValues : Sheet → List (Numbered Entry) → Type 0
AreValues sheet values = AreInCellOrder (map entry_said values) × IsAssignment sheet.universe (values_in values)

-- each of the values before is that of the cell whose turn it is, and this one isn't
pub record IsFirstAstray (values : List (Numbered Entry)) (x : Numbered Entry) : Type 0 where
  pub before : List (Numbered Entry)
  pub after : List (Numbered Entry)
  pub are : values ≡ before ++ x ∷ after
  pub in_order : AreInCellOrder (map entry_said before)
  pub astray : x.1.cell.0 ≢ length before

-- the values are in the cells' order, and there are fewer values than cells
pub record LackValues (sheet : Sheet) (values : List (Numbered Entry)) : Type 0 where
  pub in_order : AreInCellOrder (map entry_said values)
  pub fewer : length values < length (cell_sizes sheet.universe)

-- the line of a value out of its turn; or, where values are missing, the line at which they are missed
abbrev pub IsFaultOfValues : Sheet → List (Numbered Entry) → ℕ → ℕ → Type 0
IsFaultOfValues sheet values after line =
    ((x : Numbered Entry) × IsFirstAstray values x × (line ≡ x.0)) ⊎ (LackValues sheet values × (line ≡ after))

-- the assignment has each used entry
abbrev pub IsHeld : List ValueId → Numbered Entry → Type 0
IsHeld a e = HasEntry a e.1

abbrev pub AreHeld : List (Numbered Entry) → List (Numbered Entry) → Type 0
AreHeld uses values = All (IsHeld (values_in values)) uses

-- every rule is true, or every one but that of the number
abbrev pub FitsBut : Sheet → Option ℕ → List ValueId → Type 0
FitsBut sheet None a = Fits sheet a
FitsBut sheet (Some r) a = FitsOthers sheet r a

-- the first rule that the assignment makes false; one may be left out
pub record IsFirstBroken (sheet : Sheet) (left_out : Option ℕ) (a : List ValueId) (rule : ℕ) : Type 0 where
  pub within : rule < length sheet.rules
  pub tested : left_out ≢ Some rule
  pub before : (k : ℕ) → k < rule → left_out ≢ Some k → RuleHolds sheet a k
  pub broken : ¬ RuleHolds sheet a rule

-- all four tests pass
pub record Stands (sheet : Sheet) (left_out : Option ℕ) (uses values : List (Numbered Entry)) : Type 0 where
  pub entered : AreEntered sheet uses
  pub assigns : AreValues sheet values
  pub held : AreHeld uses values
  pub fits : FitsBut sheet left_out (values_in values)

-- the first of them that fails
abbrev pub IsFault : Sheet → Option ℕ → List (Numbered Entry) → List (Numbered Entry) → ℕ → Verdict → Type 0
IsFault sheet left_out uses values after (UseNotEntered line) = (x : Numbered Entry) × IsFirstWithout (IsEntered sheet) uses x × (line ≡ x.0)
IsFault sheet left_out uses values after (BadValues line) = AreEntered sheet uses × IsFaultOfValues sheet values after line
IsFault sheet left_out uses values after (UseNotHeld line) =
    AreEntered sheet uses × AreValues sheet values × ((x : Numbered Entry) × IsFirstWithout (IsHeld (values_in values)) uses x × (line ≡ x.0))
IsFault sheet left_out uses values after (RuleBroken rule) = AreEntered sheet uses × AreValues sheet values × AreHeld uses values × IsFirstBroken sheet left_out (values_in values) rule
IsFault sheet left_out uses values after v = ⊥

-- ---- the tests of sets

module _ (sheet : Sheet) (IsBarred : List ValueId → Type 0) where
  -- the four tests pass, and the assignment isn't barred
  abbrev pub SetStands : SetReading → Type 0
  SetStands s = Stands sheet None s.uses s.values × (¬ IsBarred (values_in s.values))

  -- the first test of a set that fails
  abbrev pub IsSetFault : SetReading → Verdict → Type 0
  IsSetFault s (HasValue line) = Stands sheet None s.uses s.values × IsBarred (values_in s.values) × (line ≡ s.line)
  IsSetFault s v = IsFault sheet None s.uses s.values s.after v

-- neither of the two lies within the other
abbrev pub AreApart : SetReading → SetReading → Type 0
AreApart s t = NeitherIsWithin (set_read s) (set_read t)

-- the sets before lie in none of one another, and this one lies in one of them, or one of them in it
pub record IsFirstInSet (sets : List SetReading) (s : SetReading) : Type 0 where
  pub before : List SetReading
  pub after : List SetReading
  pub are : sets ≡ before ++ s ∷ after
  pub apart : AllPairs AreApart before
  pub within : ¬ All (λ t. AreApart t s) before

-- set after set; and then the sets among one another
abbrev pub IsFaultOfSets : Sheet → (List ValueId → Type 0) → List SetReading → Verdict → Type 0
IsFaultOfSets sheet IsBarred sets (SetInSet line) = All (SetStands sheet IsBarred) sets × ((s : SetReading) × IsFirstInSet sets s × (line ≡ s.line))
IsFaultOfSets sheet IsBarred sets v = (s : SetReading) × IsFirstWithout (SetStands sheet IsBarred) sets s × IsSetFault sheet IsBarred s v

pub record SetsStand (sheet : Sheet) (IsBarred : List ValueId → Type 0) (sets : List SetReading) : Type 0 where
  pub each : All (SetStands sheet IsBarred) sets
  pub apart : AllPairs AreApart sets

-- ---- the tests before the derivation, by the claim; a claim of inconsistency has none

abbrev pub ClaimStands : Sheet → CertificateReading → Claim → Type 0
ClaimStands sheet r (implied t) = Stands sheet None r.uses r.values
ClaimStands sheet r inconsistent = Unit {0}
ClaimStands sheet r repairs = SetsStand sheet BarsNothing r.sets
ClaimStands sheet r (unimplied t) = SetsStand sheet (BarsTarget t) r.sets
ClaimStands sheet r (against k) = Stands sheet (Some k) r.uses r.values

abbrev pub IsFaultOfClaim : Sheet → CertificateReading → Claim → Verdict → Type 0
IsFaultOfClaim sheet r (implied t) v = IsFault sheet None r.uses r.values r.after v
IsFaultOfClaim sheet r inconsistent v = ⊥
IsFaultOfClaim sheet r repairs v = IsFaultOfSets sheet BarsNothing r.sets v
IsFaultOfClaim sheet r (unimplied t) v = IsFaultOfSets sheet (BarsTarget t) r.sets v
IsFaultOfClaim sheet r (against k) v = IsFault sheet (Some k) r.uses r.values r.after v

-- ---- the derivation

-- the clauses of the certificate's sets
abbrev pub blocks_in : Sheet → CertificateReading → List (List Literal)
blocks_in sheet r = blocks_of sheet (map set_read r.sets)

-- the first part that is neither an axiom, a set's clause nor a good step, after parts with these clauses
pub record IsFirstAtFault (sheet : Sheet) (blocks : List (List Literal)) (parts : List (Numbered CertificatePart)) (x : Numbered CertificatePart) : Type 0 where
  pub before : List (Numbered CertificatePart)
  pub after : List (Numbered CertificatePart)
  pub are : parts ≡ before ++ x ∷ after
  pub clauses : List (List Literal)
  pub derivation : AreLineClausesBeside sheet blocks (lines_from 0 before) clauses
  pub fault : (clause : List Literal) → ¬ IsLineClauseBeside sheet blocks clauses (length before) (line_of (length before) x.1) clause

-- the literals that the last clause may have
abbrev pub allowed_by : CertificateReading → Claim → List Literal
allowed_by r (implied t) = map negated_entry (map entry_said r.uses) ++ literal_of_target t ∷ []
allowed_by r inconsistent = []
allowed_by r repairs = []
allowed_by r (unimplied t) = []
allowed_by r (against k) = map negated_entry (map entry_said r.uses)

abbrev pub allowed_in : CertificateReading → List Literal
allowed_in r = allowed_by r r.claim

-- each line is right, and the last clause isn't within what is allowed
pub record EndsWrong (sheet : Sheet) (r : CertificateReading) : Type 0 where
  pub clauses : List (List Literal)
  pub derivation : AreLineClausesBeside sheet (blocks_in sheet r) (lines_from 0 r.parts) clauses
  pub elsewhere : ¬ EndsWithin clauses (allowed_in r)

-- ---- the verdict: the first test that fails, or that none does

-- that of a part which isn't what it is said to be
abbrev pub fault_of : Numbered CertificatePart → Verdict
fault_of (line, taken a) = BadAxiom line
fault_of (line, derived c hints) = BadStep line
fault_of (line, blocked j) = BadAxiom line

abbrev pub IsFaultOfPart : Sheet → CertificateReading → Verdict → Type 0
IsFaultOfPart sheet r v = (x : Numbered CertificatePart) × IsFirstAtFault sheet (blocks_in sheet r) r.parts x × (v ≡ fault_of x)

abbrev pub IsVerdict : Sheet → CertificateReading → Verdict → Type 0
IsVerdict sheet r (BadAxiom line) = ClaimStands sheet r r.claim × IsFaultOfPart sheet r (BadAxiom line)
IsVerdict sheet r (BadStep line) = ClaimStands sheet r r.claim × IsFaultOfPart sheet r (BadStep line)
IsVerdict sheet r WrongEnd = ClaimStands sheet r r.claim × EndsWrong sheet r
IsVerdict sheet r Accepted = ClaimStands sheet r r.claim × DerivesBeside sheet (blocks_in sheet r) (lines_from 0 r.parts) (allowed_in r)
IsVerdict sheet r v = IsFaultOfClaim sheet r r.claim v
