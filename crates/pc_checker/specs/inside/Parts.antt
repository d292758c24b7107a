-- What the parts of the check answer.
use Rattle.std.specs.Prelude.{◌≡◌, ◌↔◌, ℕ, ◌<◌, ◌≤◌, ◌-◌, ◌⊎◌, Bool, false, IsTrue, List, [], map, length, slice_index_or, All, AllPairs, Contains, Option, None, Some}
use Rattle.pc_sheet.specs.Sheet.{Sheet}
use Rattle.pc_sheet.specs.Entailment.{HasTarget}
use Rattle.pc_sheet.specs.declared.ids.Target.{Target}
use Rattle.pc_sheet.specs.declared.ids.ValueId.{ValueId}
use Rattle.pc_sheet.specs.declared.ids.Entry.{Entry}
use Rattle.pc_lits.specs.declared.literal.Lit.{Lit}
use Rattle.pc_lits.specs.Literals.{negated}
use Rattle.pc_lits.specs.Steps.{IsGoodStep}
use Rattle.pc_lits.specs.Hints.{clauses_at}
use Rattle.pc_lits.specs.Values.{MakesTrue, IsInRange}
use Rattle.pc_accept.specs.Accepts.{AreInCellOrder}
use Rattle.pc_cert.specs.declared.cert.CertPart.{CertPart}
use Rattle.pc_cert.specs.declared.cert.CertPart.TheVariants.{Axiom, Step, Block}
use Rattle.pc_cert.specs.declared.cert.CertLine.{CertLine}
use Rattle.pc_cert.specs.Text.{SetReading, CertificateReading, entry_said, place_meant}
use Rattle.pc_checker.specs.declared.verdict.Verdict.{Verdict}
use Rattle.pc_checker.specs.declared.verdict.Verdict.TheVariants.{BadAxiom, BadStep}
use Rattle.pc_checker.specs.Verdicts.{Numbered, IsFirstWithout, IsFirstAstray, IsFirstBroken, FitsBut, Stands, IsFault, SetStands, IsSetFault, IsFirstInSet, AreApart, IsFaultOfSets, SetsStand, ClaimStands, IsVerdict}

-- ---- the claim

-- each of them is so; or the line of the first that isn't
abbrev pub IsFirstLine : (Numbered Entry → Type 0) → List (Numbered Entry) → Option ℕ → Type 0
IsFirstLine P said None = All P said
IsFirstLine P said (Some line) = (x : Numbered Entry) × IsFirstWithout P said x × (line ≡ x.0)

-- there is a value for each of so many cells, in their order; or the line at which that fails
abbrev pub IsLineOfValues : ℕ → List (Numbered Entry) → ℕ → Option ℕ → Type 0
IsLineOfValues cells values after None = AreInCellOrder (map entry_said values) × (cells ≤ length values)
IsLineOfValues cells values after (Some line) =
    ((x : Numbered Entry) × IsFirstAstray values x × (line ≡ x.0))
    ⊎ (AreInCellOrder (map entry_said values) × (length values < cells) × (line ≡ after))

-- the assignment fits, but for a rule that may be left out; or the first rule that it makes false
abbrev pub IsRuleBroken : Sheet → Option ℕ → List ValueId → Option ℕ → Type 0
IsRuleBroken sheet left_out a None = FitsBut sheet left_out a
IsRuleBroken sheet left_out a (Some rule) = IsFirstBroken sheet left_out a rule

-- what stands before the derivation passes; or its verdict
abbrev pub IsClaimVerdict : Sheet → CertificateReading → Option Verdict → Type 0
IsClaimVerdict sheet r None = ClaimStands sheet r r.claim
IsClaimVerdict sheet r (Some v) = IsVerdict sheet r v

-- used entries and values stand; or the first test of them that fails
abbrev pub IsShownFault : Sheet → Option ℕ → List (Numbered Entry) → List (Numbered Entry) → ℕ → Option Verdict → Type 0
IsShownFault sheet left_out uses values after None = Stands sheet left_out uses values
IsShownFault sheet left_out uses values after (Some v) = IsFault sheet left_out uses values after v

-- the same of a set, of all sets one after the other, and of the sets among one another
module _ (sheet : Sheet) (IsBarred : List ValueId → Type 0) where
  abbrev pub IsOneSetFault : SetReading → Option Verdict → Type 0
  IsOneSetFault s None = SetStands sheet IsBarred s
  IsOneSetFault s (Some v) = (¬ SetStands sheet IsBarred s) × IsSetFault sheet IsBarred s v

  abbrev pub IsFirstSetFault : List SetReading → Option Verdict → Type 0
  IsFirstSetFault sets None = All (SetStands sheet IsBarred) sets
  IsFirstSetFault sets (Some v) = (s : SetReading) × IsFirstWithout (SetStands sheet IsBarred) sets s × IsSetFault sheet IsBarred s v

  abbrev pub IsSetsFault : List SetReading → Option Verdict → Type 0
  IsSetsFault sets None = SetsStand sheet IsBarred sets
  IsSetsFault sets (Some v) = IsFaultOfSets sheet IsBarred sets v

abbrev pub IsLineInSet : List SetReading → Option ℕ → Type 0
IsLineInSet sets None = AllPairs AreApart sets
IsLineInSet sets (Some line) = (s : SetReading) × IsFirstInSet sets s × (line ≡ s.line)

-- what the assignments of sets may not have
abbrev pub BarredBy : Option Target → List ValueId → Type 0
BarredBy None a = ⊥
BarredBy (Some t) a = HasTarget a t

-- ---- the derivation, by the clauses in the scratch

-- the places of the lines that these numbers mean in the line of place i
abbrev pub places_meant : ℕ → List ℕ → List ℕ
places_meant i numbers = map (place_meant i) numbers

-- the clause of that place is a good step by earlier ones
abbrev pub IsStepBy : List (List Lit) → ℕ → List ℕ → Type 0
IsStepBy clauses i numbers =
    All (λ h. h < i) (places_meant i numbers) × IsGoodStep negated (slice_index_or clauses i []) (clauses_at clauses (places_meant i numbers))

-- a line that is marked as an axiom, or a good step
abbrev pub IsGoodPart : List (List Lit) → List Bool → ℕ → CertPart → Type 0
IsGoodPart clauses axioms i (Axiom a) = IsTrue (slice_index_or axioms i false)
IsGoodPart clauses axioms i (Step c hints) = IsStepBy clauses i hints.items
IsGoodPart clauses axioms i (Block j) = IsTrue (slice_index_or axioms i false)

abbrev pub AreGoodBelow : List (List Lit) → List Bool → List CertLine → ℕ → Type 0
AreGoodBelow clauses axioms lines n = (i : ℕ) (d : CertLine) → i < n → IsGoodPart clauses axioms i (slice_index_or lines i d).part

-- every line is good; or the first that isn't
abbrev pub IsFirstBad : List (List Lit) → List Bool → List CertLine → Option ℕ → Type 0
IsFirstBad clauses axioms lines None = AreGoodBelow clauses axioms lines (length lines)
IsFirstBad clauses axioms lines (Some k) =
    (k < length lines) × AreGoodBelow clauses axioms lines k × ((d : CertLine) → ¬ IsGoodPart clauses axioms k (slice_index_or lines k d).part)

-- there is a last clause, and its literals are among these
abbrev pub EndsAmong : List (List Lit) → List Lit → Type 0
EndsAmong clauses allowed = (0 < length clauses) × All (Contains allowed) (slice_index_or clauses (length clauses - 1) [])

-- where it is of that sign, it is one of these
abbrev pub IsAmongOf : Bool → List Lit → Lit → Type 0
IsAmongOf sign lits l = l.sign ≡ sign → Contains lits l

-- of the literals of that sign exactly these are true
abbrev pub AreMarked : Bool → List Lit → List (Option Bool) → Type 0
AreMarked sign lits values = (l : Lit) → IsInRange values l → l.sign ≡ sign → MakesTrue values l ↔ Contains lits l

-- the verdict on a line at fault
abbrev pub fault_by : ℕ → CertPart → Verdict
fault_by line (Axiom a) = BadAxiom line
fault_by line (Step c hints) = BadStep line
fault_by line (Block j) = BadAxiom line

abbrev pub fault_at : CertLine → Verdict
fault_at l = fault_by l.line l.part
