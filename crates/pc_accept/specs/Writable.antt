-- Certificates that name only what the sheet has, so that they can be written in its names.
use Rattle.std.specs.Prelude.{◌≡◌, ℕ, ◌+◌, ◌<◌, ◌^◌, List, [], ◌∷◌, length, IsSome, All}
use Rattle.pc_sheet.specs.Sheet.{Sheet}
use Rattle.pc_sheet.specs.Entailment.{cell_sizes}
use Rattle.pc_sheet.specs.Nodes.{node_at}
use Rattle.pc_sheet.specs.WellFormed.{IsEntryOf}
use Rattle.pc_sheet.specs.declared.ids.Target.{Target}
use Rattle.pc_accept.specs.Literals.{Symbol, pair, node}
use Rattle.pc_accept.specs.Axioms.{Axiom, axiom_some, axiom_one, axiom_rule, axiom_node, axiom_atom}
use Rattle.pc_accept.specs.Sets.{GivenSet}
use Rattle.pc_accept.specs.Accepts.{Claim, implied, inconsistent, repairs, unimplied, against, Line, taken, derived, blocked, Certificate}

-- the path leads to a node of that rule, and each child number fits 32 bits
pub record IsPathOf (sheet : Sheet) (r : ℕ) (steps : List ℕ) : Type 0 where
  pub leads : IsSome (node_at sheet r steps)
  pub small : All (λ k. k < 2 ^ 32) steps

-- a cell of the sheet with one of its values, or a node
abbrev pub IsSymbolOf : Sheet → Symbol → Type 0
IsSymbolOf sheet (pair c v) = IsEntryOf sheet.universe (record { cell = c; value = v })
IsSymbolOf sheet (node r steps) = IsPathOf sheet r steps

-- an axiom's cells, values, rule and node are the sheet's; its clause's number fits 32 bits
abbrev pub IsAxiomOf : Sheet → Axiom → Type 0
IsAxiomOf sheet (axiom_some c) = c.0 < length (cell_sizes sheet.universe)
IsAxiomOf sheet (axiom_one c v w) = IsEntryOf sheet.universe (record { cell = c; value = v }) × IsEntryOf sheet.universe (record { cell = c; value = w })
IsAxiomOf sheet (axiom_rule r) = r < length sheet.rules
IsAxiomOf sheet (axiom_node r steps i) = IsPathOf sheet r steps × (i < 2 ^ 32)
IsAxiomOf sheet (axiom_atom r steps reads) = IsPathOf sheet r steps × All (IsEntryOf sheet.universe) reads

-- beside so many given sets
module _ (sheet : Sheet) (sets : ℕ) where
  -- the line of that number, from 0: an axiom, a clause over the sheet's symbols whose hints are earlier lines, or a given set's
  abbrev pub IsLineBeside : ℕ → Line → Type 0
  IsLineBeside place (taken a) = IsAxiomOf sheet a
  IsLineBeside place (derived clause hints) = All (λ l. IsSymbolOf sheet l.what) clause × All (λ h. h < place) hints
  IsLineBeside place (blocked j) = j < sets

  -- lines of which the first has that number
  abbrev pub AreLinesBeside : ℕ → List Line → Type 0
  AreLinesBeside place [] = Unit {0}
  AreLinesBeside place (l ∷ ls) = IsLineBeside place l × AreLinesBeside (place + 1) ls

-- the same without given sets
abbrev pub IsLineOf : Sheet → ℕ → Line → Type 0
IsLineOf sheet = IsLineBeside sheet 0

abbrev pub AreLinesOf : Sheet → ℕ → List Line → Type 0
AreLinesOf sheet = AreLinesBeside sheet 0

-- a cell and value of the sheet
abbrev pub IsTargetOf : Sheet → Target → Type 0
IsTargetOf sheet t = IsEntryOf sheet.universe (record { cell = t.cell; value = t.value })

-- neither entries nor values beside those of sets
abbrev pub IsBareOf : Certificate → Type 0
IsBareOf c = (c.uses ≡ []) × (c.values ≡ [])

-- a target on a cell and value of the sheet, a rule of the sheet; sets where the claim speaks of them, and nothing else then; a
-- certificate of inconsistency uses no entry and assigns nothing
abbrev pub IsClaimOf : Sheet → Certificate → Claim → Type 0
IsClaimOf sheet c (implied t) = (c.sets ≡ []) × IsTargetOf sheet t
IsClaimOf sheet c inconsistent = (c.sets ≡ []) × IsBareOf c
IsClaimOf sheet c repairs = IsBareOf c
IsClaimOf sheet c (unimplied t) = IsBareOf c × IsTargetOf sheet t
IsClaimOf sheet c (against r) = (c.sets ≡ []) × (r < length sheet.rules)

pub record IsSetOf (sheet : Sheet) (s : GivenSet) : Type 0 where
  pub uses : All (IsEntryOf sheet.universe) s.uses
  pub values : All (IsEntryOf sheet.universe) s.values

-- all that the certificate names is the sheet's, and no line's number has more than 18 digits
pub record IsWritableCertificate (sheet : Sheet) (c : Certificate) : Type 0 where
  pub claim : IsClaimOf sheet c c.claim
  pub sets : All (IsSetOf sheet) c.sets
  pub uses : All (IsEntryOf sheet.universe) c.uses
  pub values : All (IsEntryOf sheet.universe) c.values
  pub lines : AreLinesBeside sheet (length c.sets) 0 c.lines
  pub few : length c.lines < 10 ^ 18
  pub few_sets : length c.sets < 10 ^ 18
