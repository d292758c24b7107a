-- Narrowing entries down, from the newest to the oldest.
use Rattle.std.specs.Prelude.{◌≡◌, ℕ, ◌+◌, List, ◌++◌, Option, None, Some, slice_get, take, drop, All, Contains}
use Rattle.pc_log.specs.Lines.{LogLine}
use Rattle.pc_log.specs.declared.log.StepId.{StepId}
use Rattle.pc_sheet.specs.Sheet.{Sheet}
use Rattle.pc_sheet.specs.Entailment.{HasAll, IsConsistent}
use Rattle.pc_sheet.specs.declared.ids.Entry.{Entry}
use Rattle.pc_sheet.specs.declared.ids.ValueId.{ValueId}
use Rattle.pc_repairs.specs.inside.Joining.{had_by}
use Rattle.pc_ask.specs.Asking.{IsDeniedAt}
use Rattle.pc_ask.specs.declared.narrowing.Witness.{Witness}

-- the entries are inconsistent, and a line derives it; or they aren't
abbrev pub RefuteSays : Sheet → List Entry → List LogLine → Option StepId → Type 0
RefuteSays sheet set log None = IsConsistent sheet set
RefuteSays sheet set log (Some line) = (¬ IsConsistent sheet set) × IsDeniedAt sheet set log line

-- those of the first k that the assignment has, and those that are kept
abbrev pub left_of : List Entry → ℕ → List Entry → List ValueId → List Entry
left_of entries k kept a = had_by (take k entries) a ++ kept

module _ (sheet : Sheet) (entries : List Entry) (all : List (List ValueId)) where
  -- it has what is kept, and what is left of it is inconsistent
  abbrev pub IsWitness : ℕ → List Entry → List ValueId → Type 0
  IsWitness k kept a = HasAll a kept × (¬ IsConsistent sheet (left_of entries k kept a))

  abbrev pub LacksWitness : ℕ → List Entry → Type 0
  LacksWitness k kept = (a : List ValueId) → Contains all a → ¬ IsWitness k kept a

  -- the way's assignment is one, and the line derives it
  pub record HasWitness (k : ℕ) (kept : List Entry) (log : List LogLine) (w : Witness) : Type 0 where
    pub shown : List ValueId
    pub at : slice_get all w.way ≡ Some shown
    pub is : IsWitness k kept shown
    pub denied : IsDeniedAt sheet (left_of entries k kept shown) log w.line

  abbrev pub WitnessSays : ℕ → List Entry → List LogLine → Option Witness → Type 0
  WitnessSays k kept log None = LacksWitness k kept
  WitnessSays k kept log (Some w) = HasWitness k kept log w

  -- the entry, where so much newer is kept, can't be left out
  pub record IsNeeded (newer : List Entry) (e : Entry) : Type 0 where
    pub place : ℕ
    pub at : slice_get entries place ≡ Some e
    pub newer_are : All (Contains (drop (place + 1) entries)) newer
    pub lacks : LacksWitness place newer

  -- the entries from place k on are decided: what is kept of them is needed, newest first, and with it there is a witness
  pub record IsNarrowed (k : ℕ) (kept : List Entry) (log : List LogLine) (w : Witness) : Type 0 where
    pub later : All (Contains (drop k entries)) kept
    pub witness : HasWitness k kept log w
    pub needed : (i : ℕ) (e : Entry) → slice_get kept i ≡ Some e → IsNeeded (take i kept) e
