-- Entries that are marked by cell and value.
use Rattle.std.specs.Prelude.{◌≡◌, ℕ, ◌+◌, ◌*◌, ◌<◌, ◌↔◌, Bool, true, false, List, length, slice_index_or, All, Contains, Option, None, Some}
use Rattle.pc_sheet.specs.Sheet.{Sheet}
use Rattle.pc_sheet.specs.Entailment.{cell_sizes}
use Rattle.pc_sheet.specs.Limits.{most_values}
use Rattle.pc_sheet.specs.declared.ids.Entry.{Entry}
use Rattle.pc_cert.specs.declared.cert.Said.{Said}
use Rattle.pc_cert.specs.declared.cert.SaidSet.{SaidSet}

-- the place of a pair of a cell and a value: by cell, then by value
abbrev pub pair_place : Entry → ℕ
pair_place e = e.cell.0 * most_values + e.value.0

-- the pair has a place of its own among the marks
pub record HasPlace {X : Type 0} (marks : List X) (e : Entry) : Type 0 where
  pub value : e.value.0 < most_values
  pub within : pair_place e < length marks

-- there is a mark for each pair of the sheet
abbrev pub HasEachPair : {X : Type 0} → Sheet → List X → Type 0
HasEachPair sheet marks = length marks ≡ length (cell_sizes sheet.universe) * most_values

-- of the pairs that have a place exactly the entries have that mark; one without a mark has the other
abbrev pub AreMarkedBy : {X : Type 0} → X → X → List Entry → List X → Type 0
AreMarkedBy other mark entries marks = (e : Entry) → HasPlace marks e → (slice_index_or marks (pair_place e) other ≡ mark) ↔ Contains entries e

abbrev pub ArePairsMarked : List Entry → List Bool → Type 0
ArePairsMarked = AreMarkedBy false true

-- the same of marks that are truth values
abbrev pub AreUsesMarked : List Entry → List (Option Bool) → Type 0
AreUsesMarked = AreMarkedBy None (Some true)

-- each used entry has a place
abbrev pub HavePlaces : {X : Type 0} → List X → List Said → Type 0
HavePlaces marks uses = All (λ s. HasPlace marks s.entry) uses

abbrev pub SetsHavePlaces : {X : Type 0} → List X → List SaidSet → Type 0
SetsHavePlaces marks sets = All (λ s. HavePlaces marks s.uses.items) sets

-- a mark for each pair of the sheet, and exactly its entries are marked
pub record AreEnteredPairs (sheet : Sheet) (marks : List Bool) : Type 0 where
  pub each_pair : HasEachPair sheet marks
  pub by_pair : ArePairsMarked sheet.entries marks
