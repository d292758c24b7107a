-- The maximal sets of a sheet as unions, one maximal set of each part that has entries.
use Rattle.std.specs.Prelude.{◌≡◌, ◌↔◌, Bool, true, false, List, [], ◌∷◌, filter, map, length, Contains}
use Rattle.std.specs.List.{AllZip}
use Rattle.pc_sheet.specs.Sheet.{Sheet}
use Rattle.pc_sheet.specs.Entailment.{IsSublist}
use Rattle.pc_sheet.specs.Sizes.{product}
use Rattle.pc_sheet.specs.MaximalSets.{ListsExactly, IsMaximalSet, AreRulesConsistent}
use Rattle.pc_sheet.specs.WellFormed.{AreWellFormedEntries}
use Rattle.pc_sheet.specs.declared.ids.Entry.{Entry}
use Rattle.pc_parts.specs.Parts.{Part, IsDivision}
use Rattle.pc_parts.specs.PartSheets.{entries_on, sheet_of}

abbrev pub are_some : List Entry → Bool
are_some [] = false
are_some (e ∷ es) = true

-- some entry is on its cells
abbrev pub has_entries : Sheet → Part → Bool
has_entries sheet part = are_some (entries_on part.cells sheet.entries)

abbrev pub parts_with_entries : Sheet → List Part → List Part
parts_with_entries sheet parts = filter (has_entries sheet) parts

-- one of the lists has it
abbrev pub IsInSome : List (List Entry) → Entry → Type 0
IsInSome lists e = (s : List Entry) × Contains lists s × Contains s e

-- those of the entries that one of the lists has, and there are no others in these
pub record IsUnion (entries : List Entry) (lists : List (List Entry)) (s : List Entry) : Type 0 where
  pub among : IsSublist entries s
  pub has : (e : Entry) → Contains s e ↔ IsInSome lists e

module _ (sheet : Sheet) (parts : List Part) where
  -- a maximal set of each part with entries
  abbrev pub AreChoices : List (List Entry) → Type 0
  AreChoices choices = AllZip (λ part own. IsMaximalSet (sheet_of sheet part) own) (parts_with_entries sheet parts) choices

  pub record AreUnions : Type 0 where
    -- the maximal sets are exactly the unions of one maximal set of each part with entries
    pub maximal : (s : List Entry) → IsMaximalSet sheet s ↔ ((choices : List (List Entry)) × AreChoices choices × IsUnion sheet.entries choices s)
    -- such choices have one union
    pub one_union : (choices : List (List Entry)) → AreChoices choices → (s : List Entry) × IsUnion sheet.entries choices s × ((other : List Entry) → IsUnion sheet.entries choices other → other ≡ s)
    -- and different ones different unions
    pub one_choice : (choices others : List (List Entry)) (s : List Entry) → AreChoices choices → AreChoices others → IsUnion sheet.entries choices s → IsUnion sheet.entries others s → others ≡ choices
    -- there are as many maximal sets as the product of their numbers says
    pub counted : (lists : List (List (List Entry))) → AllZip (λ part sets. ListsExactly (List Entry) (IsMaximalSet (sheet_of sheet part)) sets) (parts_with_entries sheet parts) lists
        → (all : List (List Entry)) × ListsExactly (List Entry) (IsMaximalSet sheet) all × (length all ≡ product (map length lists))

-- of each division, where the rules are consistent
abbrev pub MaximalSetsAreUnions : Type 0
MaximalSetsAreUnions = (sheet : Sheet) (parts : List Part) → IsDivision sheet parts → AreRulesConsistent sheet → AreWellFormedEntries sheet.universe sheet.entries → AreUnions sheet parts
