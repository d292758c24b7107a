-- Sets of entries, which of a sheet's entries they have, and the clause that stands for each.
use Rattle.std.specs.Prelude.{Bool, ◌&&◌, ◌==◌, not, List, map, filter}
use Rattle.std.specs.List.{list_any}
use Rattle.pc_sheet.specs.Sheet.{Sheet}
use Rattle.pc_sheet.specs.MaximalSets.{IsContained}
use Rattle.pc_sheet.specs.declared.ids.Entry.{Entry}
use Rattle.pc_accept.specs.Literals.{Literal, positive}
use Rattle.pc_accept.specs.Axioms.{pair_of}

abbrev pub is_entry : Entry → Entry → Bool
is_entry e f = (e.cell.0 == f.cell.0) && (e.value.0 == f.value.0)

abbrev pub is_in : List Entry → Entry → Bool
is_in set e = list_any (is_entry e) set

-- those of the entries that are in the set, in the order of the entries
abbrev pub those_in : List Entry → List Entry → List Entry
those_in entries set = filter (is_in set) entries

-- those that aren't
abbrev pub those_outside : List Entry → List Entry → List Entry
those_outside entries set = filter (λ e. not (is_in set e)) entries

abbrev pub positive_entry : Entry → Literal
positive_entry e = positive (pair_of e)

-- that some entry stands that isn't in the set
abbrev pub block_of : List Entry → List Entry → List Literal
block_of entries set = map positive_entry (those_outside entries set)

-- a set as a certificate gives it: its entries, and an assignment as a value for each cell
pub record GivenSet : Type 0 where
  pub uses : List Entry
  pub values : List Entry

-- the clauses of the sets, one after the other
abbrev pub blocks_of : Sheet → List GivenSet → List (List Literal)
blocks_of sheet sets = map (λ s. block_of sheet.entries s.uses) sets

-- neither lies within the other
abbrev pub NeitherIsWithin : GivenSet → GivenSet → Type 0
NeitherIsWithin s t = (¬ IsContained s.uses t.uses) × (¬ IsContained t.uses s.uses)
