-- What an edit leaves.
use Rattle.std.specs.Prelude.{◌≡◌, ◌⊎◌, ◌+◌, ◌<◌, ◌≤◌, Bool, List, Some, All, Contains, length}
use Rattle.pc_sheet.specs.Sheet.{Sheet}
use Rattle.pc_sheet.specs.Entailment.{IsLeastSupport}
use Rattle.pc_sheet.specs.Limits.{most_entries}
use Rattle.pc_sheet.specs.WellFormed.{entries_of}
use Rattle.pc_sheet.specs.declared.ids.CellId.{CellId}
use Rattle.pc_sheet.specs.declared.ids.Entry.{Entry}
use Rattle.pc_sheet.specs.declared.ids.Target.{Target}
use Rattle.pc_components.specs.View.{Kept}
use Rattle.pc_reason.specs.Reasons.{Justification}
use Rattle.pc_reason.specs.Targets.{IsTargetIn}
use Rattle.pc_justify_laws.specs.Edits.{HasNone}
use Rattle.pc_cache.specs.Rows.{TargetRow, row_of}
use Rattle.pc_search.specs.Found.{steps_in}
use Rattle.pc_session.specs.Arena.{IsLeft}
use Rattle.pc_session.specs.Views.{Counts, SessionView}

-- each reason stood before, or has at most so many steps as clauses were learned and calls made
abbrev pub Steps : List TargetRow → List TargetRow → Counts → Type 0
Steps old new tally = (t : Target) (j : Justification) → row_of new t ≡ Some j → (row_of old t ≡ Some j) ⊎ (steps_in j.lines ≤ tally.learned + tally.calls)

-- each reason whose support has none of the entries that are gone stays as it was
abbrev pub Stay : (Entry → Bool) → List TargetRow → List TargetRow → Type 0
Stay gone old new = (t : Target) (j : Justification) → row_of old t ≡ Some j → HasNone gone j.support → row_of new t ≡ Some j

-- what is kept of targets on the cells of other parts stays as it was
abbrev pub OthersStay : CellId → Kept → List TargetRow → List TargetRow → Type 0
OthersStay c kept old new = (cells : List CellId) (t : Target) → Contains kept.cells cells → Contains cells c → ¬ Contains cells t.cell → row_of new t ≡ row_of old t

-- no reason rests on an entry that is gone
abbrev pub AreUnused : (Entry → Bool) → List TargetRow → Type 0
AreUnused gone rows = (t : Target) (j : Justification) → row_of rows t ≡ Some j → HasNone gone j.support

-- all is as it was, but that the derivations may have been compacted
abbrev pub IsUnchanged : SessionView → SessionView → Type 0
IsUnchanged old new = (new ≡ record old { bytes = new.bytes; spare = new.spare }) × IsLeft old.bytes old.spare new.bytes new.spare

-- none of the entries that are gone is in the least support of an implied target
abbrev pub AreSpare : Sheet → (Entry → Bool) → Type 0
AreSpare sheet gone = (t : Target) (s : List Entry) → IsTargetIn sheet.universe t → IsLeastSupport sheet s t → HasNone gone s

-- the entry stands, and no other of its cell
abbrev pub StandsAlone : List Entry → Entry → Type 0
StandsAlone es e = Contains es e × All (λ f. f ≡ e) (entries_of e.cell es)

-- the entry stands, or its cell may have one more
abbrev pub HasPlaceFor : List Entry → Entry → Type 0
HasPlaceFor es e = Contains es e ⊎ (length (entries_of e.cell es) < most_entries)
