-- States of sessions.
use Rattle.std.specs.Prelude.{◌≡◌, ◌⊎◌, ℕ, Bool, List, Some}
use Rattle.pc_sheet.specs.Sheet.{Sheet}
use Rattle.pc_sheet.specs.declared.ids.CellId.{CellId}
use Rattle.pc_sheet.specs.declared.ids.Entry.{Entry}
use Rattle.pc_sheet.specs.WellFormed.{IsWellFormed}
use Rattle.pc_justify_laws.specs.Edits.{edited, IsEditOf}
use Rattle.pc_theory.specs.Theories.{rules_alone}
use Rattle.pc_session.specs.Answers.{OthersStay, Stay, Steps}
use Rattle.pc_session.specs.Arena.{compacted, IsBounded, IsLeft, IsWithinSpent}
use Rattle.pc_session.specs.inside.Chosen.{AreChosen}
use Rattle.pc_session.specs.inside.Sessions.{IsSession}
use Rattle.pc_session.specs.Views.{counts_of, none_spent, IsTallyOf, SessionView}
use Rattle.pc_session.specs.declared.state.State.{State}

-- all that is kept is right
abbrev pub IsState : State → Type 0
IsState s = IsSession s.book s.theory s.worlds.items s.cache.rows

-- ... with the marks of the parts that have entries
pub record IsKept (s : State) : Type 0 where
  pub state : IsState s
  pub chosen : AreChosen s.book s.chosen

-- The edit of the cell's entries has been put in place: the sheet is the edited one, and its worlds and reasons are kept; so much was spent
-- within the limit on the part of the cell, and what must stay of the old reasons has stayed.
pub record IsEdited (old : State) (c : CellId) (gone : Entry → Bool) (added : List Entry) (limit : ℕ) (new : State) : Type 0 where
  pub sheet_is : new.book ≡ edited old.book gone added
  pub session : IsSession new.book old.theory new.worlds.items new.cache.rows
  pub spends : IsTallyOf new.book (Some c) limit (counts_of new.tally)
  pub stays : Stay gone old.cache.rows new.cache.rows
  pub others : OthersStay c old.theory.components old.cache.rows new.cache.rows
  pub steps : Steps old.cache.rows new.cache.rows (counts_of new.tally)

-- All that is kept is right for the sheet before an edit of the cell's entries, and the book has the edit.
pub record HasEdit (sheet : Sheet) (c : CellId) (gone : Entry → Bool) (added : List Entry) (s : State) : Type 0 where
  pub formed : IsWellFormed sheet
  pub session : IsSession sheet s.theory s.worlds.items s.cache.rows
  pub chosen : AreChosen sheet s.chosen
  pub is_edit : IsEditOf c gone added
  pub book : s.book ≡ edited sheet gone added

-- all but the entries is as it was
pub record IsSameBeside (old new : State) : Type 0 where
  pub rules : rules_alone new.book ≡ rules_alone old.book
  pub rest : record new { book = old.book } ≡ old

-- its bytes are what they were, or no more than what is left when they are compacted and what was spent allows
abbrev pub IsSpentBy : CellId → State → State → Type 0
IsSpentBy c old new =
    (new.cache.bytes ≡ old.cache.bytes)
    ⊎ IsWithinSpent new.book (Some c) new.theory.components (counts_of new.tally) (compacted old.cache.rows old.cache.bytes) new.cache.bytes

-- what an accepted edit of the cell's entries leaves, where some are gone
pub record IsLeftBy (c : CellId) (gone : Entry → Bool) (old new : State) : Type 0 where
  pub state : IsState new
  pub stays : Stay gone old.cache.rows new.cache.rows
  pub others : OthersStay c old.theory.components old.cache.rows new.cache.rows
  pub steps : Steps old.cache.rows new.cache.rows (counts_of new.tally)
  pub bytes : IsBounded old.cache.rows old.cache.bytes new.cache.rows new.cache.bytes
  pub spent : IsSpentBy c old new

-- all is as it was, but that the derivations may have been compacted
pub record IsSame (old new : State) : Type 0 where
  pub book : new.book ≡ old.book
  pub theory : new.theory ≡ old.theory
  pub worlds : new.worlds.items ≡ old.worlds.items
  pub rows : new.cache.rows ≡ old.cache.rows
  pub bytes : IsLeft old.cache.bytes old.cache.spare new.cache.bytes new.cache.spare
  pub tally : new.tally ≡ old.tally
  pub chosen : new.chosen ≡ old.chosen

-- the sheet is this one, nothing was spent, and all else is as it was
pub record IsSameBut (sheet : Sheet) (limit : ℕ) (old new : State) : Type 0 where
  pub book : new.book ≡ sheet
  pub theory : new.theory ≡ old.theory
  pub cache : new.cache ≡ old.cache
  pub tally : counts_of new.tally ≡ none_spent limit

-- as a session with that budget is seen
abbrev pub viewed : ℕ → State → SessionView
viewed budget s = record { sheet = s.book; budget = budget; tally = counts_of s.tally; components = s.theory.components; rows = s.cache.rows; bytes = s.cache.bytes; spare = s.cache.spare }
