-- What a search of an asked sheet finds.
use Rattle.std.specs.Prelude.{◌≡◌, ℕ, ◌+◌, ◌*◌, List, [], Option, None, Some}
use Rattle.pc_lits.specs.declared.tally.Tally.{Tally}
use Rattle.pc_log.specs.Lines.{LogLine}
use Rattle.pc_sheet.specs.Sheet.{Sheet, Statement}
use Rattle.pc_sheet.specs.Entailment.{Shows}
use Rattle.pc_accept.specs.Asked.{IsStatementImplied, IsLeastForStatement, asked}
use Rattle.pc_repairs.specs.Searches.{IsWholeSearch}
use Rattle.pc_ask.specs.Asking.{AreReadSizes, IsDeniedAt, IsPartSearch}
use Rattle.pc_ask.specs.declared.finding.Found.{Found}

pub record IsFoundFor (sheet : Sheet) (f : Statement) (log : List LogLine) (found : Found) : Type 0 where
  pub least : IsLeastForStatement sheet found.support.items f
  pub shown : Shows sheet found.support.items found.shown
  pub denied : IsDeniedAt (asked sheet f) found.support.items log found.last

abbrev pub SearchSays : Sheet → Statement → List LogLine → Option Found → Type 0
SearchSays sheet f log None = ¬ IsStatementImplied sheet f
SearchSays sheet f log (Some found) = IsFoundFor sheet f log found

-- the asked sheet was searched, and of it only the part that has what is asked, within so many calls as the parts that the statement reads allow
pub record IsSearchOf (sheet book : Sheet) (before after : Tally) (log : List LogLine) : Type 0 where
  pub whole : (most : ℕ) × IsWholeSearch book [] most before after log
  pub part : (most : ℕ) × IsPartSearch book most before after log
  pub within : (f : Statement) (entries sets : ℕ) → book ≡ asked sheet f → AreReadSizes sheet f entries sets → IsWholeSearch book [] (sets * (entries + 2) + 1) before after log
