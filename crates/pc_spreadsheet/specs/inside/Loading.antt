-- Why no spreadsheet is made of a sheet's text.
use Rattle.std.specs.Prelude.{◌≡◌, ℕ, ◌<◌, List, [], ◌∷◌, ◌++◌, Result, Ok, Err}
use Rattle.std.specs.declared.option.Option.{Option}
use Rattle.std.specs.declared.option.Option.TheVariants.{Some, None}
use Rattle.pc_sheet.specs.Limits.{most_weight}
use Rattle.pc_sheet.specs.Sheet.{Sheet}
use Rattle.pc_sheet.specs.MaximalSets.{AreRulesConsistent}
use Rattle.pc_sheet.specs.Weight.{weight}
use Rattle.pc_theory.specs.declared.spending.Spending.{Spending}
use Rattle.pc_session.specs.Views as session
use Rattle.pc_transcript.specs.declared.machine.LoadStop.{LoadStop}
use Rattle.pc_transcript.specs.declared.machine.LoadStop.TheVariants.{Refused, Memory}
use Rattle.pc_refusals.specs.declared.refusal.Counts.{Counts}
use Rattle.pc_refusals.specs.declared.refusal.SheetRefusal.{SheetRefusal}
use Rattle.pc_refusals.specs.declared.refusal.Refusal.TheVariants.{TooLarge, Inconsistent, Spent}
use Rattle.pc_transcript.specs.Stops.{StopsBy}
use Rattle.pc_spreadsheet.specs.Judgement.{of_whole}
use Rattle.pc_spreadsheet.specs.Tasks.{State, IsLight}
use Rattle.pc_spreadsheet.specs.Pages.{IsCertificateAgainst}
use Rattle.pc_spreadsheet.specs.Allowed.{Notes, told_counts_of, IsLawfullySpent, RefusesText}

-- no spreadsheet is made of the text: for a refusal that it has, or for want of memory
abbrev pub IsNotLoaded : ℕ → List ℕ → Notes → Notes → LoadStop Sheet → Type 0
IsNotLoaded budget text old new stop = StopsBy IsCertificateAgainst (λ why more. RefusesText budget text why more old new) old new stop

-- what was spent on the book is noted and told, or there was no memory for it
pub data NotesLoad (book : Sheet) (spending : Spending) (old new : Notes) : LoadStop Sheet → Type 0 where
  noted : (why : SheetRefusal) → why ≡ of_whole (Spent (told_counts_of spending.tally)) → new ≡ old ++ record { sheet = book; cell = None; tally = session.counts_of spending.tally } ∷ [] → NotesLoad book spending old new (Refused why None)
  not_noted : new ≡ old → NotesLoad book spending old new Memory

-- within the budget, the book is refused so, with what shows that this is right
pub data IsRefusedBook (budget : ℕ) (book : Sheet) (why : SheetRefusal) (proof : Option Sheet) (old new : Notes) : Type 0 where
  too_large : most_weight < weight book → why ≡ of_whole TooLarge → proof ≡ None → new ≡ old → IsRefusedBook budget book why proof old new
  contradictory : IsLight book → ¬ AreRulesConsistent book → why ≡ of_whole Inconsistent → proof ≡ Some book → new ≡ old → IsRefusedBook budget book why proof old new
  spent : (counts : Counts) → IsLight book → IsLawfullySpent budget book None counts old new → why ≡ of_whole (Spent counts) → proof ≡ None → IsRefusedBook budget book why proof old new

-- the spreadsheet that starts with the book and the budget, or why none does
abbrev pub OpensAs : ℕ → Sheet → Notes → Notes → Result State (LoadStop Sheet) → Type 0
OpensAs budget book old new (Ok state) = (state ≡ record { sheet = book; budget = budget }) × IsLight book × AreRulesConsistent book × (new ≡ old)
OpensAs budget book old new (Err (Refused why proof)) = IsRefusedBook budget book why proof old new
OpensAs budget book old new (Err Memory) = new ≡ old
