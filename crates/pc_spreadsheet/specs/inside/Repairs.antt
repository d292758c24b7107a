-- What is done at a command that asks what could be kept together, or for a certificate of that.
use Rattle.std.specs.Prelude.{◌≡◌, ℕ, ◌≤◌, List, [], ◌∷◌, ◌++◌, Vec}
use Rattle.std.specs.declared.alloc.Global.{Global}
use Rattle.std.specs.declared.option.Option.TheVariants.{None}
use Rattle.pc_lits.specs.declared.tally.Tally.{Tally}
use Rattle.pc_log.specs.Lines.{LogLine}
use Rattle.pc_sheet.specs.Sheet.{Sheet}
use Rattle.pc_sheet.specs.Entailment.{IsImplied}
use Rattle.pc_sheet.specs.declared.ids.Target.{Target}
use Rattle.pc_world_list.specs.SetCertificates.{SetParts}
use Rattle.pc_theory.specs.Spendings.{LearnsWithin}
use Rattle.pc_theory.specs.WholeSpendings.{IsWholeSpending}
use Rattle.pc_repairs.specs.ListedSheet.{IsListed}
use Rattle.pc_session.specs.Views as session
use Rattle.pc_refusals.specs.declared.refusal.Counts.{Counts}
use Rattle.pc_refusals.specs.declared.refusal.Refusal.TheVariants.{Spent}
use Rattle.pc_transcript.specs.declared.machine.Reply.TheVariants.{Shown, Refused, Memory}
use Rattle.pc_world_list.specs.declared.set_proof.SetsClaim.TheVariants.{Repairs, Lacking}
use Rattle.pc_spreadsheet.specs.Pages.{Certifies}
use Rattle.pc_spreadsheet.specs.Allowed.{Notes, told_counts_of, IsWholeSpent}
use Rattle.pc_spreadsheet.specs.Commands.{Told}
use Rattle.pc_spreadsheet.specs.declared.page.Page.TheVariants.{Listed, Proof, Implied, Unimplied}

-- the maximal sets are a page, or there was no memory for it
pub data ListsRepairs (sheet : Sheet) : Told → Type 0 where
  by_listing : (text : Vec ℕ Global) → IsListed sheet text.items → ListsRepairs sheet (Shown (Listed text))
  for_memory : ListsRepairs sheet Memory

-- Searches of the whole sheet, of these logs, have spent so much of the budget, in at most so many calls.
pub record HasSpent (sheet : Sheet) (budget most : ℕ) (logs : List (List LogLine)) (tally : Tally) : Type 0 where
  pub spending : IsWholeSpending sheet logs tally
  pub limited : tally.limit ≡ budget
  pub few_calls : tally.calls ≤ most
  pub few_learned : LearnsWithin tally

-- what was spent on the whole sheet is noted and told, or there was no memory for it
pub data NotesWhole (sheet : Sheet) (tally : Tally) (old new : Notes) : Told → Type 0 where
  noted : (counts : Counts) → counts ≡ told_counts_of tally → new ≡ old ++ record { sheet = sheet; cell = None; tally = session.counts_of tally } ∷ [] → NotesWhole sheet tally old new (Refused (Spent counts) None)
  not_noted : new ≡ old → NotesWhole sheet tally old new Memory

-- By searches with that budget the maximal sets are shown to be all that there are; or these searches spend too much; or there was no memory
-- for it.
pub data Proves (budget : ℕ) (sheet : Sheet) (old new : Notes) : Told → Type 0 where
  by_certificate : (proof : SetParts) → Certifies sheet Repairs proof → new ≡ old → Proves budget sheet old new (Shown (Proof proof))
  by_search : (counts : Counts) → IsWholeSpent budget sheet counts old new → Proves budget sheet old new (Refused (Spent counts) None)
  for_room : new ≡ old → Proves budget sheet old new Memory

-- The target is shown not to be implied; or it is implied; or that isn't so and the searches for what shows it spend too much; or there was
-- no memory for it.
pub data Doubts (budget : ℕ) (sheet : Sheet) (t : Target) (old new : Notes) : Told → Type 0 where
  by_proof : (proof : SetParts) → ¬ IsImplied sheet t → Certifies sheet (Lacking t) proof → new ≡ old → Doubts budget sheet t old new (Shown (Unimplied t proof))
  by_reason : IsImplied sheet t → new ≡ old → Doubts budget sheet t old new (Shown (Implied t))
  by_spending : (counts : Counts) → ¬ IsImplied sheet t → IsWholeSpent budget sheet counts old new → Doubts budget sheet t old new (Refused (Spent counts) None)
  for_want : new ≡ old → Doubts budget sheet t old new Memory
