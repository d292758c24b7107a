-- What is done at a command that asks a formula.
use Rattle.std.specs.Prelude.{◌≡◌, ℕ, ◌<◌}
use Rattle.std.specs.declared.option.Option.TheVariants.{None}
use Rattle.pc_sheet.specs.Sheet.{Sheet, Statement}
use Rattle.pc_sheet.specs.Limits.{most_weight}
use Rattle.pc_sheet.specs.Weight.{weight}
use Rattle.pc_accept.specs.Asked.{IsStatementImplied, asked}
use Rattle.pc_refusals.specs.declared.refusal.Counts.{Counts}
use Rattle.pc_refusals.specs.declared.refusal.Refusal.TheVariants.{TooLarge, Spent}
use Rattle.pc_transcript.specs.declared.machine.Reply.TheVariants.{Shown, Refused, Memory}
use Rattle.pc_spreadsheet.specs.Tasks.{IsLight}
use Rattle.pc_spreadsheet.specs.Pages.{ProvesAsked}
use Rattle.pc_spreadsheet.specs.Allowed.{Notes, IsAskSpent}
use Rattle.pc_spreadsheet.specs.Commands.{Told}
use Rattle.pc_spreadsheet.specs.declared.page.AskProof.{AskProof}
use Rattle.pc_spreadsheet.specs.declared.page.Page.TheVariants.{Answered, Unanswered}

-- the formula's least support is shown; or there was no memory for it
pub data Certified (sheet : Sheet) (f : Statement) : Told → Type 0 where
  with_lines : (proof : AskProof) → ProvesAsked sheet f proof → Certified sheet f (Shown (Answered proof))
  without_room : Certified sheet f Memory

-- The formula is shown to be implied; or it isn't implied; or the asked sheet is too large; or it isn't, and the search spends too much; or
-- there was no memory for it.
pub data Answers (budget : ℕ) (sheet : Sheet) (f : Statement) (old new : Notes) : Told → Type 0 where
  by_lines : (proof : AskProof) → IsLight (asked sheet f) → ProvesAsked sheet f proof → new ≡ old → Answers budget sheet f old new (Shown (Answered proof))
  by_lack : (made : Sheet) → IsLight (asked sheet f) → made ≡ asked sheet f → ¬ IsStatementImplied sheet f → new ≡ old → Answers budget sheet f old new (Shown (Unanswered made))
  by_weight : most_weight < weight (asked sheet f) → new ≡ old → Answers budget sheet f old new (Refused TooLarge None)
  by_search : (counts : Counts) → IsLight (asked sheet f) → IsAskSpent budget sheet f counts old new → Answers budget sheet f old new (Refused (Spent counts) None)
  by_want : new ≡ old → Answers budget sheet f old new Memory
