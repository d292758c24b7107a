-- Worked examples: what is enough for small sheets, and that no verdict is told as spent.
use Rattle.std.specs.Prelude.{◌≡◌, ℕ, List, [], None}
use Rattle.pc_laws.specs.Examples.{equal_cells}
use Rattle.pc_sheet.specs.Sheet.{Sheet}
use Rattle.pc_enough_laws.specs.Enough.{enough_for_all}
use Rattle.pc_refusals.specs.declared.refusal.Counts.{Counts}
use Rattle.pc_refusals.specs.declared.refusal.Refusal.TheVariants.{Spent}
use Rattle.pc_transcript.specs.Answer.{refused}
use Rattle.pc_spreadsheet.specs.Judgement.{Verdict, IsVerdictOn}
use Rattle.pc_spreadsheet.specs.Tasks.{State}
use Rattle.pc_run_laws.specs.Enough.{IsEnough, IsTooLittle}
use Rattle.pc_run_laws.specs.Complete.{Tells}

abbrev pub blank_sheet : Sheet
blank_sheet = record { universe = record { sorts = []; tables = []; families = [] }; rules = []; entries = [] }

pub record WorkedBudgets : Type 0 where
  -- two cells of two values each are equal, with an entry each: four pairs and a node, two entries, and eight targets
  pub number : enough_for_all equal_cells ≡ 4375
  pub enough : IsEnough equal_cells None 4375
  pub not_too_little : ¬ IsTooLittle equal_cells None 4375
  -- a sheet without cells and rules needs nothing
  pub blank : enough_for_all blank_sheet ≡ 0

-- whatever a line is judged, that isn't told by a spent budget
abbrev pub NoVerdictIsSpent : Type 0
NoVerdictIsSpent = (state : State) (line : List ℕ) (verdict : Verdict) (counts : Counts) (more : List ℕ) → IsVerdictOn state line verdict → ¬ Tells state verdict (refused (Spent counts) more)
