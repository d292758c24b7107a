-- The law of what texts give: it leaves no choice.
use Rattle.std.specs.Prelude.{◌≡◌, ℕ, List}
use Rattle.pc_load.specs.Outcome.{Outcome, IsOutcome}

-- a text has one outcome at most
abbrev pub TextsHaveOneOutcome : Type 0
TextsHaveOneOutcome = (text : List ℕ) (x y : Outcome) → IsOutcome text x → IsOutcome text y → x ≡ y
