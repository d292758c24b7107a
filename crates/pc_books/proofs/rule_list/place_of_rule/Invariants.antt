use Rattle.std.proofs.Common.{◌≢◌, ℕ, ◌<◌, get_or}
use Rattle.pc_sheet.specs.declared.formula.Rule.{Rule}
use Rattle.pc_books.proofs.rule_list.place_of_rule.Given as goal

abbrev pub invariant-loop-place : goal.invariant-loop-place
invariant-loop-place l = (k : ℕ) (d : Rule) → k < l.place → (get_or l.rules k d).name ≢ l.name
