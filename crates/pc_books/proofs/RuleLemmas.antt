-- Rules by their names.
use Rattle.std.proofs.Common.{◌≢◌, ℕ, ◌<◌, List, map, length, get_or}
use Rattle.std.proofs.lemmas.List.Elements.{All-map}
use Rattle.pc_sheet.specs.Views.{rule_of}
use Rattle.pc_sheet.specs.declared.formula.Rule.{Rule}
use Rattle.pc_books.specs.RuleNames.{IsNewName}

pub new_name : (rules : List Rule) (name : List ℕ) → ((k : ℕ) (d : Rule) → k < length rules → (get_or rules k d).name ≢ name) → IsNewName (map rule_of rules) name
new_name rules name none = All-map (λ r. r.name ≢ name) rule_of rules none
