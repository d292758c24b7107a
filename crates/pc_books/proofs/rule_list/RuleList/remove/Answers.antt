use Rattle.std.proofs.Common.{◌∙◌, ap, map}
use Rattle.std.specs.List.{remove}
use Rattle.pc_sheet.specs.Views.{rule_of}
use Rattle.pc_books.proofs.EditLemmas.{map-remove}
use Rattle.pc_books.proofs.rule_list.RuleList.remove.Goals as goal

pub returns : goal.returns
returns c = ap (map rule_of) c.remove.ensures.items ∙ map-remove rule_of c.self.inside.list.items c.args.place ∙ ap (λ rules. remove rules c.args.place) c.self.view_is
