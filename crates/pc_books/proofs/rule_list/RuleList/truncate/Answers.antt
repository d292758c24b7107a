use Rattle.std.proofs.Common.{◌∙◌, ap, map, sym, take}
use Rattle.std.proofs.lemmas.List.{take-map}
use Rattle.pc_sheet.specs.Views.{rule_of}
use Rattle.pc_books.proofs.rule_list.RuleList.truncate.Goals as goal

pub returns : goal.returns
returns c = ap (map rule_of) c.truncate.ensures.items ∙ sym (take-map rule_of c.args.count c.self.inside.list.items) ∙ ap (take c.args.count) c.self.view_is
