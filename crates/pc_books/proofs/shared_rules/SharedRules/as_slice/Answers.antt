use Rattle.std.proofs.Common.{◌∙◌, ap, sym, take}
use Rattle.std.proofs.lemmas.List.{take-map}
use Rattle.pc_sheet.specs.Views.{rule_of}
use Rattle.pc_books.proofs.shared_rules.SharedRules.as_slice.Goals as goal

pub returns : goal.returns
returns c =
    let n = c.self.inside.count in
    sym (take-map rule_of n c.as_slice.result.now) ∙ ap (take n) (c.as_slice.ensures ∙ c.deref.ensures) ∙ c.self.view_is
