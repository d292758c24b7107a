use Rattle.std.proofs.Common.{List, sym, ◌∙◌, subst}
use Rattle.pc_sheet.specs.Entailment.{HasAll}
use Rattle.pc_sheet.specs.declared.ids.Entry.{Entry}
use Rattle.pc_repairs.proofs.Joined.{has_all_had}
use Rattle.pc_repairs.proofs.joining.worlds_of.Goals as goal

pub push-requires : goal.push-requires
push-requires c = subst (λ (s : List Entry). HasAll c.values-item.result s) (sym (c.deref.ensures.value ∙ c.in_ok-had.ensures)) (has_all_had c.args.entries.now c.values-item.result)
