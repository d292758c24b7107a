use Rattle.std.proofs.Common.{length, arith, ap}
use Rattle.std.proofs.lemmas.List.{length-map}
use Rattle.pc_sheet.specs.Views.{rule_of}
use Rattle.pc_spreadsheet.proofs.pages.last_rule.Goals as goal

pub overflow_sub-result : goal.overflow_sub-result
overflow_sub-result c = omega (arith, c.requires, length-map c.rules-count.result.now rule_of, ap length c.rules-count.ensures)

pub overflow_cast-result : goal.overflow_cast-result
overflow_cast-result c = omega (arith, c.well_formed-2.ensures.rules.limit, length-map c.rules-count.result.now rule_of, ap length c.rules-count.ensures)

pub returns : goal.returns
returns c = omega (arith, length-map c.rules-count.result.now rule_of, ap length c.rules-count.ensures)
