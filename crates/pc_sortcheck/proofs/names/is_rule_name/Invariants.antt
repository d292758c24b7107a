use Rattle.std.proofs.Common.{Contains, take, map}
use Rattle.pc_sheet.specs.Views.{rule_of}
use Rattle.pc_sheet.specs.WellFormed.{rule_name}
use Rattle.pc_sortcheck.proofs.names.is_rule_name.Given as goal

abbrev pub invariant-loop-rule : goal.invariant-loop-rule
invariant-loop-rule l = ¬ Contains (map rule_name (map rule_of (take l.rule-index l.rules))) l.name
