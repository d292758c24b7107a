use Rattle.std.proofs.Common.{◌≢◌, take, map}
use Rattle.std.specs.List.{AllByRecursion}
use Rattle.pc_cert.specs.Trees.{named_by}
use Rattle.pc_cert.proofs.lookup.named_rule.Given as goal

abbrev pub invariant-loop-place : goal.invariant-loop-place
invariant-loop-place l = AllByRecursion (λ n. n ≢ l.name) (take l.place (map named_by l.rule-items))
