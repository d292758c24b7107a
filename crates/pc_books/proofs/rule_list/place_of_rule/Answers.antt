use Rattle.std.proofs.Common.{arith}
use Rattle.pc_books.proofs.RuleLemmas.{new_name}
use Rattle.pc_books.proofs.rule_list.place_of_rule.Goals as goal

pub returns-clause-none : goal.returns-clause-none
returns-clause-none c = new_name c.args.rules.now c.args.name.now (λ k d below. c.loop-place.invariant k d (omega (arith, below, c.loop-place-test.false)))
