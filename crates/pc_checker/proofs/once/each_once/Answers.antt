use Rattle.std.proofs.Common.{List, true, subst}
use Rattle.pc_lits.specs.declared.literal.Lit.{Lit}
use Rattle.pc_checker.specs.inside.Once.{AreAdded}
use Rattle.pc_checker.proofs.OnceLemmas.{both_signs}
use Rattle.pc_checker.proofs.once.each_once.Goals as goal

pub returns-clause-same : goal.returns-clause-same
returns-clause-same c =
    let positives = subst (λ (before : List Lit). AreAdded true c.args.clause.now before c.add_those_of.new.once.items) c.new-once.ensures.items c.in_ok-add_those_of.ensures.added in
    both_signs c.args.clause.now c.add_those_of.new.once.items c.add_those_of-2.new.once.items positives c.in_ok-add_those_of-2.ensures.added
