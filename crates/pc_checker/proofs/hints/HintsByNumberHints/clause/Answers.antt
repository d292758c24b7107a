use Rattle.pc_checker.proofs.HintLemmas.{hinted_clause, length-places}
use Rattle.pc_checker.proofs.hints.HintsByNumberHints.clause.Goals as goal

pub returns : goal.returns
returns c = hinted_clause c.args.self.now.clauses.now c.args.self.now.numbers.now c.args.place 0 c.get.result.now c.args.self.now.within (rw length-places at c.requires) c.get.ensures
