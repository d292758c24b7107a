use Rattle.std.proofs.Common.{All, length, arith}
use Rattle.pc_lits.specs.Values.{IsInRange}
use Rattle.pc_checker.proofs.HintLemmas.{hints_are, up_to_more}
use Rattle.pc_checker.proofs.DerivationLemmas.{step_is}
use Rattle.pc_checker.proofs.derivation.is_step.Goals as goal

pub is_good_step-requires-clause-hints : goal.is_good_step-requires-clause-hints
is_good_step-requires-clause-hints c =
    hints_are (All (IsInRange c.args.values.now)) c.args.clauses.now c.args.hints.now
    (up_to_more c.args.place (length c.args.clauses.now) c.args.hints.now (omega arith) (c.are_earlier.ensures.numbers.0 c.if-are_earlier.true)) c.requires.clauses

pub returns-then-are_earlier-clause-good : goal.returns-then-are_earlier-clause-good
returns-then-are_earlier-clause-good c =
    step_is c.args.clauses.now c.args.place c.args.hints.now c.get.result.now c.is_good_step.result c.get.ensures (c.are_earlier.ensures.numbers.0 c.if-are_earlier.true) c.is_good_step.ensures.good
