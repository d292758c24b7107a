use Rattle.std.proofs.Common.{true, false}
use Rattle.std.proofs.lemmas.Bool.{iff_false, false≢true}
use Rattle.pc_checker.proofs.MarkLemmas.{among_both, among_of}
use Rattle.pc_checker.proofs.derivation.are_among.Goals as goal

pub returns-then-not-are_among_of-clause-among : goal.returns-then-not-are_among_of-clause-among
returns-then-not-are_among_of-clause-among c = (
  λ none. absurd (false≢true none),
  λ all. absurd (iff_false c.are_among_of.ensures.among c.if-not-are_among_of.true (among_of true c.args.allowed.now c.args.clause.now all)),
)

pub returns-clause-among : goal.returns-clause-among
returns-clause-among c = (
  λ is. among_both c.args.allowed.now c.args.clause.now (c.are_among_of.ensures.among.0 c.if-not-are_among_of.false) (c.are_among_of-2.ensures.among.0 is),
  λ all. c.are_among_of-2.ensures.among.1 (among_of false c.args.allowed.now c.args.clause.now all),
)
