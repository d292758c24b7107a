use Rattle.std.proofs.Common.{◌∙◌, All, refl, subst, sym}
use Rattle.std.proofs.lemmas.Bool.{false≢true}
use Rattle.pc_solver.proofs.SpendingLemmas.{goes_none}
use Rattle.pc_ask.specs.inside.Parts.{IsAskable}
use Rattle.pc_ask.proofs.Witnesses.{left_all, one_told}
use Rattle.pc_ask.proofs.narrowing.refute_way.Goals as goal

pub returns-then-not-has_all-clause-goes_on : goal.returns-then-not-has_all-clause-goes_on
returns-then-not-has_all-clause-goes_on c = goes_none 1 c.args.solver.now c.args.tally.now c.args.log.now c.requires.asked.has

pub returns-then-not-has_all-clause-says : goal.returns-then-not-has_all-clause-says
returns-then-not-has_all-clause-says c w = false≢true (c.if-not-has_all.ensures.1 w.0)

pub returns-in_err-left-clause-goes_on : goal.returns-in_err-left-clause-goes_on
returns-in_err-left-clause-goes_on c = goes_none 1 c.args.solver.now c.args.tally.now c.args.log.now c.requires.asked.has

pub refute_set-requires-clause-set : goal.refute_set-requires-clause-set
refute_set-requires-clause-set c =
    subst (All (IsAskable c.args.choosing.task.book.now)) (sym (c.deref.ensures.value ∙ c.in_ok-left.ensures))
    (left_all (IsAskable c.args.choosing.task.book.now) c.args.choosing.entries.now c.args.kept.now c.args.count c.args.values.now c.requires.choosing.askable c.requires.kept)

pub returns-clause-says : goal.returns-clause-says
returns-clause-says c =
    one_told c.args.choosing c.args.count c.args.kept.now c.args.values.now _ c.refute_set.new.log (c.deref.ensures.value ∙ c.in_ok-left.ensures) (c.if-not-has_all.ensures.0 refl) c.refute_set.result c.refute_set.ensures.says
