use Rattle.pc_kept.proofs.MarkedLemmas.{all_kept}
use Rattle.pc_kept.proofs.OneStep.{room_same}
use Rattle.pc_kept.proofs.keeping.kept_axioms.Goals as goal
use Rattle.std.proofs.Common.{sym}

pub try_marks-requires-clause-values : goal.try_marks-requires-clause-values
try_marks-requires-clause-values c = room_same _ _ c.args.stored.store.now (sym c.trials.invariant.values) c.requires.values

pub try_marks-requires-clause-named : goal.try_marks-requires-clause-named
try_marks-requires-clause-named c = room_same _ _ c.args.stored.store.now (sym c.trials.invariant.named) c.requires.named

pub returns-clause-kept : goal.returns-clause-kept
returns-clause-kept c = all_kept c.args.stored.pairs c.args.stored.store.now c.args.stored.names.now c.args.used.now c.in_ok-all.all.items c.in_ok-all.ensures
