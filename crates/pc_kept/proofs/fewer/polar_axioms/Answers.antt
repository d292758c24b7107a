use Rattle.std.proofs.Common.{◌<◌, [], All, length, sym, subst}
use Rattle.pc_kept.proofs.MarkedLemmas.{kept_within}
use Rattle.pc_kept.proofs.fewer.polar_axioms.Goals as goal

pub guess_stays-requires-clause-within : goal.guess_stays-requires-clause-within
guess_stays-requires-clause-within c =
    subst (All (λ k. k < length c.args.stored.store.now)) (sym c.deref.ensures.value)
    (kept_within c.args.stored.pairs (length c.args.stored.store.now) c.args.stored.store.now c.args.stored.names.now [] c.args.used.now c.in_ok-kept.kept.items c.in_ok-kept.ensures.kept c.requires.within)

pub ban_left-requires-clause-within : goal.ban_left-requires-clause-within
ban_left-requires-clause-within c =
    subst (All (λ k. k < length c.args.stored.store.now)) (sym c.deref-2.ensures.value)
    (kept_within c.args.stored.pairs (length c.args.stored.store.now) c.args.stored.store.now c.args.stored.names.now [] c.args.used.now c.in_ok-kept.kept.items c.in_ok-kept.ensures.kept c.requires.within)
