use Rattle.std.proofs.Common.{◌∙◌, subst, sym, Contains, List, ℕ}
use Rattle.pc_log.proofs.ReachLemmas.{reach_new}
use Rattle.pc_log.proofs.trimming.reach.Goals as goal

pub returns-in_ok-push : goal.returns-in_ok-push
returns-in_ok-push c =
    rw (c.in_ok-push.ensures.items, c.in_ok-slots.ensures ∙ c.len.ensures ∙ c.args.reached.now.ok.0)
    (reach_new c.args.reached.now.items c.args.slots.now c.args.place c.requires.slotted c.requires.within (λ has.
    let found = c.is_reached.ensures.1 (subst (λ (xs : List ℕ). Contains xs c.args.place) (sym c.deref.ensures.value) has) in
    absurd (cc)))
