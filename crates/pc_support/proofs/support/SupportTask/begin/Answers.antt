use Rattle.std.proofs.Common.{List, Bool, sym, subst, length}
use Rattle.pc_support.specs.declared.asking.Inquiry.{Inquiry}
use Rattle.pc_support.specs.declared.sets.Live.{Live}
use Rattle.pc_support.specs.inside.Begun.{IsBegun}
use Rattle.pc_support.specs.inside.Sets.{AreLive}
use Rattle.pc_support.proofs.support.SupportTask.begin.Goals as goal

pub returns-clause-begun : goal.returns-clause-begun
returns-clause-begun c =
    subst (λ (i : Inquiry). IsBegun c.args.self.ground.now.sizes c.args.self.entries.now c.args.self.worlds.now c.args.target c.inquiry_of.new.seen i) (sym c.in_ok-narrowing.ensures.inquiry) c.in_ok-inquiry.ensures.begun

pub returns-clause-live : goal.returns-clause-live
returns-clause-live c =
    let live = c.in_ok-sets.field-0 in
    let make : List (List Bool) → Live = λ ss. record { sets = ss; numbers = live.numbers } in
    subst (λ (ss : List (List Bool)). AreLive c.args.self.entries.now c.args.self.worlds.now c.args.target (length c.args.self.worlds.now) (make ss)) (sym c.in_ok-narrowing.ensures.sets) (c.in_ok-sets.ensures c.args.self.ground.now.sizes c.args.self.entries.now c.requires.placed)

pub live_sets-requires : goal.live_sets-requires
live_sets-requires c = c.requires.placed.sets.many
