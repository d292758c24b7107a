use Rattle.std.proofs.Common.{map}
use Rattle.pc_cert.specs.Order.{kind_of, sets_in}
use Rattle.pc_cert.specs.Trees.{pair_of}
use Rattle.pc_cert.proofs.Gathered.{use_adds, use_in_set, no_use, either_more, both_more, no_items}
use Rattle.pc_cert.proofs.draft.say_use.Goals as goal

pub returns-in_default : goal.returns-in_default
returns-in_default c = λ ls g at.
    let p = pair_of c.args.pair.now in
    either_more c.push_said.result _ _ _ _ (use_adds c.args.book.now p ls c.args.draft.now c.args.number c.pop.new.self c.push_said.new.said g at (no_items c.args.draft.now.sets c.in_default.ensures.cases.0) (no_items c.pop.new.self c.in_default.ensures.cases.1))
    (no_use c.args.book.now (sets_in (map kind_of ls)) p) c.push_said.ensures

pub returns : goal.returns
returns c = λ ls g at.
    let p = pair_of c.args.pair.now in
    both_more c.in_ok-named.named _ _ _ _
    (λ next. use_in_set c.args.book.now p ls c.args.draft.now c.args.number g at c.pop.new.self.items c.in-Some.set c.in-Some.ensures.items c.push_said-2.new.said c.push.new.self next c.in_ok-push.ensures.items)
    (no_use c.args.book.now (sets_in (map kind_of ls)) p) c.in_ok-named.ensures
