use Rattle.std.proofs.Common.{set, ap, ◌∙◌}
use Rattle.pc_support.proofs.WordLemmas.{below_view, room_view, flags_put, words_put}
use Rattle.pc_support.proofs.words.Words.put.Goals as goal

pub put_bit-requires : goal.put_bit-requires
put_bit-requires c = room_view c.self.inside.len c.self.inside.words.items c.args.self.now c.args.place c.self.invariant c.self.view_is c.requires

pub invariant_of-self : goal.invariant_of-self
invariant_of-self c =
    words_put c.self.inside.len c.self.inside.words.items c.put_bit.new.words.items c.args.place (below_view c.self.inside.len c.self.inside.words.items c.args.self.now c.args.place c.self.view_is c.requires) c.self.invariant c.put_bit.ensures.len c.put_bit.ensures.others

pub returns : goal.returns
returns c =
    flags_put c.self.inside.len c.self.inside.words.items c.put_bit.new.words.items c.args.place c.args.has (below_view c.self.inside.len c.self.inside.words.items c.args.self.now c.args.place c.self.view_is c.requires) c.put_bit.ensures.same c.put_bit.ensures.others
    ∙ ap (λ fs. set fs c.args.place c.args.has) c.self.view_is
