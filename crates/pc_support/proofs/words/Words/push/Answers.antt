use Rattle.std.proofs.Common.{[], ◌∷◌, ◌++◌, ap, ◌∙◌}
use Rattle.pc_support.proofs.WordLemmas.{flags_push}
use Rattle.pc_support.proofs.words.Words.push.Goals as goal

pub returns : goal.returns
returns c =
    flags_push c.self.inside.len c.self.inside.words.items c.make_room.new.words.items c.put_bit.new.words.items c.args.has c.self.invariant c.in_ok-make_room.ensures.same c.put_bit.ensures.same c.put_bit.ensures.others
    ∙ ap (λ fs. fs ++ c.args.has ∷ []) c.self.view_is
