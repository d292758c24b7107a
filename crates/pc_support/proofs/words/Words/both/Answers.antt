use Rattle.std.proofs.Common.{◌∙◌, ap, length}
use Rattle.pc_support.proofs.WordLemmas.{both_view, both_read}
use Rattle.pc_support.proofs.words.Words.both.Goals as goal

pub returns : goal.returns
returns c =
    both_view c.self.inside.len c.other.inside.len c.in_ok-words.words.items c.self.inside.words.items c.other.inside.words.items c.args.self.now c.args.other.now c.self.invariant c.other.invariant c.self.view_is c.other.view_is
    (c.in_ok-words.ensures.len ∙ ap length c.deref.ensures.value)
    (both_read c.in_ok-words.words.items c.self.inside.words.items c.other.inside.words.items c.deref.result.now c.deref-2.result.now c.deref.ensures.value c.deref-2.ensures.value c.in_ok-words.ensures.both)
