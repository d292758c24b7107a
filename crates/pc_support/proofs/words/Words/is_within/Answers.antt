use Rattle.pc_support.proofs.WordLemmas.{within_view}
use Rattle.pc_support.proofs.words.Words.is_within.Goals as goal

pub returns : goal.returns
returns c =
    within_view c.self.inside.len c.other.inside.len c.self.inside.words.items c.other.inside.words.items c.deref.result.now c.deref-2.result.now c.args.self.now c.args.other.now c.args.from c.are_within.result c.self.invariant c.other.invariant
    c.self.view_is c.other.view_is c.deref.ensures.value c.deref-2.ensures.value c.are_within.ensures
