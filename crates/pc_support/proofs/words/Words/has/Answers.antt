use Rattle.pc_support.proofs.WordLemmas.{has_view}
use Rattle.pc_support.proofs.words.Words.has.Goals as goal

pub returns : goal.returns
returns c = has_view c.self.inside.len c.self.inside.words.items c.deref.result.now c.args.self.now c.args.place c.has_bit.result c.self.invariant c.self.view_is c.deref.ensures.value c.has_bit.ensures
