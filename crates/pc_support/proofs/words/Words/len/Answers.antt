use Rattle.std.proofs.Common.{sym, ap, ◌∙◌, length, Bool, List}
use Rattle.pc_support.proofs.WordLemmas.{flags_size}
use Rattle.pc_support.proofs.words.Words.len.Goals as goal

pub returns : goal.returns
returns c = sym (flags_size c.self.inside.len c.self.inside.words.items) ∙ ap (λ (fs : List Bool). length fs) c.self.view_is
