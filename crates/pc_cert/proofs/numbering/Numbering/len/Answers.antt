use Rattle.pc_cert.proofs.KeyLemmas.{all_differ}
use Rattle.pc_cert.proofs.numbering.Numbering.len.Goals as goal

pub returns-clause-distinct : goal.returns-clause-distinct
returns-clause-distinct c = all_differ c.self.inside.fronts c.self.inside.links c.args.self.now c.recall_different.ensures c.len.ensures.different c.self.invariant c.self.view_is
