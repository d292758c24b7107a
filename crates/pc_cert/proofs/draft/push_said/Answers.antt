use Rattle.pc_cert.specs.Trees.{pair_of}
use Rattle.pc_cert.proofs.Gathered.{never}
use Rattle.pc_cert.proofs.draft.push_said.Goals as goal

pub returns-in_default : goal.returns-in_default
returns-in_default c = never c.args.book.now (pair_of c.args.pair.now) c.in_default.ensures
