use Rattle.std.proofs.Common.{arith}
use Rattle.pc_support.proofs.WordLemmas.{covers_by}
use Rattle.pc_support.proofs.words.covers.Goals as goal

pub returns : goal.returns
returns c = covers_by c.args.part c.args.word c.args.first (omega arith) (omega arith)
