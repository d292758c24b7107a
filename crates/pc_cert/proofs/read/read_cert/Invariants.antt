use Rattle.std.proofs.Common.{length}
use Rattle.pc_cert.specs.inside.Taken.{AreTaken}
use Rattle.pc_cert.proofs.read.read_cert.Given as goal

abbrev pub invariant-lines : goal.invariant-lines
invariant-lines l = AreTaken l.book l.bytes l.rest l.order l.draft l.number

abbrev pub decreases-lines : goal.decreases-lines
decreases-lines l = length l.rest
