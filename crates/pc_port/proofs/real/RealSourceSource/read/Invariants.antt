use Rattle.std.proofs.Common.{◌≡◌}
use Rattle.std.specs.Io.KnownBytes.{Keeps}
use Rattle.pc_port.proofs.real.RealSourceSource.read.Given as goal

abbrev pub invariant-loop : goal.invariant-loop
invariant-loop g l = record { told : Keeps (g.R.Read.remaining l.initial.self.reader) (g.R.Read.remaining l.self.reader); count : l.self.faults ≡ l.initial.self.faults }
