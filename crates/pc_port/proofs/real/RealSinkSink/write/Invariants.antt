use Rattle.std.proofs.Common.{◌≡◌, take, length, ◌≤◌}
use Rattle.std.specs.Io.KnownBytes.{Appends}
use Rattle.pc_port.proofs.real.RealSinkSink.write.Given as goal

abbrev pub invariant-loop : goal.invariant-loop
invariant-loop g l = record {
  told : Appends (g.W.Write.contents l.initial.self.writer) (g.W.Write.contents l.self.writer) (take l.at l.piece);
  count : l.self.faults ≡ l.initial.self.faults;
  within : l.at ≤ length l.piece;
}
