use Rattle.std.proofs.Common.{◌≡◌, Contains, ◌-◌, length}
use Rattle.std.specs.Io.KnownBytes.{Consumes}
use Rattle.pc_lines.specs.Lines.{IsOpenLine}
use Rattle.pc_lines.specs.Reader.{coming}
use Rattle.pc_lines.proofs.reader.LineReader.next.Given as goal

abbrev pub invariant-loop-self : goal.invariant-loop-self
invariant-loop-self g l = record {
  open_line : IsOpenLine l.limit l.self.line;
  takes : Consumes (coming l.fn.self (g.S.Source.left l.fn.source)) (coming l.self (g.S.Source.left l.source)) l.self.line;
  longest : l.self.longest ≡ l.fn.self.longest;
  waits : Contains l.fn.self.held 10 → (l.self.held ≡ l.fn.self.held) × (l.source ≡ l.fn.source);
  kept : g.S.Source.faults l.source ≡ g.S.Source.faults l.fn.source;
}

abbrev pub decreases-loop-self : goal.decreases-loop-self
decreases-loop-self g l = l.limit - length l.self.line
