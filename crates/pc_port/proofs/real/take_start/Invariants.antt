use Rattle.std.proofs.Common.{◌≡◌, ◌-◌, ◌≤◌, length}
use Rattle.std.specs.Io.KnownBytes.{Consumes}
use Rattle.pc_port.specs.declared.shelf.TheConstants.{READ_LIMIT}
use Rattle.pc_port.proofs.real.take_start.Given as goal

abbrev pub invariant-loop-chunk : goal.invariant-loop-chunk
invariant-loop-chunk g l = record {
  told : Consumes (g.S.Source.left l.fn.source) (g.S.Source.left l.source) l.into.items;
  short : length l.into.items ≤ READ_LIMIT;
  kept : g.S.Source.faults l.source ≡ g.S.Source.faults l.fn.source;
}

abbrev pub decreases-loop-chunk : goal.decreases-loop-chunk
decreases-loop-chunk g l = READ_LIMIT - length l.into.items
