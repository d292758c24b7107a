use Rattle.std.proofs.Common.{take, Ok}
use Rattle.std.specs.List.{flat_map}
use Rattle.pc_port.specs.declared.source.Failed.{Failed}
use Rattle.pc_writer.specs.Writes.{Writes}
use Rattle.pc_repairs.specs.Listed.{part_lines}
use Rattle.pc_repairs.specs.Listings.{part_listed}
use Rattle.pc_repairs.proofs.listing.Listing.write.Given as goal

abbrev pub invariant-loop-part : goal.invariant-loop-part
invariant-loop-part g l =
    Writes {T = Unit {0}} {E = Failed} g.O.Sink.given g.O.Sink.faults l.initial.out l.out (Ok tt) (flat_map (λ p. part_lines l.book.universe (part_listed p)) (take l.part-index l.self.parts.items))
