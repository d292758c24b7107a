use Rattle.std.proofs.Common.{take, Ok}
use Rattle.std.specs.List.{flat_map}
use Rattle.pc_port.specs.declared.source.Failed.{Failed}
use Rattle.pc_writer.specs.Writes.{Writes}
use Rattle.pc_repairs.specs.Listed.{keep_line}
use Rattle.pc_repairs.specs.Listings.{aged_set}
use Rattle.pc_repairs.proofs.listing.write_sets.Given as goal

abbrev pub invariant-loop-aged : goal.invariant-loop-aged
invariant-loop-aged g l =
    Writes {T = Unit {0}} {E = Failed} g.O.Sink.given g.O.Sink.faults l.initial.out l.out (Ok tt) (flat_map (λ a. keep_line l.book.universe (aged_set a)) (take l.aged-index l.sets))
