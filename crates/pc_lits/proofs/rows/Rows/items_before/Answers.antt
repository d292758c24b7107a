use Rattle.std.proofs.Common.{arith}
use Rattle.pc_lits.proofs.RowsLemmas.{within_rows, ends_by_lengths}
use Rattle.pc_lits.proofs.rows.Rows.items_before.Goals as goal

pub end_of-requires : goal.end_of-requires
end_of-requires g c = rw c.deref.ensures.value (within_rows _ _ _ c.args.count c.self.view_is c.requires)

pub returns : goal.returns
returns g c =
    let within = within_rows _ _ _ c.args.count c.self.view_is c.requires in
    let end_is = rw c.deref.ensures.value at c.end_of.ensures in
    rw (← c.self.view_is) (omega (arith, end_is, ends_by_lengths c.self.inside.entries.items 0 c.self.inside.ends.items c.args.count c.self.invariant within))
