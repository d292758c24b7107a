use Rattle.std.proofs.Common.{◌+◌, arith}
use Rattle.pc_components.proofs.TraversalRight.{begun, started, rested}
use Rattle.pc_components.proofs.labels.traverse.Goals as goal

pub starts-init : goal.starts-init
starts-init c =
    let b = begun c.args.rows.now c.args.count c.len.result c.len.ensures c.in_ok-search.search c.in_ok-search.ensures in
    record { search = b.0; all = b.1 }

pub starts-preserved : goal.starts-preserved
starts-preserved c = record {
  search = rested c.args.rows.now c.args.count (c.starts.first + 1) c.starts.first 0 _ c.in_ok-go_on.ensures.all c.in_ok-go_on.ensures.search;
  all = c.in_ok-go_on.ensures.all;
}

pub go_on-requires-clause-search : goal.go_on-requires-clause-search
go_on-requires-clause-search c = started c.args.rows.now c.args.count c.starts.first 0 (omega arith) c.starts.search c.reach.new.self c.starts.invariant.all c.in_ok-reach.ensures c.starts.invariant.search
