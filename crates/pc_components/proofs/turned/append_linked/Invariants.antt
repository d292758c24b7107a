use Rattle.std.proofs.Common.{◌≡◌, ◌≤◌, ◌++◌, length}
use Rattle.pc_components.specs.Links.{linked_from}
use Rattle.pc_components.proofs.turned.append_linked.Given as goal

abbrev pub invariant-loop-next : goal.invariant-loop-next
invariant-loop-next l = record {
  within : l.next ≤ length l.links;
  places : l.places.items ++ linked_from l.links (length l.links) l.next ≡ l.fn.places.items ++ linked_from l.links (length l.links) l.first;
}

abbrev pub decreases-loop-next : goal.decreases-loop-next
decreases-loop-next l = l.next
