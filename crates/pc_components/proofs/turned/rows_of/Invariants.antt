use Rattle.std.proofs.Common.{◌≡◌, ◌+◌, ◌++◌, drop, length, map}
use Rattle.pc_components.specs.Links.{linked_from}
use Rattle.pc_components.specs.inside.Within.{AreBelow}
use Rattle.pc_components.proofs.turned.rows_of.Given as goal

abbrev pub invariant-loop-first : goal.invariant-loop-first
invariant-loop-first l = record {
  rows : l.rows ++ map (linked_from l.links (length l.links)) (drop l.first-index l.firsts) ≡ map (linked_from l.links (length l.links)) l.firsts;
  below : AreBelow (length l.links + 1) (drop l.first-index l.firsts);
}
