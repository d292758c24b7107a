use Rattle.std.proofs.Common.{◌≡◌, [], map, replicate}
use Rattle.pc_propagate.specs.inside.Stored.{watches_of}
use Rattle.pc_propagate.proofs.watch_lists.WatchLists.new.Given as goal

abbrev pub invariant-lists : goal.invariant-lists
invariant-lists l = map watches_of l.lists.items ≡ replicate l.counter []
