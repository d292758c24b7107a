use Rattle.std.proofs.lemmas.List.Sorted.{IsNonDecreasingBy-from_sort}
use Rattle.pc_log.proofs.ReachLemmas.{in_order}
use Rattle.pc_log.proofs.PickedLemmas.{rested_by}
use Rattle.pc_log.proofs.trimming.Trimmer.places.Goals as goal

pub returns : goal.returns
returns c =
    rested_by c.args.log.now c.args.last.0 c.sort_unstable.new.self.items c.deref.result.now c.from_slice.result c.deref.ensures.value
    (in_order c.args.log.now c.args.last.0 c.search.new.reached.items c.search.new.slots c.sort_unstable.new.self.items c.in_ok-search.ensures c.sort_unstable.ensures.permutation
    (IsNonDecreasingBy-from_sort (λ n. n) c.sort_unstable.new.self.items c.sort_unstable.ensures.sorted))
    c.from_slice.ensures.items
