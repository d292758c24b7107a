use Rattle.std.proofs.Common.{◌≤◌, arith}
use Rattle.std.proofs.lemmas.List.Sorted.{IsNonDecreasingBy-from_sort}
use Rattle.pc_log.proofs.ReachLemmas.{in_order}
use Rattle.pc_log.proofs.SortedLemmas.{sorted_is_some, sorted_is_trimmed, sorted_alone}
use Rattle.pc_log.proofs.trimming.Trimmer.trim.Goals as goal

pub append_places-requires-clause-rested : goal.append_places-requires-clause-rested
append_places-requires-clause-rested c = (
  c.args.last.0,
  c.requires,
  rw c.deref.ensures.value
      (in_order c.args.log.now c.args.last.0 c.search.new.reached.items c.search.new.slots c.sort_unstable.new.self.items c.in_ok-search.ensures c.sort_unstable.ensures.permutation
      (IsNonDecreasingBy-from_sort (λ n. n) c.sort_unstable.new.self.items c.sort_unstable.ensures.sorted)),
)

pub overflow_sub-result : goal.overflow_sub-result
overflow_sub-result c =
    let rising = IsNonDecreasingBy-from_sort (λ n. n) c.sort_unstable.new.self.items c.sort_unstable.ensures.sorted in
    let added = rw c.deref.ensures.value at c.in_default.ensures.ok in
    omega (arith, c.count.ensures, sorted_is_some _ _ _ _ _ _ _ c.requires c.in_ok-search.ensures c.sort_unstable.ensures.permutation rising added)

pub returns-clause-last : goal.returns-clause-last
returns-clause-last c =
    let rising = IsNonDecreasingBy-from_sort (λ n. n) c.sort_unstable.new.self.items c.sort_unstable.ensures.sorted in
    let added = rw c.deref.ensures.value at c.in_default.ensures.ok in
    omega (arith, c.count.ensures, sorted_is_some _ _ _ _ _ _ _ c.requires c.in_ok-search.ensures c.sort_unstable.ensures.permutation rising added)

pub returns-clause-ok : goal.returns-clause-ok
returns-clause-ok c =
    let rising = IsNonDecreasingBy-from_sort (λ n. n) c.sort_unstable.new.self.items c.sort_unstable.ensures.sorted in
    let added = rw c.deref.ensures.value at c.in_default.ensures.ok in
    sorted_is_trimmed _ _ _ _ _ _ _ c.requires c.in_ok-search.ensures c.sort_unstable.ensures.permutation rising added

pub returns-clause-span : goal.returns-clause-span
returns-clause-span c =
    let rising = IsNonDecreasingBy-from_sort (λ n. n) c.sort_unstable.new.self.items c.sort_unstable.ensures.sorted in
    let added = rw c.deref.ensures.value at c.in_default.ensures.ok in
    let some : 1 ≤ c.count.result = omega (arith, c.count.ensures, sorted_is_some _ _ _ _ _ _ _ c.requires c.in_ok-search.ensures c.sort_unstable.ensures.permutation rising added) in
    (sorted_alone _ _ _ _ _ _ _ c.requires c.in_ok-search.ensures c.sort_unstable.ensures.permutation rising added _ c.count-before.ensures (omega (arith, some, c.count.ensures))).0

pub returns-clause-lines : goal.returns-clause-lines
returns-clause-lines c =
    let rising = IsNonDecreasingBy-from_sort (λ n. n) c.sort_unstable.new.self.items c.sort_unstable.ensures.sorted in
    let added = rw c.deref.ensures.value at c.in_default.ensures.ok in
    let some : 1 ≤ c.count.result = omega (arith, c.count.ensures, sorted_is_some _ _ _ _ _ _ _ c.requires c.in_ok-search.ensures c.sort_unstable.ensures.permutation rising added) in
    (sorted_alone _ _ _ _ _ _ _ c.requires c.in_ok-search.ensures c.sort_unstable.ensures.permutation rising added _ c.count-before.ensures (omega (arith, some, c.count.ensures))).1
