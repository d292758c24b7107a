use Rattle.std.proofs.Common.{List, ℕ, Bool, ap, rules}
use Rattle.std.proofs.lemmas.Result.{on_ok_weaker}
use Rattle.std.proofs.lemmas.List.Sorted.{answers_always, ranks_by, sorted_far}
use Rattle.std.specs.Cmp.Lexicographic.{nat_list_cmp_total, slice_cmp}
use Rattle.std.specs.Ordering.{is_lt, nat_cmp}
use Rattle.pc_repairs.specs.declared.ordering.Aged.{Aged}
use Rattle.pc_repairs.proofs.ordering.sort_by_age.Goals as goal

pub returns-clause-sorted : goal.returns-clause-sorted
returns-clause-sorted c =
    let ages : Aged → List ℕ = λ a. a.ages.items in
    let lt : Aged → Aged → Bool = λ x y. is_lt (slice_cmp nat_cmp (ages x) (ages y)) in
    on_ok_weaker c.sort_by.result (λ sorted. sorted_far lt (ranks_by nat_list_cmp_total ages) c.sort_by.new.self.items (sorted lt (ranks_by nat_list_cmp_total ages) (answers_always _ _ _ (λ f a r g h. search rules)))) c.sort_by.ensures.sorted
