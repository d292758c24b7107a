use Rattle.std.proofs.Common.{◌≡◌, ◌≤◌, length, map, take}
use Rattle.std.specs.List.{filter, range_with_len}
use Rattle.pc_parts.specs.Components.{is_labeled}
use Rattle.pc_components.specs.inside.Numbers.{own_firsts}
use Rattle.pc_components.specs.inside.Owners.{place_in}
use Rattle.pc_components.proofs.numbers.number_cells.Given as goal

abbrev pub invariant-loop-c : goal.invariant-loop-c
invariant-loop-c l = record {
  numbers : l.numbers.items ≡ map (place_in (own_firsts l.labels)) (take l.c l.labels);
  count : l.count ≡ length (filter (λ c. is_labeled l.labels c c) (range_with_len 0 l.c));
  small : l.count ≤ l.c;
}
