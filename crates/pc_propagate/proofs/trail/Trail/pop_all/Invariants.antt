use Rattle.std.proofs.Common.{◌≡◌, length, vec_len, vec_capacity}
use Rattle.pc_propagate.specs.inside.IsTrail.{IsTrail}
use Rattle.pc_propagate.specs.inside.Slots.{AreSlots}
use Rattle.pc_propagate.proofs.trail.Trail.pop_all.Given as goal

abbrev pub invariant-loop-entry : goal.invariant-loop-entry
invariant-loop-entry l = record {
  trail : IsTrail l.self-inside.values l.self-inside.entries.items l.self-inside.level (vec_capacity l.self-inside.entries);
  slots : AreSlots l.self-inside.slots.items l.self-inside.entries.items (length l.self-inside.values);
  size : length l.self-inside.values ≡ length l.initial.self-inside.values;
  attached : l.self-inside.attached.items ≡ l.initial.self-inside.attached.items;
  watched : l.self-inside.watched ≡ l.initial.self-inside.watched;
  waiting : l.self-inside.waiting ≡ l.initial.self-inside.waiting;
  head : l.self-inside.head ≡ l.initial.self-inside.head;
}

abbrev pub decreases-loop-entry : goal.decreases-loop-entry
decreases-loop-entry l = vec_len l.self-inside.entries
