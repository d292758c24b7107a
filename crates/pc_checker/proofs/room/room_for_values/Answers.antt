use Rattle.std.proofs.Common.{map, ap, ◌∙◌, subst}
use Rattle.pc_checker.specs.Made.{AreFirstApart, set_values, value_said}
use Rattle.pc_checker.proofs.RoomLemmas.{values_mapped}
use Rattle.pc_checker.proofs.room.room_for_values.Goals as goal

pub returns : goal.returns
returns c = record {
  entered = c.in_ok-entered.ensures;
  values = c.in_ok-assignment.ensures ∙ ap (map value_said) c.deref.ensures.value ∙ values_mapped c.args.cert.now.values.items;
  sets = c.in_ok-sets.ensures ∙ ap (map set_values) c.deref-2.ensures.value;
  room = c.in_ok-pairs.ensures;
  first_apart = subst (λ sets. AreFirstApart sets c.in_ok-apart.apart) c.deref-3.ensures.value c.in_ok-apart.ensures;
}
