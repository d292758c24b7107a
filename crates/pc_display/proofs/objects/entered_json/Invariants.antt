use Rattle.std.proofs.Common.{◌≡◌, map, take}
use Rattle.serde_json.specs.View.{view}
use Rattle.pc_display.specs.Json.{value_data}
use Rattle.pc_display.proofs.objects.entered_json.Given as goal

abbrev pub invariant-loop-entry : goal.invariant-loop-entry
invariant-loop-entry l = map view l.list.items ≡ map (value_data l.book.universe l.sort) (take l.entry-index l.entries)
