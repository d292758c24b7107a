use Rattle.std.proofs.Common.{◌≡◌, map, take}
use Rattle.serde_json.specs.View.{view}
use Rattle.pc_display.specs.Json.{entry_data}
use Rattle.pc_display.proofs.objects.entries_json.Given as goal

abbrev pub invariant-loop-entry : goal.invariant-loop-entry
invariant-loop-entry l = map view l.list.items ≡ map (entry_data l.book.universe) (take l.entry-index l.entries)
