use Rattle.std.proofs.Common.{map, ◌∙◌, ap}
use Rattle.std.proofs.lemmas.List.{take_all}
use Rattle.pc_display.specs.Json.{one_or_all, value_data}
use Rattle.pc_display.proofs.objects.entered_json.Goals as goal

pub returns : goal.returns
returns c =
    let value = value_data c.args.book.now.universe c.args.sort in
    c.one_or_all.ensures ∙ ap one_or_all (c.loop-entry.invariant ∙ ap (map value) (take_all c.loop-entry.entry-index c.args.entries.now c.loop-entry-test.false))
