use Rattle.std.proofs.Common.{◌≡◌, ◌+◌, map, string_bytes, drop}
use Rattle.pc_words.specs.inside.Parts.{option_place}
use Rattle.pc_words.proofs.parting.option_place.Given as goal

abbrev pub invariant-loop-i : goal.invariant-loop-i
invariant-loop-i l = option_place (map string_bytes l.words) ≡ l.i + option_place (map string_bytes (drop l.i l.words))
