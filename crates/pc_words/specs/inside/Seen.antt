-- The parts of words as the program holds them, seen as plain ones.
use Rattle.std.specs.Prelude.{option_map}
use Rattle.pc_words.specs.declared.parting.Parts.{Parts as FoundParts}
use Rattle.pc_words.specs.inside.Parts.{Parts}

abbrev pub seen : FoundParts → Parts
seen p = record { mode = p.mode.now; word = option_map (λ w. w.now) p.word; budget = option_map (λ w. w.now) p.budget }
