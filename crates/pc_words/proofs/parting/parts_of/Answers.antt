use Rattle.std.proofs.Common.{arith, length, map, string_bytes, ◌≤◌}
use Rattle.std.proofs.lemmas.List.{length-map}
use Rattle.pc_words.specs.inside.Parts.{option_place}
use Rattle.pc_words.proofs.Plain.{place_within}
use Rattle.pc_words.proofs.parting.parts_of.Goals as goal

pub split_at-requires : goal.split_at-requires
split_at-requires c =
    let within : option_place (map string_bytes c.args.words.now) ≤ length (map string_bytes c.args.words.now) = place_within (map string_bytes c.args.words.now) in
    omega (arith, within, length-map c.args.words.now string_bytes, c.option_place.ensures)
