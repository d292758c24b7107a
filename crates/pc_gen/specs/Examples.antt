-- The lines of the entries of three blocks.
use Rattle.std.specs.Prelude.{◌≡◌, [], ◌∷◌, codes}
use Rattle.std.specs.List.{flat_map}
use Rattle.pc_gen.specs.Text.{block_lines, up_to}

abbrev pub GeneratedLinesAreWorked : Type 0
GeneratedLinesAreWorked =
    flat_map block_lines (up_to 3)
    ≡ codes "enter x(1, 1) = green"
    ∷ codes "enter x(1, 3) = green"
    ∷ codes "enter x(2, 1) = blue"
    ∷ codes "enter x(2, 3) = green"
    ∷ codes "enter x(3, 1) = red"
    ∷ codes "enter x(3, 3) = red"
    ∷ []
