-- The text of the generated sheet, line by line.
use Rattle.std.specs.Prelude.{ℕ, zero, suc, ◌*◌, ◌%◌, List, [], ◌∷◌, ◌++◌, codes}
use Rattle.std.specs.Fmt.{decimal}
use Rattle.std.specs.List.{flat_map}

-- the numbers from 1 to n
abbrev pub up_to : ℕ → List ℕ
up_to zero = []
up_to (suc n) = up_to n ++ suc n ∷ []

-- the color of number 0, 1 or 2
abbrev pub color_name : ℕ → List ℕ
color_name zero = codes "red"
color_name (suc zero) = codes "green"
color_name (suc (suc n)) = codes "blue"

-- sorts, the cells, and the rules: the first three cells of a block are equal, and its last one isn't as the third
abbrev pub head_lines : ℕ → List (List ℕ)
head_lines n =
    codes "sheet 1"
    ∷ (codes "sort block = 1 .. " ++ decimal n)
    ∷ codes "sort slot = 1 .. 4"
    ∷ codes "sort color = red green blue"
    ∷ codes "cell x(block, slot) : color"
    ∷ codes "rule chain : forall b:block . x(b, 1) = x(b, 2) & x(b, 2) = x(b, 3)"
    ∷ codes "rule other : forall b:block . x(b, 3) != x(b, 4)"
    ∷ []

-- the value of a block's cell in that slot
abbrev pub enter_line : ℕ → List ℕ → ℕ → List ℕ
enter_line block slot color = codes "enter x(" ++ (decimal block ++ (codes ", " ++ (slot ++ (codes ") = " ++ color_name color))))

-- the first cell has the color of the block's number modulo 3, the third that of its square
abbrev pub block_lines : ℕ → List (List ℕ)
block_lines block = enter_line block (codes "1") (block % 3) ∷ enter_line block (codes "3") (block * block % 3) ∷ []

abbrev pub generated_lines : ℕ → List (List ℕ)
generated_lines n = head_lines n ++ (flat_map block_lines (up_to n) ++ codes "begin" ∷ [])

-- a line with its end
abbrev pub ended : List ℕ → List ℕ
ended line = line ++ 10 ∷ []

-- the text for n blocks
abbrev pub generated_text : ℕ → List ℕ
generated_text n = flat_map ended (generated_lines n)
