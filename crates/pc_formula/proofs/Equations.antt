-- Words are one equation at most, with one sign.
use Rattle.std.proofs.Common.{◌≡◌, Bool, true, false, List, [], ◌∷◌, refl, arith, subst}
use Rattle.pc_formula.specs.Word.{Word, sign}
use Rattle.pc_formula.specs.Tree.{Cell, Value}
use Rattle.pc_formula.specs.Front.{StopsLevel}
use Rattle.pc_formula.specs.Value.{DerivesValue}
use Rattle.pc_formula.specs.Equation.{equality, IsEquation}
use Rattle.pc_formula.proofs.ValueForms.{value_once, cell_once}

-- the sign behind a cell ends it
ends_cell : (g : Bool) (ws : List Word) → StopsLevel 1 (sign (equality g) ∷ ws)
ends_cell true ws = omega arith
ends_cell false ws = omega arith

same_sign : (g h : Bool) (r s : List Word) → sign (equality g) ∷ r ≡ sign (equality h) ∷ s → g ≡ h
same_sign true true r s is = refl
same_sign true false r s is = cc
same_sign false true r s is = cc
same_sign false false r s is = refl

pub equation_once : (ws : List Word) (c d : Cell) (v w : Value) (g h : Bool) → IsEquation ws (equality g) c v → IsEquation ws (equality h) d w → (c ≡ d) × (v ≡ w) × (g ≡ h)
equation_once ws c d v w g h a b =
    let cells = cell_once ws c d _ _ a.cell b.cell (ends_cell g a.rest) (ends_cell h b.rest) in
    let behind = cells.1 in
    let rest : a.rest ≡ b.rest = cc in
    let values = value_once b.rest v w [] [] (subst (λ l. DerivesValue l v []) rest a.value) b.value in
    (cells.0, values.0, same_sign g h a.rest b.rest behind)
