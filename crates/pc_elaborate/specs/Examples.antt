-- Worked faults of small formulas, over a sort `c` of the values `r` and `g`, and a family `p` of one cell with such a value.
use Rattle.std.specs.Prelude.{ℕ, true, false, pos, List, [], ◌∷◌}
use Rattle.pc_name.specs.declared.sign.Op.TheVariants.{Eq, Lt}
use Rattle.pc_formula.specs.Tree as tree
use Rattle.pc_formula.specs.Tree.{for_all, counting, compare, named, integer, no_item}
use Rattle.pc_sheet.specs.Sheet.{Universe, listed}
use Rattle.pc_elaborate.specs.declared.fault.SortFault.TheVariants.{UnknownName, DuplicateName, WrongSort, Limit}
use Rattle.pc_sheet.specs.declared.limits.Limited.TheVariants.{Number, Count}
use Rattle.pc_elaborate.specs.FormulaFaults.{IsFormulaFault}

-- `c`, `g`, `p`, `r` and `z`
abbrev pub c : List ℕ
c = 99 ∷ []

abbrev pub g : List ℕ
g = 103 ∷ []

abbrev pub p : List ℕ
p = 112 ∷ []

abbrev pub r : List ℕ
r = 114 ∷ []

abbrev pub z : List ℕ
z = 122 ∷ []

abbrev pub colours : Universe
colours = record {
  sorts = record { name = c; values = listed (r ∷ g ∷ []) } ∷ [];
  tables = [];
  families = record { name = p; sorts = []; result_sort = record { 0 = 0 } } ∷ [];
}

-- a side of a bare name
abbrev pub bare : List ℕ → tree.Side
bare n = record { first = named n no_item; rest = [] }

abbrev pub whole : ℕ → tree.Side
whole n = record { first = integer (pos n); rest = [] }

pub record AreWorkedFaults : Type 0 where
  -- `z = c`: the unknown name comes before the name of a sort
  pub left_first : IsFormulaFault colours [] (compare (bare z) Eq (bare c)) UnknownName
  -- `c = z`: the name of a sort comes before the unknown name
  pub left_first_again : IsFormulaFault colours [] (compare (bare c) Eq (bare z)) WrongSort
  -- `forall p: c. z = z`: the variable hides a family
  pub hiding : IsFormulaFault colours [] (for_all p c (compare (bare z) Eq (bare z))) DuplicateName
  -- `forall z: z. z = z`: the sort is unknown
  pub unknown_sort : IsFormulaFault colours [] (for_all z z (compare (bare z) Eq (bare z))) UnknownName
  -- `atmost 256 z: z. z = z` and `atleast 0 z: z. z = z`: the number comes before the sort, which is unknown
  pub many : IsFormulaFault colours [] (counting true (pos 256) z z (compare (bare z) Eq (bare z))) (Limit Count)
  pub none : IsFormulaFault colours [] (counting false (pos 0) z z (compare (bare z) Eq (bare z))) (Limit Count)
  -- `atleast 256 z: z. z = z`: the number may stand
  pub most : IsFormulaFault colours [] (counting false (pos 256) z z (compare (bare z) Eq (bare z))) UnknownName
  -- `1000001 < 0`: the number is too large
  pub large : IsFormulaFault colours [] (compare (whole 1000001) Lt (whole 0)) (Limit Number)
