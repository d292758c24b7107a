-- Truth values of variables, where they have one: the value of variable n stands at place n.
use Rattle.std.specs.Prelude.{◌≡◌, ◌<◌, Bool, not, List, Option, Some, None, slice_index_or, length, Contains, ◌↔◌}
use Rattle.pc_lits.specs.declared.literal.Lit.{Lit}

-- the value of the literal's variable
abbrev pub value_of : List (Option Bool) → Lit → Option Bool
value_of values l = slice_index_or values l.variable.0 None

-- the variable has the value that makes the literal true
abbrev pub MakesTrue : List (Option Bool) → Lit → Type 0
MakesTrue values l = value_of values l ≡ Some l.sign

-- the variable has the value that makes the literal false
abbrev pub MakesFalse : List (Option Bool) → Lit → Type 0
MakesFalse values l = value_of values l ≡ Some (not l.sign)

-- there is room for the variable's value
abbrev pub IsInRange : List (Option Bool) → Lit → Type 0
IsInRange values l = l.variable.0 < length values

-- of the literals in range exactly those of the list are false
abbrev pub Agrees : List (Option Bool) → List Lit → Type 0
Agrees values falses = (l : Lit) → IsInRange values l → (MakesFalse values l ↔ Contains falses l)
