-- Statements that look up the same cells whatever values the variables have.
use Rattle.std.specs.Prelude.{List, [], ◌∷◌}
use Rattle.pc_name.specs.declared.sign.Sign.{Sign}
use Rattle.pc_sheet.specs.Sheet.{Item, variable, constant, number, cell, Items, no_items, item, Sum, Statement, compare, in_table, negation, all_of, some_of, implies, iff, for_all, exists, counts, Statements, no_statements, statement}

-- a value or a number
abbrev pub IsConstantItem : Item → Type 0
IsConstantItem (variable k) = ⊥
IsConstantItem (constant s v) = Unit {0}
IsConstantItem (number z) = Unit {0}
IsConstantItem (cell f xs) = ⊥

abbrev pub AreConstant : Items → Type 0
AreConstant no_items = Unit {0}
AreConstant (item x xs) = IsConstantItem x × AreConstant xs

-- without a cell, or a cell at values and numbers
abbrev pub IsFixed : Item → Type 0
IsFixed (variable k) = Unit {0}
IsFixed (constant s v) = Unit {0}
IsFixed (number z) = Unit {0}
IsFixed (cell f xs) = AreConstant xs

abbrev pub AreFixed : Items → Type 0
AreFixed no_items = Unit {0}
AreFixed (item x xs) = IsFixed x × AreFixed xs

-- of added items
abbrev pub AllFixed : List (Sign × Item) → Type 0
AllFixed [] = Unit {0}
AllFixed (x ∷ xs) = IsFixed x.1 × AllFixed xs

-- of a side
abbrev pub IsFixedSum : Sum → Type 0
IsFixedSum s = IsFixed s.first × AllFixed s.rest

-- of such items alone
abbrev mutual
  pub IsUniform : Statement → Type 0
  IsUniform (compare left op right) = IsFixedSum left × IsFixedSum right
  IsUniform (in_table t xs) = AreFixed xs
  IsUniform (negation s) = IsUniform s
  IsUniform (all_of ss) = AreUniform ss
  IsUniform (some_of ss) = AreUniform ss
  IsUniform (implies s t) = IsUniform s × IsUniform t
  IsUniform (iff s t) = IsUniform s × IsUniform t
  IsUniform (for_all name s body) = IsUniform body
  IsUniform (exists name s body) = IsUniform body
  IsUniform (counts c name s body) = IsUniform body

  pub AreUniform : Statements → Type 0
  AreUniform no_statements = Unit {0}
  AreUniform (statement s ss) = IsUniform s × AreUniform ss
