-- How clauses stand to one another and to assumptions.
use Rattle.std.specs.Prelude.{◌≡◌, List, Contains}
use Rattle.pc_lits.specs.declared.literal.Lit.{Lit}
use Rattle.pc_lits.specs.Literals.{negated}

-- each literal of the one clause stands in the other
abbrev pub IsSubclause : List Lit → List Lit → Type 0
IsSubclause part whole = (m : Lit) → Contains part m → Contains whole m

-- each literal of the clause is the negation of one of these
abbrev pub IsOverNegated : List Lit → List Lit → Type 0
IsOverNegated assumed clause = (m : Lit) → Contains clause m → (a : Lit) × Contains assumed a × (m ≡ negated a)
