-- Literals that no learned clause is to have: the banned ones. Of a variable at most one is banned; where there are no values, none is.
use Rattle.std.specs.Prelude.{◌≡◌, ℕ, ◌==◌, Bool, List, [], ◌∷◌, ◌++◌, Option, None, Some, cond, Contains, slice_index_or}
use Rattle.std.specs.List.{list_any}
use Rattle.pc_lits.specs.declared.literal.Var.{Var}
use Rattle.pc_lits.specs.declared.literal.Lit.{Lit}
use Rattle.pc_lits.specs.Literals.{negated}
use Rattle.pc_lits.specs.Values.{MakesTrue}
use Rattle.pc_log.specs.Lines.{LogLine}
use Rattle.pc_solver.specs.New.{IsLearnedAt}

-- the sign of the variable's banned literal, if it has one
abbrev pub banned_sign : List (Option Bool) → Var → Option Bool
banned_sign banned v = slice_index_or banned v.0 None

-- no literal of the clause is banned
abbrev pub HasNoBanned : List (Option Bool) → List Lit → Type 0
HasNoBanned banned clause = (l : Lit) → Contains clause l → ¬ MakesTrue banned l

-- that is so of each learned clause of the log
abbrev pub AvoidBanned : List (Option Bool) → List LogLine → Type 0
AvoidBanned banned log = (i : ℕ) (clause : List Lit) → IsLearnedAt log i clause → HasNoBanned banned clause

-- no literal's negation is banned
abbrev pub AreAskable : List (Option Bool) → List Lit → Type 0
AreAskable banned lits = (l : Lit) → Contains lits l → ¬ MakesTrue banned (negated l)

-- of the clause's literals at most one has a banned negation
abbrev pub IsLone : List (Option Bool) → List Lit → Type 0
IsLone banned clause = (l m : Lit) → Contains clause l → Contains clause m → MakesTrue banned (negated l) → MakesTrue banned (negated m) → l ≡ m

-- that is so of each of the axioms with these numbers
abbrev pub AreLone : List (Option Bool) → List (List Lit) → List ℕ → Type 0
AreLone banned axioms used = (n : ℕ) → Contains used n → IsLone banned (slice_index_or axioms n [])

-- ---- what is true where some variables have no value

-- one of the literals is of this variable
abbrev pub is_valued : List Lit → Var → Bool
is_valued trues v = list_any (λ l. l.variable.0 == v.0) trues

-- the variable's literal of this sign, if there is one
abbrev pub signed : Var → Option Bool → List Lit
signed v None = []
signed v (Some sign) = record { variable = v; sign = sign } ∷ []

-- the banned literals of those of the variables of which none of these literals is
abbrev pub unset_banned : List (Option Bool) → List Lit → List Var → List Lit
unset_banned banned trues [] = []
unset_banned banned trues (v ∷ own) = cond (is_valued trues v) [] (signed v (banned_sign banned v)) ++ unset_banned banned trues own

-- these literals, and of each other own variable its banned one
abbrev pub trues_of : List Var → List (Option Bool) → List Lit → List Lit
trues_of own banned trues = trues ++ unset_banned banned trues own
