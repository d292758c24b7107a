-- Literals that unit propagation makes true before any decision.
use Rattle.std.specs.Prelude.{◌≢◌, List, [], ◌∷◌, Contains}
use Rattle.pc_lits.specs.declared.literal.Lit.{Lit}
use Rattle.pc_lits.specs.Literals.{negated}

-- by clauses that are such
module _ (IsGiven : List Lit → Type 0) where
  -- the literal stands in a clause, each of whose other literals is the negation of one of these
  abbrev pub IsForcedNext : List Lit → Lit → Type 0
  IsForcedNext trues l = (clause : List Lit) × IsGiven clause × Contains clause l × ((m : Lit) → Contains clause m → m ≢ l → Contains trues (negated m))

  -- the newest first, each forced by those before it
  abbrev pub AreForced : List Lit → Type 0
  AreForced [] = Unit {0}
  AreForced (l ∷ trues) = IsForcedNext trues l × AreForced trues

  abbrev pub IsForced : Lit → Type 0
  IsForced l = (trues : List Lit) × AreForced trues × Contains trues l
