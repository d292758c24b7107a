-- Literals that are added once each.
use Rattle.std.specs.Prelude.{◌≡◌, ◌↔◌, ◌⊎◌, Bool, List, Option, Contains}
use Rattle.pc_lits.specs.declared.literal.Lit.{Lit}
use Rattle.pc_checker.specs.inside.Parts.{AreMarked}

-- those of the clause that are of that sign have come to the others
abbrev pub AreAdded : Bool → List Lit → List Lit → List Lit → Type 0
AreAdded sign clause old new = (m : Lit) → Contains new m ↔ (Contains old m ⊎ ((m.sign ≡ sign) × Contains clause m))

-- and they are marked
pub record AreGathered (sign : Bool) (before clause : List Lit) (marks : List (Option Bool)) (once : List Lit) : Type 0 where
  pub marked : AreMarked sign clause marks
  pub added : AreAdded sign clause before once
