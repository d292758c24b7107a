-- What a scan of a clause says.
use Rattle.std.specs.Prelude.{◌≢◌, Bool, List, Option, Contains}
use Rattle.pc_lits.specs.declared.literal.Lit.{Lit}
use Rattle.pc_lits.specs.declared.scan.Left.{Left}
use Rattle.pc_lits.specs.declared.scan.Left.TheVariants.{Nothing, Last, More}
use Rattle.pc_lits.specs.Values.{MakesFalse}

-- the clause's literals other than this one are false
abbrev pub OthersAreFalse : List (Option Bool) → List Lit → Lit → Type 0
OthersAreFalse values clause l = (m : Lit) → Contains clause m → m ≢ l → MakesFalse values m

-- every literal is false; or all but this one are; or two different ones aren't
abbrev pub IsScanned : List (Option Bool) → List Lit → Left → Type 0
IsScanned values clause Nothing = (m : Lit) → Contains clause m → MakesFalse values m
IsScanned values clause (Last l) = Contains clause l × (¬ MakesFalse values l) × OthersAreFalse values clause l
IsScanned values clause More =
    (l : Lit) × (m : Lit) × (l ≢ m) × Contains clause l × Contains clause m × (¬ MakesFalse values l) × (¬ MakesFalse values m)
