-- A clause that is being written.
use Rattle.std.specs.Prelude.{◌≡◌, ℕ, Bool, List, [], ◌∷◌, ◌++◌}
use Rattle.pc_lits.specs.declared.literal.Lit.{Lit}
use Rattle.pc_cert.specs.Numbered.{StartsWith}
use Rattle.pc_accept.specs.Literals.{Symbol, Literal}

-- the symbols that are numbered, and the literals so far
pub record Draft : Type 0 where
  pub symbols : List Symbol
  pub clause : List Literal

-- the literal of that sign on the variable of that number
abbrev pub lit_of : Bool → ℕ → Lit
lit_of sign n = record { variable = record { 0 = n }; sign = sign }

-- one literal more
pub record IsLiteralWritten (old new : Draft) (l : Literal) : Type 0 where
  pub grows : StartsWith old.symbols new.symbols
  pub clause : new.clause ≡ old.clause ++ l ∷ []

-- these literals more
pub record AreWritten (old new : Draft) (ls : List Literal) : Type 0 where
  pub grows : StartsWith old.symbols new.symbols
  pub clause : new.clause ≡ old.clause ++ ls
