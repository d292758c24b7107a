-- The limits that the rules of a sheet keep.
use Rattle.std.specs.Prelude.{ℕ, ◌≤◌, List, [], ◌∷◌}
use Rattle.pc_formula.specs.Word.{most_nesting}
use Rattle.pc_formula.specs.Nesting.{nesting_of}
use Rattle.pc_syntax.specs.Tree.{Declared, rule, asks_rule, asks_ask}
use Rattle.pc_syntax.specs.Command.{CommandReading, asks, most_asked_nesting}
pub use Rattle.pc_formula.specs.Sized.{count_parts, too_many, IsSizedSide, IsSized, AreSized}

-- the formula of each rule is so
abbrev pub HasSizedRules : List (ℕ × Declared) → Type 0
HasSizedRules [] = Unit {0}
HasSizedRules ((n, rule k f) ∷ ds) = IsSized f × HasSizedRules ds
HasSizedRules ((n, d) ∷ ds) = HasSizedRules ds

-- the shortest text of the formula of each rule doesn't go too deep
abbrev pub HasNestedRules : List (ℕ × Declared) → Type 0
HasNestedRules [] = Unit {0}
HasNestedRules ((n, rule k f) ∷ ds) = (nesting_of f ≤ most_nesting) × HasNestedRules ds
HasNestedRules ((n, d) ∷ ds) = HasNestedRules ds

-- the same of a command line that is read, where it asks for a rule, or asks a formula, which goes less deep
abbrev pub IsSizedReading : CommandReading → Type 0
IsSizedReading (asks (asks_rule n f)) = IsSized f
IsSizedReading (asks (asks_ask f)) = IsSized f
IsSizedReading r = Unit {0}

abbrev pub IsNestedReading : CommandReading → Type 0
IsNestedReading (asks (asks_rule n f)) = nesting_of f ≤ most_nesting
IsNestedReading (asks (asks_ask f)) = nesting_of f ≤ most_asked_nesting
IsNestedReading r = Unit {0}
