-- What stands before each text of a list.
use Rattle.std.specs.Prelude.{ℕ, zero, suc, List, []}

-- the separator, but nothing before the first text
abbrev pub separator_at : List ℕ → ℕ → List ℕ
separator_at separator zero = []
separator_at separator (suc k) = separator
