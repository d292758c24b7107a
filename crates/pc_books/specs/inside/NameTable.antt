-- A table of names, by the bytes of their texts.
use Rattle.std.specs.Prelude.{ℕ, List, String, map}
use Rattle.std.specs.String.{string_bytes}
use Rattle.pc_books.specs.declared.names.Named.{Named}

-- entries by the bytes of their keys
abbrev pub named_texts : {Z : Type 0} → List (String Z × Named) → List (List ℕ × Named)
named_texts es = map (λ e. (string_bytes e.0, e.1)) es
