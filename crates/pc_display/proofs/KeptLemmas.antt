-- What is kept of a text that was written.
use Rattle.std.proofs.Common.{◌≡◌, ℕ, List, [], ◌++◌, Some, sym, ◌∙◌, ap, subst}
use Rattle.std.specs.Io.KnownBytes.{Appends}
use Rattle.std.specs.Str.{IsUtf8}

module _ (before after text : List ℕ) (none : before ≡ []) (wrote : Appends (Some before) (Some after) text) where
  pub kept_is : after ≡ text
  kept_is = wrote ∙ ap (λ xs. xs ++ text) none

  pub kept_utf8 : IsUtf8 text → IsUtf8 after
  kept_utf8 utf8 = subst IsUtf8 (sym kept_is) utf8
