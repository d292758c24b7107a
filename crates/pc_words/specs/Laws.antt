-- The law that words leave no choice.
use Rattle.std.specs.Prelude.{◌≡◌, ℕ, List}
use Rattle.pc_words.specs.Words.{Request, FitsWords}

-- words fit one request at most
abbrev pub WordsFitOneRequest : Type 0
WordsFitOneRequest = (words : List (List ℕ)) (x y : Request) → FitsWords words x → FitsWords words y → x ≡ y
