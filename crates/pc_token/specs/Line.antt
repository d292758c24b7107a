-- Lines that are told apart before their tokens are made.
use Rattle.std.specs.Prelude.{◌≡◌, ℕ, ◌≤◌, false, List, [], ◌∷◌, length, slice_index, slice_range}
use Rattle.pc_token.specs.declared.token.Kind.TheVariants.{Name}
use Rattle.pc_token.specs.declared.token.Token.{Token}
use Rattle.pc_token.specs.Token.{is_blank, AreBlank, Splits}

-- the longest run of blanks that starts at the place, which may be empty
pub record IsBlankRun (line : List ℕ) (start end : ℕ) : Type 0 where
  pub after : start ≤ end
  pub blanks : AreBlank line start end
  pub longest : is_blank (slice_index line end) ≡ false

-- a blank line has no other characters than blanks
abbrev pub IsBlankLine : List ℕ → Type 0
IsBlankLine line = AreBlank line 0 (length line)

-- a comment's first character that isn't a blank is a semicolon
abbrev pub IsComment : List ℕ → Type 0
IsComment line = (at : ℕ) × AreBlank line 0 at × (slice_index line at ≡ 59)

-- the line's one token is the name
abbrev pub IsOneName : List ℕ → List ℕ → Type 0
IsOneName line name = (t : Token) × Splits line (t ∷ []) × (t.kind ≡ Name) × (slice_range line t.start t.end ≡ name)
