-- What the tokens of a line are.
use Rattle.std.specs.Prelude.{◌≡◌, ℕ, ◌+◌, ◌<◌, ◌≤◌, Bool, true, false, ◌||◌, ◌==◌, List, [], ◌∷◌, ◌++◌, length, drop, slice_index, slice_range, codes, encode_utf8}
use Rattle.std.specs.Char.{is_ascii_digit}
use Rattle.std.specs.Str.{IsCharBoundary}
use Rattle.pc_name.specs.Names.{starts_name, continues_name, HasNameCharacters}
use Rattle.pc_token.specs.declared.token.Kind.{Kind}
use Rattle.pc_token.specs.declared.token.Kind.TheVariants.{Name, Number, Equal, NotEqual, Less, LessEqual, Greater, GreaterEqual, Not, And, Or, Arrow, DoubleArrow, Open, Close, Comma, Colon, Dot, Range, Plus, Minus}
use Rattle.pc_token.specs.declared.token.Token.{Token}

-- a space or a tab
abbrev pub is_blank : ℕ → Bool
is_blank b = (b == 32) || (b == 9)

-- the bytes from one place up to another are blanks
abbrev pub AreBlank : List ℕ → ℕ → ℕ → Type 0
AreBlank line from to = (i : ℕ) → from ≤ i → i < to → is_blank (slice_index line i) ≡ true

-- no character at the front of the text goes on with a name
abbrev pub StopsName : List ℕ → Type 0
StopsName text = (c : ℕ) (more : List ℕ) → text ≡ encode_utf8 c ++ more → continues_name c ≡ false

-- no character at the place starts a name
abbrev pub StartsNoName : List ℕ → ℕ → Type 0
StartsNoName line at = (c : ℕ) (more : List ℕ) → drop at line ≡ encode_utf8 c ++ more → starts_name c ≡ false

-- the longest name that starts at the place
pub record IsNameAt (line : List ℕ) (start end : ℕ) : Type 0 where
  pub name : HasNameCharacters (slice_range line start end)
  pub longest : StopsName (drop end line)

-- the longest run of digits that starts at the place, which may be empty
pub record IsDigitRun (line : List ℕ) (start end : ℕ) : Type 0 where
  pub after : start ≤ end
  pub digits : (i : ℕ) → start ≤ i → i < end → is_ascii_digit (slice_index line i) ≡ true
  pub longest : is_ascii_digit (slice_index line end) ≡ false

-- how a sign is written; a name or a number is no sign
abbrev pub sign_text : Kind → List ℕ
sign_text Name = []
sign_text Number = []
sign_text Equal = codes "="
sign_text NotEqual = codes "!="
sign_text Less = codes "<"
sign_text LessEqual = codes "<="
sign_text Greater = codes ">"
sign_text GreaterEqual = codes ">="
sign_text Not = codes "!"
sign_text And = codes "&"
sign_text Or = codes "|"
sign_text Arrow = codes "->"
sign_text DoubleArrow = codes "<->"
sign_text Open = codes "("
sign_text Close = codes ")"
sign_text Comma = codes ","
sign_text Colon = codes ":"
sign_text Dot = codes "."
sign_text Range = codes ".."
sign_text Plus = codes "+"
sign_text Minus = codes "-"

-- the line has the text at the place
abbrev pub HasTextAt : List ℕ → ℕ → List ℕ → Type 0
HasTextAt line at [] = Unit {0}
HasTextAt line at (c ∷ text) = (slice_index line at ≡ c) × HasTextAt line (at + 1) text

-- the longest sign that stands at the place
pub record IsSignAt (line : List ℕ) (at : ℕ) (k : Kind) : Type 0 where
  pub sign : 0 < length (sign_text k)
  pub stands : HasTextAt line at (sign_text k)
  pub longest : (j : Kind) → HasTextAt line at (sign_text j) → length (sign_text j) ≤ length (sign_text k)

-- no sign stands at the place
abbrev pub StartsNoSign : List ℕ → ℕ → Type 0
StartsNoSign line at = (k : Kind) → 0 < length (sign_text k) → HasTextAt line at (sign_text k) → ⊥

-- the longest run of digits that starts at the place, of at most 18
abbrev pub IsNumberAt : List ℕ → ℕ → ℕ → Type 0
IsNumberAt line start end = IsDigitRun line start end × (end ≤ start + 18)

-- the bytes from start to end are a token of the kind, and no longer one starts there
abbrev pub IsOfKind : Kind → List ℕ → ℕ → ℕ → Type 0
IsOfKind Name line start end = IsNameAt line start end
IsOfKind Number line start end = IsNumberAt line start end
IsOfKind k line start end = IsSignAt line start k × (end ≡ start + length (sign_text k))

-- the token is a token of the line, with its text as its span
pub record IsTokenOf (line : List ℕ) (t : Token) : Type 0 where
  pub nonempty : t.start < t.end
  pub within : t.end ≤ length line
  pub start_boundary : IsCharBoundary line t.start
  pub end_boundary : IsCharBoundary line t.end
  pub kind : IsOfKind t.kind line t.start t.end

-- from one place up to another the line is these tokens, with blanks alone between them
abbrev pub ReadsTokens : List ℕ → ℕ → List Token → ℕ → Type 0
ReadsTokens line from [] to = (from ≤ to) × AreBlank line from to
ReadsTokens line from (t ∷ ts) to = (from ≤ t.start) × AreBlank line from t.start × IsTokenOf line t × ReadsTokens line t.end ts to

-- the line is these tokens, with blanks alone between them
abbrev pub Splits : List ℕ → List Token → Type 0
Splits line ts = ReadsTokens line 0 ts (length line)

-- more than 18 digits stand at the place
abbrev pub StartsLongNumber : List ℕ → ℕ → Type 0
StartsLongNumber line at = (end : ℕ) × IsDigitRun line at end × (at + 18 < end)

-- at the place there is a character, and no blank, number or token starts there
pub record StartsNoToken (line : List ℕ) (at : ℕ) : Type 0 where
  pub within : at < length line
  pub no_blank : is_blank (slice_index line at) ≡ false
  pub no_digit : is_ascii_digit (slice_index line at) ≡ false
  pub no_token : (t : Token) → t.start ≡ at → IsTokenOf line t → ⊥

-- the first fault of a line: the place follows tokens that are whole
abbrev pub HasBadCharacter : List ℕ → ℕ → Type 0
HasBadCharacter line at = (ts : List Token) × ReadsTokens line 0 ts at × StartsNoToken line at

-- the same, where the fault is a number of more than 18 digits
abbrev pub HasLongNumber : List ℕ → ℕ → Type 0
HasLongNumber line at = (ts : List Token) × ReadsTokens line 0 ts at × StartsLongNumber line at

-- what a line is: its tokens, or its first fault
pub data LineReading : Type 0 where
  split : List Token → LineReading
  bad_character : ℕ → LineReading
  long_number : ℕ → LineReading

-- the line is read so
abbrev pub IsReadingOf : List ℕ → LineReading → Type 0
IsReadingOf line (split ts) = Splits line ts
IsReadingOf line (bad_character at) = HasBadCharacter line at
IsReadingOf line (long_number at) = HasLongNumber line at
