-- The words of a line, as the grammar sees them.
use Rattle.std.specs.Prelude.{◌≡◌, ℕ, ◌≤◌, Bool, true, false, List, ◌∷◌, length, map, slice_range, count_by, if◌then◌else◌}
use Rattle.std.specs.List.{AllByRecursion}
use Rattle.pc_name.specs.Names.{is_reserved, most_name_bytes}
use Rattle.pc_token.specs.declared.token.Kind.{Kind}
use Rattle.pc_token.specs.declared.token.Kind.TheVariants.{Name, Number, Not, Arrow, Open}
use Rattle.pc_token.specs.declared.token.Token.{Token}
use Rattle.pc_token.specs.Token.{Splits}

-- a word: a name or a number with its text, a reserved word, or a sign
pub data Word : Type 0 where
  name : List ℕ → Word
  reserved : List ℕ → Word
  number : List ℕ → Word
  sign : Kind → Word

-- the word of a name's token
abbrev pub name_word : List ℕ → Word
name_word text = if is_reserved text then reserved text else name text

-- the word of a token that is of this kind and has this text
abbrev pub word : Kind → List ℕ → Word
word Name text = name_word text
word Number text = number text
word k text = sign k

-- the word of a token of the line
abbrev pub word_of : List ℕ → Token → Word
word_of line t = word t.kind (slice_range line t.start t.end)

-- the words of the tokens of a line
abbrev pub words_of : List ℕ → List Token → List Word
words_of line ts = map (word_of line) ts

-- the line splits into tokens, and these are its words
pub record HasWords (line : List ℕ) (ws : List Word) : Type 0 where
  pub tokens : List Token
  pub splits : Splits line tokens
  pub words : ws ≡ words_of line tokens

-- the word is no name, or one that is no longer than a name may be
abbrev pub IsShort : Word → Type 0
IsShort (name text) = length text ≤ most_name_bytes
IsShort w = Unit {0}

-- each name among the words is no longer than a name may be
abbrev pub HasShortNames : List Word → Type 0
HasShortNames ws = AllByRecursion IsShort ws

-- at these words a formula goes a level down; each reserved word starts a quantifier
abbrev pub nests : Word → Bool
nests (sign Open) = true
nests (sign Not) = true
nests (sign Arrow) = true
nests (reserved text) = true
nests w = false

-- at how many of the words a formula goes a level down
abbrev pub nesting : List Word → ℕ
nesting ws = count_by nests ws

-- the most words of a line at which a formula goes a level down
abbrev pub most_nesting : ℕ
most_nesting = 128

-- a kind that isn't a name or a number
abbrev pub IsSign : Kind → Type 0
IsSign Name = ⊥
IsSign Number = ⊥
IsSign k = Unit {0}

-- the sign isn't the first word
abbrev pub NotFirst : Kind → List Word → Type 0
NotFirst k ws = (more : List Word) → ws ≡ sign k ∷ more → ⊥

-- the first word is no name
abbrev pub NoName : List Word → Type 0
NoName ws = (text : List ℕ) (more : List Word) → ws ≡ name text ∷ more → ⊥

-- the first word is no reserved one
abbrev pub NotReserved : List Word → Type 0
NotReserved ws = (text : List ℕ) (more : List Word) → ws ≡ reserved text ∷ more → ⊥

-- the first word is no number
abbrev pub NoNumber : List Word → Type 0
NoNumber ws = (digits : List ℕ) (more : List Word) → ws ≡ number digits ∷ more → ⊥

-- the sign is taken, or it isn't the first word and nothing is
abbrev pub TakesSign : Kind → List Word → Bool → List Word → Type 0
TakesSign k old true new = old ≡ sign k ∷ new
TakesSign k old false new = (new ≡ old) × NotFirst k old

-- the first word is no name, and nothing is taken
abbrev pub HasNoName : List Word → List Word → Type 0
HasNoName old new = (new ≡ old) × NoName old

-- the first word is no reserved one, and nothing is taken
abbrev pub HasNotReserved : List Word → List Word → Type 0
HasNotReserved old new = (new ≡ old) × NotReserved old

-- the first word is no number, and nothing is taken
abbrev pub HasNoNumber : List Word → List Word → Type 0
HasNoNumber old new = (new ≡ old) × NoNumber old
