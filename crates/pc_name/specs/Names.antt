-- What the text of a name is.
use Rattle.std.specs.Prelude.{◌≡◌, ℕ, ◌≤◌, Bool, true, false, ◌||◌, ◌==◌, List, ◌++◌, length, codes, encode_utf8, bytes_eq}
use Rattle.std.specs.Str.{encode_utf8_all}
use Rattle.std.specs.List.{AllByRecursion}
use Rattle.unicode_ident.specs.Ident.{is_xid_start, is_xid_continue}

-- a name starts with an underscore or a character that Unicode lets start an identifier
abbrev pub starts_name : ℕ → Bool
starts_name c = (c == 95) || is_xid_start c

-- it goes on with characters that Unicode lets continue an identifier
abbrev pub continues_name : ℕ → Bool
continues_name c = is_xid_continue c

-- the bytes are characters that continue a name
abbrev pub AllContinue : List ℕ → Type 0
AllContinue text = (cs : List ℕ) × (text ≡ encode_utf8_all cs) × AllByRecursion (λ d. continues_name d ≡ true) cs

-- the bytes are one character that starts a name and then characters that continue it
abbrev pub HasNameCharacters : List ℕ → Type 0
HasNameCharacters text = (c : ℕ) × (cs : List ℕ) × (text ≡ encode_utf8 c ++ encode_utf8_all cs) × (starts_name c ≡ true) × AllByRecursion (λ d. continues_name d ≡ true) cs

-- the words that are no name, though they are made of a name's characters
abbrev pub is_reserved : List ℕ → Bool
is_reserved text = bytes_eq text (codes "forall") || bytes_eq text (codes "exists") || bytes_eq text (codes "atmost") || bytes_eq text (codes "atleast")

-- the most bytes that a name has
abbrev pub most_name_bytes : ℕ
most_name_bytes = 4194304

-- the bytes are a name's text
pub record IsName (text : List ℕ) : Type 0 where
  pub characters : HasNameCharacters text
  pub not_reserved : is_reserved text ≡ false
  pub within : length text ≤ most_name_bytes
