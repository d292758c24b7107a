-- The word of a token.
use Rattle.std.proofs.Common.{◌≡◌, ℕ, ◌+◌, ◌-◌, ◌<◌, ◌≤◌, Bool, true, false, ◌||◌, List, [], ◌∷◌, length, get_or, drop, arith, refl, sym, ◌∙◌, ap, subst, if◌then◌else◌}
use Rattle.std.proofs.lemmas.Bool.Decides.{nat_tests}
use Rattle.std.proofs.lemmas.List.{get_or-take, get_or-drop, length-take, length-take-le, length-drop}
use Rattle.std.proofs.lemmas.Slice.Eq.{bytes_eq-Decides}
use Rattle.std.specs.Prelude.{slice_range, codes, bytes_eq}
use Rattle.std.specs.Char.{is_ascii_digit, digit_value}
use Rattle.std.specs.Str.Parse.{AllDigits, IsNumeral}
use Rattle.pc_name.specs.Names.{is_reserved, most_name_bytes, HasNameCharacters, IsName}
use Rattle.pc_token.specs.declared.token.Kind.{Kind}
use Rattle.pc_token.specs.declared.token.Kind.TheVariants.{Name, Number}
use Rattle.pc_token.specs.declared.token.Token.{Token}
use Rattle.pc_token.specs.Token.{IsNameAt, IsNumberAt, IsOfKind, IsTokenOf}
use Rattle.pc_formula.specs.Word.{Word, name, reserved, number, sign, name_word, word, word_of, words_of, HasWords, IsShort, HasShortNames, nests, IsSign}
use Rattle.pc_name.specs.declared.sign.Op.{Op}
use Rattle.pc_name.specs.declared.sign.Op.TheVariants as ops
use Rattle.pc_name.specs.declared.sign.Sign.{Sign}
use Rattle.pc_name.specs.declared.sign.Sign.TheVariants as signs
use Rattle.pc_formula.specs.Sign.{op_sign, added_sign}

-- ---- signs

name_no_sign : (a : Bool) (text : List ℕ) (j : Kind) → (if a then reserved text else name text) ≡ sign j → ⊥
name_no_sign true text j e = cc
name_no_sign false text j e = cc

kind_of_sign : (k j : Kind) (text : List ℕ) → word k text ≡ sign j → k ≡ j
kind_of_sign Name j text e = absurd (name_no_sign (is_reserved text) text j e)
kind_of_sign Number j text e = cc
kind_of_sign k j text e = cc

sign_of_kind : (k : Kind) (text : List ℕ) → IsSign k → word k text ≡ sign k
sign_of_kind Name text is = absurd is
sign_of_kind Number text is = absurd is
sign_of_kind k text is = refl

pub is_the_sign : (line : List ℕ) (t : Token) (k : Kind) → IsSign k → t.kind ≡ k → word_of line t ≡ sign k
is_the_sign line t k is same = ap (λ j. word j (slice_range line t.start t.end)) same ∙ sign_of_kind k (slice_range line t.start t.end) is

pub has_the_kind : (line : List ℕ) (t : Token) (k : Kind) → word_of line t ≡ sign k → t.kind ≡ k
has_the_kind line t k is = kind_of_sign t.kind k (slice_range line t.start t.end) is

-- the signs of comparisons and sums

op_is_sign : (op : Op) → IsSign (op_sign op)
op_is_sign ops.Eq = tt
op_is_sign ops.Ne = tt
op_is_sign ops.Lt = tt
op_is_sign ops.Le = tt
op_is_sign ops.Gt = tt
op_is_sign ops.Ge = tt

added_is_sign : (s : Sign) → IsSign (added_sign s)
added_is_sign signs.Plus = tt
added_is_sign signs.Minus = tt

pub is_the_op : (line : List ℕ) (t : Token) (op : Op) → t.kind ≡ op_sign op → word_of line t ≡ sign (op_sign op)
is_the_op line t op same = is_the_sign line t (op_sign op) (op_is_sign op) same

pub is_the_added : (line : List ℕ) (t : Token) (s : Sign) → t.kind ≡ added_sign s → word_of line t ≡ sign (added_sign s)
is_the_added line t s same = is_the_sign line t (added_sign s) (added_is_sign s) same

-- ---- names

-- the name that a word is
record IsNameWord (k : Kind) (text other : List ℕ) : Type 0 where
  kind : k ≡ Name
  free : is_reserved text ≡ false
  same : text ≡ other

name_choice : (a : Bool) (text other : List ℕ) → (if a then reserved text else name text) ≡ name other → (a ≡ false) × (text ≡ other)
name_choice true text other e = cc
name_choice false text other e = (refl, (cc))

from_name_word : (k : Kind) (text other : List ℕ) → word k text ≡ name other → IsNameWord k text other
from_name_word Name text other e =
    let is = name_choice (is_reserved text) text other e in
    record { kind = refl; free = is.0; same = is.1 }
from_name_word Number text other e = cc
from_name_word k text other e = cc

pub other_kind : (line : List ℕ) (t : Token) → (t.kind ≡ Name → ⊥) → (text : List ℕ) → word_of line t ≡ name text → ⊥
other_kind line t other text is = other (from_name_word t.kind (slice_range line t.start t.end) text is).kind

pub reserved_name : (line : List ℕ) (t : Token) → is_reserved (slice_range line t.start t.end) ≡ true → (text : List ℕ) → word_of line t ≡ name text → ⊥
reserved_name line t reserves text is =
    let free = (from_name_word t.kind (slice_range line t.start t.end) text is).free in
    cc

pub name_token : (line : List ℕ) (t : Token) (text : List ℕ) → word_of line t ≡ name text → (t.kind ≡ Name) × (slice_range line t.start t.end ≡ text)
name_token line t text is =
    let named = from_name_word t.kind (slice_range line t.start t.end) text is in
    (named.kind, named.same)

chosen : (a b : Bool) (text : List ℕ) → a ≡ b → (if a then reserved text else name text) ≡ (if b then reserved text else name text)
chosen a b text same = ap (λ c. if c then reserved text else name text) same

-- the word of a name's token, and that its text is a name
pub name_is : (line : List ℕ) (t : Token) (text : List ℕ) → text ≡ slice_range line t.start t.end → t.kind ≡ Name → is_reserved text ≡ false → word_of line t ≡ name text
name_is line t text slice kind free = ap (λ k. word k (slice_range line t.start t.end)) kind ∙ ap name_word (sym slice) ∙ chosen (is_reserved text) false text free

pub text_is_name : (line : List ℕ) (t : Token) (text : List ℕ) → IsTokenOf line t → IsShort (word_of line t) → text ≡ slice_range line t.start t.end → t.kind ≡ Name → is_reserved text ≡ false → IsName text
text_is_name line t text is short slice kind free =
    let named : IsNameAt line t.start t.end = subst (λ k. IsOfKind k line t.start t.end) kind is.kind in
    record {
      characters = subst HasNameCharacters (sym slice) named.name;
      not_reserved = free;
      within = subst IsShort (name_is line t text slice kind free) short;
    }

-- ---- names that are short

-- the text of a reserved word is short
reserved_short : (text : List ℕ) → is_reserved text ≡ true → length text ≤ most_name_bytes
reserved_short text is = go (bytes_eq text (codes "forall")) (bytes_eq text (codes "exists")) (bytes_eq text (codes "atmost")) (bytes_eq text (codes "atleast")) (bytes_eq-Decides text (codes "forall")).0 (bytes_eq-Decides text (codes "exists")).0 (bytes_eq-Decides text (codes "atmost")).0 (bytes_eq-Decides text (codes "atleast")).0 is
  where
    by : (w : List ℕ) → text ≡ w → length w ≤ most_name_bytes → length text ≤ most_name_bytes
    by w same few = omega (arith, ap length same, few)

    go : (a b c d : Bool) → (a ≡ true → text ≡ codes "forall") → (b ≡ true → text ≡ codes "exists") → (c ≡ true → text ≡ codes "atmost") → (d ≡ true → text ≡ codes "atleast") → a || b || c || d ≡ true → length text ≤ most_name_bytes
    go true b c d p q r s e = by (codes "forall") (p refl) (omega arith)
    go false true c d p q r s e = by (codes "exists") (q refl) (omega arith)
    go false false true d p q r s e = by (codes "atmost") (r refl) (omega arith)
    go false false false true p q r s e = by (codes "atleast") (s refl) (omega arith)
    go false false false false p q r s e = absurd (cc)

short_choice : (a : Bool) (text : List ℕ) → length text ≤ most_name_bytes → IsShort (if a then reserved text else name text)
short_choice true text few = tt
short_choice false text few = few

few_choice : (a : Bool) (text : List ℕ) → (a ≡ true → length text ≤ most_name_bytes) → IsShort (if a then reserved text else name text) → length text ≤ most_name_bytes
few_choice true text few short = few refl
few_choice false text few short = short

other_short : (k : Kind) (text : List ℕ) → (k ≡ Name → ⊥) → IsShort (word k text)
other_short Name text other = absurd (other refl)
other_short Number text other = tt
other_short k text other = tt

pub is_short_sign : (line : List ℕ) (t : Token) → (t.kind ≡ Name → ⊥) → IsShort (word_of line t)
is_short_sign line t other = other_short t.kind (slice_range line t.start t.end) other

-- the word of a name's token is short where its text is
pub short_text : (line : List ℕ) (t : Token) (text : List ℕ) → text ≡ slice_range line t.start t.end → t.kind ≡ Name → length text ≤ most_name_bytes → IsShort (word_of line t)
short_text line t text slice kind few =
    subst IsShort (sym (ap (λ k. word k (slice_range line t.start t.end)) kind))
    (short_choice (is_reserved (slice_range line t.start t.end)) (slice_range line t.start t.end) (subst (λ s. length s ≤ most_name_bytes) slice few))

pub text_short : (line : List ℕ) (t : Token) (text : List ℕ) → text ≡ slice_range line t.start t.end → t.kind ≡ Name → IsShort (word_of line t) → length text ≤ most_name_bytes
text_short line t text slice kind short =
    subst (λ s. length s ≤ most_name_bytes) (sym slice)
    (few_choice (is_reserved (slice_range line t.start t.end)) (slice_range line t.start t.end) (reserved_short (slice_range line t.start t.end))
    (subst IsShort (ap (λ k. word k (slice_range line t.start t.end)) kind) short))

-- no text of a line is longer than the line

range_within : (line : List ℕ) (start end : ℕ) → length (slice_range line start end) ≤ length line
range_within line start end = omega (arith, length-take (end - start) (drop start line), length-drop start line)

short_word : (k : Kind) (text : List ℕ) → length text ≤ most_name_bytes → IsShort (word k text)
short_word Name text few = short_choice (is_reserved text) text few
short_word Number text few = tt
short_word k text few = tt

pub short_tokens : (line : List ℕ) (ts : List Token) → length line ≤ most_name_bytes → HasShortNames (words_of line ts)
short_tokens line [] few = tt
short_tokens line (t ∷ ts) few =
    (short_word t.kind (slice_range line t.start t.end) (omega (arith, range_within line t.start t.end, few)), short_tokens line ts few)

pub short_line : (line : List ℕ) (ws : List Word) → HasWords line ws → length line ≤ most_name_bytes → HasShortNames ws
short_line line ws has few = subst HasShortNames (sym has.words) (short_tokens line has.tokens few)

-- ---- reserved words

reserved_choice : (a : Bool) (text other : List ℕ) → (if a then reserved text else name text) ≡ reserved other → text ≡ other
reserved_choice true text other e = cc
reserved_choice false text other e = cc

from_reserved_word : (k : Kind) (text other : List ℕ) → word k text ≡ reserved other → (k ≡ Name) × (text ≡ other)
from_reserved_word Name text other e = (refl, reserved_choice (is_reserved text) text other e)
from_reserved_word Number text other e = cc
from_reserved_word k text other e = cc

pub no_reserved : (line : List ℕ) (t : Token) → (t.kind ≡ Name → ⊥) → (text : List ℕ) → word_of line t ≡ reserved text → ⊥
no_reserved line t other text is = other (from_reserved_word t.kind (slice_range line t.start t.end) text is).0

-- ---- the words at which a formula goes a level down

choice_nests : (a : Bool) (text : List ℕ) → nests (if a then reserved text else name text) ≡ a
choice_nests true text = refl
choice_nests false text = refl

pub name_nests : (line : List ℕ) (t : Token) (text : List ℕ) → text ≡ slice_range line t.start t.end → t.kind ≡ Name → nests (word_of line t) ≡ is_reserved text
name_nests line t text slice kind =
    ap (λ k. nests (word k (slice_range line t.start t.end))) kind ∙ choice_nests (is_reserved (slice_range line t.start t.end)) (slice_range line t.start t.end) ∙ ap is_reserved (sym slice)

pub sign_nests : (line : List ℕ) (t : Token) (k : Kind) → IsSign k → t.kind ≡ k → nests (word_of line t) ≡ nests (sign k)
sign_nests line t k is same = ap nests (is_the_sign line t k is same)

-- ---- numbers

from_number_word : (k : Kind) (text other : List ℕ) → word k text ≡ number other → k ≡ Number
from_number_word Name text other e = absurd (choice (is_reserved text) e)
  where
    choice : (a : Bool) → (if a then reserved text else name text) ≡ number other → ⊥
    choice true e = cc
    choice false e = cc
from_number_word Number text other e = refl
from_number_word k text other e = cc

pub no_number : (line : List ℕ) (t : Token) → (t.kind ≡ Number → ⊥) → (digits : List ℕ) → word_of line t ≡ number digits → ⊥
no_number line t other digits is = other (from_number_word t.kind (slice_range line t.start t.end) digits is)

pub number_is : (line : List ℕ) (t : Token) (text : List ℕ) → text ≡ slice_range line t.start t.end → t.kind ≡ Number → word_of line t ≡ number text
number_is line t text slice kind = ap (λ k. word k (slice_range line t.start t.end)) kind ∙ ap number (sym slice)

all_digits : (ds : List ℕ) → ((i : ℕ) → i < length ds → is_ascii_digit (get_or ds i 0) ≡ true) → AllDigits 10 ds
all_digits [] each = tt
all_digits (c ∷ cs) each =
    let first = each 0 (omega arith) in
    let small : digit_value c < 10 = grind (arith, nat_tests) in
    (small, all_digits cs (λ i inside. let next = each (i + 1) (omega (arith, inside)) in grind arith))

pub is_numeral : (line : List ℕ) (t : Token) (text : List ℕ) → IsTokenOf line t → text ≡ slice_range line t.start t.end → t.kind ≡ Number → IsNumeral 10 text
is_numeral line t text is slice kind =
    let number : IsNumberAt line t.start t.end = subst (λ k. IsOfKind k line t.start t.end) kind is.kind in
    let run = number.0 in
    let size : length (slice_range line t.start t.end) ≡ t.end - t.start = length-take-le (t.end - t.start) (drop t.start line) (omega (arith, length-drop t.start line, is.within)) in
    let each : (i : ℕ) → i < length (slice_range line t.start t.end) → is_ascii_digit (get_or (slice_range line t.start t.end) i 0) ≡ true =
    λ i inside. ap is_ascii_digit (get_or-take (t.end - t.start) (drop t.start line) i 0 (omega (arith, inside, size)) ∙ get_or-drop t.start line i 0) ∙ run.digits (t.start + i) (omega arith) (omega (arith, inside, size, is.nonempty)) in
    subst (IsNumeral 10) (sym slice) (omega (arith, size, is.nonempty), all_digits (slice_range line t.start t.end) each)

pub digits_within : (line : List ℕ) (t : Token) (text : List ℕ) → IsTokenOf line t → text ≡ slice_range line t.start t.end → t.kind ≡ Number → length text ≤ 18
digits_within line t text is slice kind =
    let number : IsNumberAt line t.start t.end = subst (λ k. IsOfKind k line t.start t.end) kind is.kind in
    let size : length (slice_range line t.start t.end) ≡ t.end - t.start = length-take-le (t.end - t.start) (drop t.start line) (omega (arith, length-drop t.start line, is.within)) in
    omega (arith, ap length slice, size, number.1, is.nonempty)
