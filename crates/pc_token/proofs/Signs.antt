-- The longest sign at a place is the one that `sign_of` picks by three bytes.
use Rattle.std.proofs.Common.{◌≡◌, ℕ, ◌+◌, ◌<◌, ◌≤◌, List, [], ◌∷◌, length, get_or, false, ◌≢◌, refl, sym, ◌∙◌, subst, arith}
use Rattle.std.proofs.lemmas.Bool.Decides.{nat_tests}
use Rattle.std.specs.Char.{is_ascii_digit, is_ascii_alphabetic}
use Rattle.std.specs.Prelude.{Option, Some, None, MatchOption}
use Rattle.pc_token.specs.declared.token.Kind.{Kind}
use Rattle.pc_token.specs.declared.token.Kind.TheVariants.{Name, Number, NotEqual, LessEqual, GreaterEqual, Arrow, DoubleArrow, Range}
use Rattle.pc_token.specs.Piece.{sign_of}
use Rattle.pc_token.specs.Token.{sign_text, HasTextAt, IsSignAt, StartsNoSign}

-- the bytes are those of the text, as far as it goes
abbrev Begins : List ℕ → ℕ → ℕ → ℕ → Type 0
Begins [] a b c = Unit {0}
Begins (x ∷ []) a b c = a ≡ x
Begins (x ∷ y ∷ []) a b c = (a ≡ x) × (b ≡ y)
Begins (x ∷ y ∷ z ∷ more) a b c = (a ≡ x) × (b ≡ y) × (c ≡ z)

-- the sign picked begins with those bytes
picked : (k : Kind) (a b c : ℕ) → sign_of a b c ≡ Some k → Begins (sign_text k) a b c × (0 < length (sign_text k))
picked Name a b c e = grind (arith, nat_tests)
picked k a b c e = grind (arith, nat_tests)

-- no longer sign begins with them
longest : (j k : Kind) (a b c : ℕ) → sign_of a b c ≡ Some k → Begins (sign_text j) a b c → length (sign_text j) ≤ length (sign_text k)
longest NotEqual k a b c e begins = grind (arith, nat_tests)
longest LessEqual k a b c e begins = grind (arith, nat_tests)
longest GreaterEqual k a b c e begins = grind (arith, nat_tests)
longest Arrow k a b c e begins = grind (arith, nat_tests)
longest DoubleArrow k a b c e begins = grind (arith, nat_tests)
longest Range k a b c e begins = grind (arith, nat_tests)
longest j k a b c e begins = omega (arith, (picked k a b c e).1)

-- where none is picked, none begins with them
none : (k : Kind) (a b c : ℕ) → sign_of a b c ≡ None → 0 < length (sign_text k) → Begins (sign_text k) a b c → ⊥
none Name a b c e nonempty begins = absurd (omega arith)
none k a b c e nonempty begins = grind (arith, nat_tests)

-- the text at a place begins with the bytes there
begins_there : (line : List ℕ) (at : ℕ) (text : List ℕ) → HasTextAt line at text → Begins text (get_or line at 0) (get_or line (at + 1) 0) (get_or line (at + 2) 0)
begins_there line at [] stands = tt
begins_there line at (x ∷ []) stands = stands.0
begins_there line at (x ∷ y ∷ []) stands = (stands.0, stands.1.0)
begins_there line at (x ∷ y ∷ z ∷ more) stands = grind arith

text_stands : (line : List ℕ) (at : ℕ) (text : List ℕ) → length text ≤ 3 → Begins text (get_or line at 0) (get_or line (at + 1) 0) (get_or line (at + 2) 0) → HasTextAt line at text
text_stands line at [] short begins = tt
text_stands line at (x ∷ []) short begins = (begins, tt)
text_stands line at (x ∷ y ∷ []) short begins = (begins.0, (begins.1, tt))
text_stands line at (x ∷ y ∷ z ∷ []) short begins = grind arith
text_stands line at (x ∷ y ∷ z ∷ w ∷ more) short begins = absurd (omega arith)

short_sign : (k : Kind) → length (sign_text k) ≤ 3
short_sign Name = omega arith
short_sign k = omega arith

-- what `sign_of` picks is the longest sign at the place
pub picked_is_longest : (line : List ℕ) (at : ℕ) (o : Option Kind) → o ≡ sign_of (get_or line at 0) (get_or line (at + 1) 0) (get_or line (at + 2) 0) → MatchOption o (StartsNoSign line at) (IsSignAt line at)
picked_is_longest line at None e = λ k nonempty stands. none k _ _ _ (cc) nonempty (begins_there line at (sign_text k) stands)
picked_is_longest line at (Some k) e =
    let is : sign_of (get_or line at 0) (get_or line (at + 1) 0) (get_or line (at + 2) 0) ≡ Some k = cc in
    let p = picked k _ _ _ is in
    record {
      sign = p.1;
      stands = text_stands line at (sign_text k) (short_sign k) p.0;
      longest = λ j stands. longest j k _ _ _ is (begins_there line at (sign_text j) stands);
    }

-- a sign's first byte is one of these
abbrev pub IsSignByte : ℕ → Type 0
IsSignByte b = (32 < b) × (b < 128) × (is_ascii_digit b ≡ false) × (is_ascii_alphabetic b ≡ false) × (b ≢ 95)

pub sign_begins : (line : List ℕ) (at : ℕ) (k : Kind) → 0 < length (sign_text k) → HasTextAt line at (sign_text k) → IsSignByte (get_or line at 0)
sign_begins line at Name nonempty stands = absurd (omega arith)
sign_begins line at Number nonempty stands = absurd (omega arith)
sign_begins line at k nonempty stands = subst IsSignByte (sym stands.0) ((omega arith), (omega arith), refl, refl, (omega arith))

-- two longest signs at a place are one
same_sign : (k j : Kind) (a b c : ℕ) → sign_of a b c ≡ Some j → Begins (sign_text k) a b c → 0 < length (sign_text k) → length (sign_text j) ≤ length (sign_text k) → k ≡ j
same_sign Name j a b c e begins nonempty shorter = absurd (omega arith)
same_sign k j a b c e begins nonempty shorter = grind (arith, nat_tests)

pub only_sign : (line : List ℕ) (at : ℕ) (k j : Kind) → IsSignAt line at k → IsSignAt line at j → k ≡ j
only_sign line at k j one other = go (sign_of (get_or line at 0) (get_or line (at + 1) 0) (get_or line (at + 2) 0)) refl
  where
    go : (o : Option Kind) → sign_of (get_or line at 0) (get_or line (at + 1) 0) (get_or line (at + 2) 0) ≡ o → k ≡ j
    go None e = absurd (none k _ _ _ e one.sign (begins_there line at (sign_text k) one.stands))
    go (Some i) e =
        let p = picked i _ _ _ e in
        let there = text_stands line at (sign_text i) (short_sign i) p.0 in
        same_sign k i _ _ _ e (begins_there line at (sign_text k) one.stands) one.sign (one.longest i there) ∙ sym (same_sign j i _ _ _ e (begins_there line at (sign_text j) other.stands) other.sign (other.longest i there))
