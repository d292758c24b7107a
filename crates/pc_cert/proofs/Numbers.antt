-- Digits as tests, and the value of at most 18 of them.
use Rattle.std.proofs.Common.{◌≡◌, ℕ, ◌+◌, ◌<◌, ◌≤◌, Bool, true, ◌↔◌, IsTrue, List, [], ◌∷◌, zero, suc, length, get_or, arith, subst, sym}
use Rattle.std.proofs.lemmas.Bool.Decides.{nat_tests}
use Rattle.std.proofs.lemmas.Str.{IsUtf8-from_ascii}
use Rattle.std.proofs.lemmas.Str.Parse.{digit_from_value}
use Rattle.std.specs.Prelude.{Result, Ok, Err}
use Rattle.std.specs.Str.{IsUtf8, IsAscii}
use Rattle.std.specs.Char.{is_ascii_digit, digit_value}
use Rattle.std.specs.Str.Parse.{AllDigits, IsNumeral, digits_value, ParsesUnsigned}
use Rattle.pc_formula.proofs.Numerals.{parsed, not_both, same_ok}
use Rattle.pc_cert.specs.Texts.{IsNumberText}

pub all_digits : (ds : List ℕ) → ((i : ℕ) → i < length ds → is_ascii_digit (get_or ds i 0) ≡ true) → AllDigits 10 ds
all_digits [] each = tt
all_digits (c ∷ cs) each =
    let first : is_ascii_digit c ≡ true = each 0 (omega arith) in
    let small : digit_value c < 10 = grind (arith, nat_tests) in
    (small, all_digits cs (λ i inside. let next = each (i + 1) (omega (arith, inside)) in grind arith))

in_range : (c : ℕ) → 48 ≤ c → c ≤ 57 → is_ascii_digit c ≡ true
in_range c low high = grind (arith, nat_tests)

is_digit : (c : ℕ) → digit_value c < 10 → is_ascii_digit c ≡ true
is_digit c small = let range = digit_from_value c small in in_range c range.0 range.1

pub each_digit : (ds : List ℕ) → AllDigits 10 ds → (i : ℕ) → i < length ds → is_ascii_digit (get_or ds i 0) ≡ true
each_digit [] all i inside = absurd (omega (arith, inside))
each_digit (c ∷ cs) all zero inside = is_digit c all.0
each_digit (c ∷ cs) all (suc i) inside = each_digit cs all.1 i (omega (arith, inside))

pub numerals : (text : List ℕ) (b : Bool) → (IsTrue b ↔ ((i : ℕ) → i < length text → is_ascii_digit (get_or text i 0) ≡ true)) → 0 < length text → IsTrue b ↔ IsNumeral 10 text
numerals text b tells some = (λ t. (some, all_digits text (tells.0 t)), λ is. tells.1 (each_digit text is.1))

small_digit : (c : ℕ) → digit_value c < 10 → c < 128
small_digit c small = omega (arith, digit_from_value c small)

ascii : (ds : List ℕ) → AllDigits 10 ds → IsAscii ds
ascii [] all i = omega arith
ascii (c ∷ cs) all zero = small_digit c all.0
ascii (c ∷ cs) all (suc i) = ascii cs all.1 i

pub utf8_of_digits : (text : List ℕ) → IsNumeral 10 text → IsUtf8 text
utf8_of_digits text is = IsUtf8-from_ascii text (ascii text is.1)

-- ---- a text against what `parse` says of it

module _ (text line : List ℕ) (same : line ≡ text) where
  pub read_value : {E : Type 0} (r : Result ℕ E) (n : ℕ) → ParsesUnsigned 64 10 line r → IsNumeral 10 text → length text ≤ 18 → r ≡ Ok n → IsNumberText text n
  read_value r n parses digits few is =
      let here = subst (IsNumeral 10) (sym same) digits in
      let short = subst (λ t. length t ≤ 18) (sym same) few in
      let value = same_ok r n (digits_value 10 line) is (parsed line r parses here short) in
      record { digits = digits; short = few; value = subst (λ t. n ≡ digits_value 10 t) same value }

  pub not_parsed : {E : Type 0} (r : Result ℕ E) (e : E) → ParsesUnsigned 64 10 line r → IsNumeral 10 text → length text ≤ 18 → r ≡ Err e → ⊥
  not_parsed r e parses digits few is =
      let here = subst (IsNumeral 10) (sym same) digits in
      let short = subst (λ t. length t ≤ 18) (sym same) few in
      not_both r (digits_value 10 line) e (parsed line r parses here short) is
