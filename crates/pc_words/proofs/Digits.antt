-- Words of digits, and the numbers that they write.
use Rattle.std.proofs.Common.{◌≡◌, ℕ, ◌<◌, ◌≤◌, ◌^◌, Bool, true, false, ◌&&◌, ◌↔◌, IsTrue, List, [], ◌∷◌, None, zero, suc, nat_lt, nat_le, length, get_or, arith, refl, sym}
use Rattle.std.proofs.lemmas.Bool.Decides.{nat_tests}
use Rattle.std.proofs.lemmas.Str.Parse.{IsNumeralModel, numerals_by_value, tells_all_ascii_digits, digits_value_short, parse_gives}
use Rattle.std.specs.Prelude.{Result, Ok}
use Rattle.std.specs.Char.{is_ascii_digit}
use Rattle.std.specs.Str.{all_ascii_digits}
use Rattle.std.specs.Str.Parse.{AllDigits, digits_value, ParsesUnsigned}
use Rattle.pc_words.specs.inside.Parts.{is_short_numeral, within, number_of}

pub all_digits : (ds : List ℕ) → ((i : ℕ) → i < length ds → is_ascii_digit (get_or ds i 0) ≡ true) → all_ascii_digits ds ≡ true
all_digits [] each = refl
all_digits (c ∷ cs) each =
    let first : is_ascii_digit c ≡ true = each 0 (omega arith) in
    rw first (all_digits cs (λ i inside. each (suc i) (omega (arith, inside))))

pub both : (b c : Bool) → (b && c) ≡ true → (b ≡ true) × (c ≡ true)
both true true h = (refl, refl)
both true false h = absurd (cc)
both false c h = absurd (cc)

pub each_digit : (ds : List ℕ) → all_ascii_digits ds ≡ true → (i : ℕ) → i < length ds → is_ascii_digit (get_or ds i 0) ≡ true
each_digit [] all i inside = absurd (omega (arith, inside))
each_digit (c ∷ cs) all zero inside = (both (is_ascii_digit c) (all_ascii_digits cs) all).0
each_digit (c ∷ cs) all (suc i) inside = each_digit cs (both (is_ascii_digit c) (all_ascii_digits cs) all).1 i (omega (arith, inside))

-- a test at each place tells it
pub told : (ds : List ℕ) (b : Bool) → (IsTrue b ↔ ((i : ℕ) → i < length ds → is_ascii_digit (get_or ds i 0) ≡ true)) → b ≡ all_ascii_digits ds
told ds true tells = sym (all_digits ds (tells.0 refl))
told ds false tells = by (all_ascii_digits ds) refl
  where
    by : (b : Bool) → all_ascii_digits ds ≡ b → false ≡ b
    by true e = tells.1 (each_digit ds e)
    by false e = refl

own : IsNumeralModel (λ ds. all_ascii_digits ds ≡ true) (digits_value 10)
own = numerals_by_value _ tells_all_ascii_digits

-- digits that are few enough are read as the number that they write
pub parsed : {E : Type 0} (word : List ℕ) (r : Result ℕ E) → ParsesUnsigned 64 10 word r → all_ascii_digits word ≡ true → 0 < length word → length word ≤ 19 → r ≡ Ok (digits_value 10 word)
parsed word r parses digits some few =
    let short : digits_value 10 word < 10 ^ 19 = digits_value_short own word 19 digits few in
    let small : digits_value 10 word < 2 ^ 64 = omega (arith, short) in
    parse_gives own 64 word r parses digits some small

-- ---- what is told of a word

first : (b c : Bool) → b ≡ false → (b && c) ≡ false
first true c h = absurd (cc)
first false c h = refl

second : (b c : Bool) → c ≡ false → (b && c) ≡ false
second true c h = h
second false c h = refl

module _ (digits most : ℕ) (word : List ℕ) where
  no_number : is_short_numeral digits word ≡ false → None ≡ number_of digits most word
  no_number h = rw h refl

  pub empty : length word ≡ 0 → None ≡ number_of digits most word
  empty h = no_number (first (nat_lt 0 (length word)) _ (grind (arith, nat_tests)))

  pub no_digits : all_ascii_digits word ≡ false → None ≡ number_of digits most word
  no_digits h = no_number (second (nat_lt 0 (length word)) _ (first (all_ascii_digits word) _ h))

  pub long : digits < length word → None ≡ number_of digits most word
  long h = no_number (second (nat_lt 0 (length word)) _ (second (all_ascii_digits word) _ (grind (arith, nat_tests))))

  short : (b c d : Bool) → b ≡ true → c ≡ true → d ≡ true → (b && (c && d)) ≡ true
  short b c d h e f = cc

  pub number_is : 0 < length word → all_ascii_digits word ≡ true → length word ≤ digits → number_of digits most word ≡ within most (digits_value 10 word)
  number_is some digits_alone few =
      let numeral : is_short_numeral digits word ≡ true = short (nat_lt 0 (length word)) (all_ascii_digits word) (nat_le (length word) digits) (grind (arith, nat_tests)) digits_alone (grind (arith, nat_tests)) in
      rw numeral refl

pub all_in_ten : (word : List ℕ) → all_ascii_digits word ≡ true → AllDigits 10 word
all_in_ten word digits = own.to word digits

pub all_are_digits : (word : List ℕ) → AllDigits 10 word → all_ascii_digits word ≡ true
all_are_digits word digits = own.from word digits
