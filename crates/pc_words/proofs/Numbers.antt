-- The numbers of words, as they are found and as they are meant.
use Rattle.std.proofs.Common.{◌≡◌, ℕ, ◌<◌, ◌≤◌, Bool, true, false, ◌&&◌, List, Some, None, nat_lt, nat_le, length, arith, refl, ◌∙◌}
use Rattle.std.proofs.lemmas.Bool.Decides.{nat_tests}
use Rattle.std.specs.Prelude.{if◌then◌else◌}
use Rattle.std.specs.Str.{all_ascii_digits}
use Rattle.std.specs.Str.Parse.{digits_value}
use Rattle.pc_words.specs.Words.{IsNumber}
use Rattle.pc_words.specs.inside.Parts.{is_short_numeral, within, number_of}
use Rattle.pc_words.proofs.Digits.{both, all_in_ten, all_are_digits, number_is}

within_sound : (most v n : ℕ) → within most v ≡ Some n → (n ≡ v) × (1 ≤ v) × (v ≤ most)
within_sound most v n h = by (nat_le 1 v) refl (nat_le v most) refl h
  where
    by : (b : Bool) → nat_le 1 v ≡ b → (c : Bool) → nat_le v most ≡ c → (if b && c then Some v else None) ≡ Some n → (n ≡ v) × (1 ≤ v) × (v ≤ most)
    by true e true f h = let same : n ≡ v = cc in (same, grind (arith, nat_tests), grind (arith, nat_tests))
    by true e false f h = absurd (cc)
    by false e c f h = absurd (cc)

within_complete : (most v : ℕ) → 1 ≤ v → v ≤ most → within most v ≡ Some v
within_complete most v some few =
    let low : nat_le 1 v ≡ true = grind (arith, nat_tests) in
    let high : nat_le v most ≡ true = grind (arith, nat_tests) in
    rw (low, high) refl

module _ (digits most : ℕ) (word : List ℕ) (n : ℕ) where
  pub number_sound : number_of digits most word ≡ Some n → IsNumber digits most word n
  number_sound h = by (is_short_numeral digits word) refl h
    where
      by : (b : Bool) → is_short_numeral digits word ≡ b → (if b then within most (digits_value 10 word) else None) ≡ Some n → IsNumber digits most word n
      by false e h = absurd (cc)
      by true e h =
          let some_rest = both (nat_lt 0 (length word)) (all_ascii_digits word && nat_le (length word) digits) e in
          let digits_few = both (all_ascii_digits word) (nat_le (length word) digits) some_rest.1 in
          let is = within_sound most (digits_value 10 word) n h in
          let some : 0 < length word = grind (arith, nat_tests) in
          let few : length word ≤ digits = grind (arith, nat_tests) in
          let low : 1 ≤ n = omega (arith, is.0, is.1) in
          let high : n ≤ most = omega (arith, is.0, is.2) in
          record { numeral = (some, all_in_ten word digits_few.0); short = few; value = is.0; some = low; within = high }

  pub number_complete : IsNumber digits most word n → number_of digits most word ≡ Some n
  number_complete is =
      let v = digits_value 10 word in
      let low : 1 ≤ v = omega (arith, is.some, is.value) in
      let high : v ≤ most = omega (arith, is.within, is.value) in
      let found = number_is digits most word is.numeral.0 (all_are_digits word is.numeral.1) is.short in
      let kept = within_complete most v low high in
      rw is.value (found ∙ kept)
