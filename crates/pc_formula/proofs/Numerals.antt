-- The value of at most 18 digits, as a machine's number.
use Rattle.std.proofs.Common.{◌≡◌, ℕ, ◌<◌, ◌≤◌, Bool, true, false, pos, ◌-ℤ◌, neg_ℤ, List, length, Result, Ok, Err, arith, refl, w64}
use Rattle.std.specs.Str.Parse.{AllDigits, IsNumeral, digits_value, ParsesUnsigned}
use Rattle.std.proofs.lemmas.Str.Parse.{IsNumeralModel, digits_value_short, parse_gives}
use Rattle.std.proofs.lemmas.Int.{ints}
use mir.Val.{to_z, of_z}

own : IsNumeralModel (AllDigits 10) (digits_value 10)
own = record { to = λ ds d. d; from = λ ds d. d; same = λ ds d. refl }

pub small_value : (ds : List ℕ) → IsNumeral 10 ds → length ds ≤ 18 → digits_value 10 ds < 1000000000000000000
small_value ds is few = digits_value_short own ds 18 is.1 few

pub parsed : {E : Type 0} (ds : List ℕ) (r : Result ℕ E) → ParsesUnsigned 64 10 ds r → IsNumeral 10 ds → length ds ≤ 18 → r ≡ Ok (digits_value 10 ds)
parsed ds r parses is few = parse_gives own 64 ds r parses is.1 is.0 (omega (arith, small_value ds is few))

pub not_both : {A E : Type 0} (r : Result A E) (a : A) (e : E) → r ≡ Ok a → r ≡ Err e → ⊥
not_both r a e p q = cc

pub same_ok : {A E : Type 0} (r : Result A E) (a b : A) → r ≡ Ok a → r ≡ Ok b → a ≡ b
same_ok r a b p q = cc

pub natural_value : (n : ℕ) → n < 1000000000000000000 → to_z w64 n ≡ pos n
natural_value n small = omega (arith, ints)

pub negative_value : (n : ℕ) → n < 1000000000000000000 → to_z w64 (of_z w64 (pos 0 -ℤ to_z w64 n)) ≡ neg_ℤ (pos n)
negative_value n small = omega (arith, ints)

-- a test that fails
pub false_not : {P : Type 0} (b : Bool) → (P → b ≡ true) → b ≡ false → P → ⊥
false_not b tells is p = let e = tells p in cc
