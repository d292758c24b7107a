use Rattle.std.proofs.Common.{◌≡◌, ◌<◌, ◌≤◌, true, length, arith, sym, ◌∙◌}
use Rattle.std.proofs.lemmas.Bool.Decides.{nat_tests}
use Rattle.std.specs.Prelude.{Ok}
use Rattle.std.specs.Str.{all_ascii_digits}
use Rattle.std.specs.Str.Parse.{digits_value}
use Rattle.pc_words.proofs.Digits.{parsed}
use Rattle.pc_words.proofs.word.number_of.Goals as goal

pub returns-in-Err : goal.returns-in-Err
returns-in-Err c =
    let digits : all_ascii_digits c.args.word.now ≡ true = sym c.has_digits_alone.ensures ∙ c.if-not-has_digits_alone.false in
    let some : 0 < length c.args.word.now = grind (arith, nat_tests) in
    let few : length c.args.word.now ≤ 19 = omega arith in
    let read : c.parse.result ≡ Ok (digits_value 10 c.args.word.now) = parsed c.args.word.now c.parse.result c.parse.ensures.value.0 digits some few in
    absurd (cc)
