use Rattle.std.proofs.Common.{◌≡◌, arith}
use Rattle.std.specs.Str.Parse.{digits_value}
use Rattle.pc_formula.proofs.ValueForms.{number_reads}
use Rattle.pc_formula.proofs.Numerals.{small_value, parsed, not_both, same_ok}
use Rattle.pc_formula.proofs.values.read_number.Goals as goal

pub returns-in_default-clause-read : goal.returns-in_default-clause-read
returns-in_default-clause-read c =
    let digits = c.in_ok-digits.ensures in
    absurd (not_both c.parse.result _ _ (parsed c.in_ok-digits.digits.now c.parse.result c.parse.ensures.value.0 digits.1 digits.2) c.in_default.is)

pub returns-clause-read : goal.returns-clause-read
returns-clause-read c =
    let digits = c.in_ok-digits.ensures in
    number_reads _ c.in_ok-digits.digits.now _ _ digits.0 (same_ok c.parse.result _ _ c.in-Ok.is (parsed c.in_ok-digits.digits.now c.parse.result c.parse.ensures.value.0 digits.1 digits.2))

pub returns-clause-small : goal.returns-clause-small
returns-clause-small c =
    let digits = c.in_ok-digits.ensures in
    let value : c.in-Ok.value ≡ digits_value 10 c.in_ok-digits.digits.now = same_ok c.parse.result _ _ c.in-Ok.is (parsed c.in_ok-digits.digits.now c.parse.result c.parse.ensures.value.0 digits.1 digits.2) in
    omega (arith, value, small_value c.in_ok-digits.digits.now digits.1 digits.2)
