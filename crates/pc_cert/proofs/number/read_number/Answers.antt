use Rattle.std.proofs.Common.{rules, arith}
use Rattle.pc_cert.proofs.Numbers.{utf8_of_digits, read_value, not_parsed}
use Rattle.pc_cert.proofs.number.read_number.Goals as goal

pub returns-in_default : goal.returns-in_default
returns-in_default c = λ n is. c.in_default.ensures.cases.0 (utf8_of_digits c.args.text.now is.digits)

pub returns-in_default-parse : goal.returns-in_default-parse
returns-in_default-parse c = λ n is. not_parsed c.args.text.now c.in-Ok.digits.now c.in-Ok.ensures.cases.0 c.parse.result _ c.parse.ensures.value.0 is.digits is.short c.in_default-parse.is

pub returns : goal.returns
returns c = read_value c.args.text.now c.in-Ok.digits.now c.in-Ok.ensures.cases.0 c.parse.result c.in-Ok-parse.value c.parse.ensures.value.0 (c.is_numeral.ensures.0 (search rules)) (omega arith) c.in-Ok-parse.is
