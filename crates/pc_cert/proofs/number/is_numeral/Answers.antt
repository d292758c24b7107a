use Rattle.std.proofs.Common.{◌<◌, length, arith}
use Rattle.pc_cert.proofs.Numbers.{numerals}
use Rattle.pc_cert.proofs.number.is_numeral.Goals as goal

pub returns-then-not-is_empty : goal.returns-then-not-is_empty
returns-then-not-is_empty c =
    let some : 0 < length c.args.text.now = grind arith in
    numerals c.args.text.now c.has_digits_alone.result c.has_digits_alone.ensures some
