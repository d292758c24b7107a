use Rattle.std.proofs.Common.{◌≡◌, codes, arith}
use Rattle.std.specs.Fmt.{decimal}
use Rattle.std.proofs.lemmas.Fmt.{decimal_digit}
use Rattle.pc_journal.proofs.law.lines_are_worked.Goals as goal

one_text : decimal 1 ≡ codes "1"
one_text = decimal_digit 1 (omega arith)

two_text : decimal 2 ≡ codes "2"
two_text = decimal_digit 2 (omega arith)

three_text : decimal 3 ≡ codes "3"
three_text = decimal_digit 3 (omega arith)

pub returns : goal.returns
returns c = record { bad = simp (three_text); gap_at_first = simp (one_text); early = simp (two_text); differ = simp (one_text) }
