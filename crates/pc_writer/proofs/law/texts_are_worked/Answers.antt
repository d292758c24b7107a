use Rattle.std.proofs.Common.{◌≡◌, refl, codes, arith}
use Rattle.std.specs.Fmt.{decimal}
use Rattle.std.proofs.lemmas.Fmt.{decimal_digit}
use Rattle.pc_writer.proofs.law.texts_are_worked.Goals as goal

zero_text : decimal 0 ≡ codes "0"
zero_text = decimal_digit 0 (omega arith)

one_text : decimal 1 ≡ codes "1"
one_text = decimal_digit 1 (omega arith)

two_text : decimal 2 ≡ codes "2"
two_text = decimal_digit 2 (omega arith)

pub returns : goal.returns
returns c =
    record {
      of_three = refl;
      of_views = refl;
      of_duties = simp (zero_text, one_text, two_text);
      universe_of_tour = simp (zero_text, one_text, two_text);
      rules_of_tour = simp (one_text, two_text);
      entries_of_tour = simp (zero_text, one_text);
    }
