use Rattle.std.proofs.Common.{sym, subst}
use Rattle.pc_formula.specs.Front.{Reads}
use Rattle.pc_formula.specs.Value.{DerivesNumber, DerivesInt}
use Rattle.pc_formula.proofs.ValueForms.{int_natural, int_negative}
use Rattle.pc_formula.proofs.Numerals.{natural_value, negative_value}
use Rattle.pc_formula.proofs.values.read_integer.Goals as goal

pub returns-then-take_sign : goal.returns-then-take_sign
returns-then-take_sign c =
    let read = int_negative _ _ _ _ c.if-take_sign.ensures c.in_ok-size.ensures.read in
    subst (λ z. Reads DerivesInt 0 c.args.words.now z c.read_number.new.words) (sym (negative_value c.in_ok-size.size c.in_ok-size.ensures.small)) read

pub returns : goal.returns
returns c =
    let kept = c.if-take_sign.ensures in
    let number = subst (λ ws. Reads DerivesNumber 0 ws c.in_ok-size-2.size c.read_number-2.new.words) kept.0 c.in_ok-size-2.ensures.read in
    subst (λ z. Reads DerivesInt 0 c.args.words.now z c.read_number-2.new.words) (sym (natural_value c.in_ok-size-2.size c.in_ok-size-2.ensures.small)) (int_natural _ _ _ kept.1 number)
