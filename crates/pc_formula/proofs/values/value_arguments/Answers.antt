use Rattle.std.proofs.Common.{map, sym, ap, subst₂}
use Rattle.pc_formula.specs.Tree.{value_of}
use Rattle.pc_formula.specs.Front.{Reads}
use Rattle.pc_formula.specs.Value.{DerivesValue, Arguments}
use Rattle.pc_formula.proofs.Lists.{arguments_absent, arguments_read, arguments_again}
use Rattle.pc_formula.proofs.Numerals.{false_not}
use Rattle.pc_formula.proofs.values.value_arguments.Goals as goal

pub returns-then-not-take_sign-clause-ok : goal.returns-then-not-take_sign-clause-ok
returns-then-not-take_sign-clause-ok c =
    let kept = c.if-not-take_sign.ensures in
    subst₂ (Reads (Arguments DerivesValue) 1 c.args.words.now) (sym (ap (map value_of) c.new.ensures.items)) (sym kept.0) (arguments_absent DerivesValue _ kept.1)

pub returns-then-not-stops_at-clause-err : goal.returns-then-not-stops_at-clause-err
returns-then-not-stops_at-clause-err c = λ refused. arguments_again DerivesValue _ _ c.if-not-take_sign.ensures _ _ c.in_ok-values.ensures.ok (false_not _ c.stops_at.ensures.1 c.if-not-stops_at.true)

pub returns-clause-ok : goal.returns-clause-ok
returns-clause-ok c = arguments_read DerivesValue _ _ c.if-not-take_sign.ensures _ _ c.in_ok-values.ensures.ok (c.stops_at.ensures.0 c.if-not-stops_at.false)
