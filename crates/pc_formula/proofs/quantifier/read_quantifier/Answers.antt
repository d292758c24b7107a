use Rattle.pc_formula.proofs.Quantifiers.{is_every, is_some, is_count, count_none}
use Rattle.pc_formula.proofs.Numerals.{natural_value}
use Rattle.pc_formula.proofs.quantifier.read_quantifier.Goals as goal

pub returns-then-eq-clause-ok : goal.returns-then-eq-clause-ok
returns-then-eq-clause-ok c = is_every _ _ _ c.in-Some.ensures.0 c.eq.result c.eq.ensures c.if-eq.true

pub returns-then-eq-2-clause-ok : goal.returns-then-eq-2-clause-ok
returns-then-eq-2-clause-ok c = is_some _ _ _ c.in-Some.ensures.0 c.eq-2.result c.eq-2.ensures c.if-eq-2.true

pub returns-in-Some-read_number-clause-ok : goal.returns-in-Some-read_number-clause-ok
returns-in-Some-read_number-clause-ok c =
    is_count _ _ _ c.in-Some.ensures.0 c.eq.result c.eq-2.result c.eq-at_most.result c.in-Some.ensures.1 c.eq.ensures c.if-eq.false c.eq-2.ensures c.if-eq-2.false c.eq-at_most.ensures
    c.in-Some-read_number.number _ _ (natural_value c.in-Some-read_number.number c.in-Some-read_number.ensures.small) c.in-Some-read_number.ensures.read

pub returns-in-None-clause-err : goal.returns-in-None-clause-err
returns-in-None-clause-err c = λ refused.
    count_none _ _ _ c.in-Some.ensures.0 c.eq.result c.eq-2.result c.eq-at_most.result c.in-Some.ensures.1 c.eq.ensures c.if-eq.false c.eq-2.ensures c.if-eq-2.false c.eq-at_most.ensures c.in-None.ensures.read
