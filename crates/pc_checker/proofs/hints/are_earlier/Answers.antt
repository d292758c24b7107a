use Rattle.std.proofs.Common.{All, refl}
use Rattle.std.proofs.lemmas.Bool.{false≢true, iff_false}
use Rattle.std.proofs.lemmas.List.{take_all}
use Rattle.std.proofs.lemmas.List.Elements.{All-more}
use Rattle.pc_checker.specs.inside.Numbers.{IsNumberUpTo}
use Rattle.pc_checker.proofs.HintLemmas.{earlier}
use Rattle.pc_checker.proofs.hints.are_earlier.Goals as goal

pub loop-number-preserved : goal.loop-number-preserved
loop-number-preserved c =
    All-more (IsNumberUpTo c.args.place) c.args.numbers.now c.loop-number.number-index 0 c.loop-number-test.true c.loop-number.invariant (c.is_number_up_to.ensures.0 c.if-not-is_number_up_to.false)

pub returns-then-not-is_number_up_to-clause-numbers : goal.returns-then-not-is_number_up_to-clause-numbers
returns-then-not-is_number_up_to-clause-numbers c = (
  λ e. absurd (false≢true e),
  λ h. absurd (iff_false c.is_number_up_to.ensures c.if-not-is_number_up_to.true (h c.loop-number.number-index 0 c.loop-number-test.true)),
)

pub returns-then-not-is_number_up_to-clause-meant : goal.returns-then-not-is_number_up_to-clause-meant
returns-then-not-is_number_up_to-clause-meant c = (
  λ e. absurd (false≢true e),
  λ h. absurd (iff_false c.is_number_up_to.ensures c.if-not-is_number_up_to.true ((earlier c.args.place c.args.numbers.now).1 h c.loop-number.number-index 0 c.loop-number-test.true)),
)

pub returns-clause-meant : goal.returns-clause-meant
returns-clause-meant c =
    let all : All (IsNumberUpTo c.args.place) c.args.numbers.now = rw (take_all c.loop-number.number-index c.args.numbers.now c.loop-number-test.false) at c.loop-number.invariant in
    (λ _. (earlier c.args.place c.args.numbers.now).0 all, λ _. refl)

pub returns-clause-numbers : goal.returns-clause-numbers
returns-clause-numbers c =
    let all : All (IsNumberUpTo c.args.place) c.args.numbers.now = rw (take_all c.loop-number.number-index c.args.numbers.now c.loop-number-test.false) at c.loop-number.invariant in
    (λ _. all, λ _. refl)
