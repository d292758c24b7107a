use Rattle.pc_cert.specs.Texts.{IsNumberText}
use Rattle.pc_cert.proofs.Lists.{all_more, all_none}
use Rattle.pc_cert.proofs.path.read_numbers.Goals as goal

pub returns-in_default-clause-none : goal.returns-in_default-clause-none
returns-in_default-clause-none c = λ e ns all. all_none IsNumberText c.args.texts.now c.loop-text.text-index _ c.loop-text-test.true c.in_default.ensures ns all

pub loop-text-preserved : goal.loop-text-preserved
loop-text-preserved c =
    rw c.in_ok-push.ensures.items (all_more IsNumberText c.args.texts.now c.loop-text.text-index _ c.loop-text-test.true c.loop-text.numbers.items c.in-Some.number c.loop-text.invariant c.in-Some.ensures)
