use Rattle.std.proofs.Common.{◌≡◌, ◌∙◌, arith, rules, sym}
use Rattle.pc_sortcheck.proofs.Lists.{not_more, not_any}
use Rattle.pc_sortcheck.proofs.names.is_among.Goals as goal

pub loop-other-preserved : goal.loop-other-preserved
loop-other-preserved c =
    not_more c.args.names.now c.loop-other.other-index c.other-item.result c.args.name.now c.loop-other.invariant c.other-item.is c.loop-other-test.true
    (λ same. let texts : c.as_str.result.now ≡ c.as_str-in-loop-other.result.now = c.as_str.ensures.text ∙ same ∙ sym c.as_str-in-loop-other.ensures.text in search rules)

pub returns : goal.returns
returns c = (λ z. absurd (cc), λ h. absurd (not_any c.args.names.now c.loop-other.other-index c.args.name.now (omega arith) c.loop-other.invariant h))
