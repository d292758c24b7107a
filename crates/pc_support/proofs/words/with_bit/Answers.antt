use Rattle.std.proofs.Common.{sym, ap, ◌∙◌, eqb, eq-eqb, w64}
use Rattle.std.proofs.lemmas.Nat.Bits.{bit_at_set_same, bit_at_set_other, bit_at_clear_same, bit_at_clear_other}
use Rattle.pc_support.proofs.words.with_bit.Goals as goal

pub returns-then-has-clause-same : goal.returns-then-has-clause-same
returns-then-has-clause-same c = eq-eqb _ 1 (bit_at_set_same w64 c.args.word c.args.at c.requires) ∙ sym c.if-has.true

pub returns-then-has-clause-others : goal.returns-then-has-clause-others
returns-then-has-clause-others c i small differs = bit_at_set_other w64 c.args.word c.args.at c.requires i differs

pub returns-else-has-clause-same : goal.returns-else-has-clause-same
returns-else-has-clause-same c = ap (λ b. eqb b 1) (bit_at_clear_same w64 c.args.word c.args.at c.requires) ∙ sym c.if-has.false

pub returns-else-has-clause-others : goal.returns-else-has-clause-others
returns-else-has-clause-others c i small differs = bit_at_clear_other w64 c.args.word c.args.at c.requires i small differs
