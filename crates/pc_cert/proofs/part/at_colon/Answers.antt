use Rattle.std.proofs.Common.{◌≢◌, codes, arith, subst, ap, ◌∙◌}
use Rattle.std.proofs.lemmas.List.{take_all}
use Rattle.std.specs.List.{AllByRecursion}
use Rattle.pc_cert.specs.Trees.{seen}
use Rattle.pc_cert.proofs.Lists.{cut_at}
use Rattle.pc_cert.proofs.Parted.{has_none}
use Rattle.pc_cert.proofs.part.at_colon.Goals as goal

pub returns-then-is_word : goal.returns-then-is_word
returns-then-is_word c = (cut_at c.args.texts.now c.loop-i.i _ (codes ":") c.loop-i-test.true (c.is_word.ensures.0 c.if-is_word.true), c.loop-i.invariant)

pub returns : goal.returns
returns c = λ xs ys e.
    let whole = take_all c.loop-i.i c.args.texts.now (omega arith) in
    has_none (codes ":") xs ys (subst (λ ts. AllByRecursion (λ t. t ≢ codes ":") ts) (ap seen whole ∙ e) c.loop-i.invariant)
