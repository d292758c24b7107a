use Rattle.std.proofs.Common.{◌≡◌, Err, ap}
use Rattle.std.proofs.lemmas.Result.{err_from_is_err_and}
use Rattle.pc_formula.specs.declared.refusal.Refusal.TheVariants.{Syntax}
use Rattle.pc_cert.specs.Texts.{IsReadText}
use Rattle.pc_cert.specs.Trees.{pair_of}
use Rattle.pc_cert.proofs.Lists.{all_more_seen, all_none}
use Rattle.pc_cert.proofs.literal.read_pairs.Goals as goal

pub returns-in_err-pair-clause-none : goal.returns-in_err-pair-clause-none
returns-in_err-pair-clause-none c = λ e xs all.
    let p = err_from_is_err_and c.from_residual.result c.from_residual.ensures.1 in
    let is : c.in_err-pair.field-0.0 ≡ Syntax = cc (e, p.1, p.2) in
    all_none IsReadText c.args.texts.now c.loop-text.text-index _ c.loop-text-test.true (c.in_err-pair.ensures.none (ap Err is)) xs all

pub loop-text-preserved : goal.loop-text-preserved
loop-text-preserved c =
    rw c.in_ok-push.ensures.items (all_more_seen IsReadText pair_of c.args.texts.now c.loop-text.text-index _ c.loop-text-test.true c.loop-text.pairs.items c.in_ok-pair.pair c.loop-text.invariant c.in_ok-pair.ensures.told)
