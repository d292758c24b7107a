use Rattle.std.proofs.Common.{◌≡◌, Err, ap}
use Rattle.std.proofs.lemmas.Result.{err_from_is_err_and}
use Rattle.pc_formula.specs.declared.refusal.Refusal.TheVariants.{Syntax}
use Rattle.pc_cert.specs.Texts.{IsLiteralText}
use Rattle.pc_cert.specs.Trees.{literal_of}
use Rattle.pc_cert.proofs.Lists.{all_more_seen, all_none}
use Rattle.pc_cert.proofs.literal.read_literals.Goals as goal

pub returns-in_err-literal-clause-none : goal.returns-in_err-literal-clause-none
returns-in_err-literal-clause-none c = λ e xs all.
    let p = err_from_is_err_and c.from_residual.result c.from_residual.ensures.1 in
    let is : c.in_err-literal.field-0.0 ≡ Syntax = cc (e, p.1, p.2) in
    all_none IsLiteralText c.args.texts.now c.loop-text.text-index _ c.loop-text-test.true (c.in_err-literal.ensures.none (ap Err is)) xs all

pub loop-text-preserved : goal.loop-text-preserved
loop-text-preserved c =
    rw c.in_ok-push.ensures.items (all_more_seen IsLiteralText literal_of c.args.texts.now c.loop-text.text-index _ c.loop-text-test.true c.loop-text.literals.items c.in_ok-literal.literal c.loop-text.invariant c.in_ok-literal.ensures.told)
