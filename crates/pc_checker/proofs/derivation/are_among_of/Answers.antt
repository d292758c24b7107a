use Rattle.std.proofs.Common.{All, refl}
use Rattle.std.proofs.lemmas.Bool.{iff_false}
use Rattle.std.proofs.lemmas.List.{take_all}
use Rattle.std.proofs.lemmas.List.Elements.{All-more}
use Rattle.pc_lits.proofs.LitLemmas.{past_lit}
use Rattle.pc_checker.specs.inside.Parts.{IsAmongOf}
use Rattle.pc_checker.proofs.MarkLemmas.{one_is_not}
use Rattle.pc_checker.proofs.derivation.are_among_of.Goals as goal

pub returns-then-not-is_marked-clause-among : goal.returns-then-not-is_marked-clause-among
returns-then-not-is_marked-clause-among c =
    one_is_not (IsAmongOf c.args.sign c.args.allowed.now) c.args.clause.now c.loop-lit.lit-index past_lit c.loop-lit-test.true
    (iff_false (c.is_marked.ensures c.args.allowed.now c.mark.ensures.marks) c.if-not-is_marked.true)

pub loop-lit-preserved : goal.loop-lit-preserved
loop-lit-preserved c =
    All-more (IsAmongOf c.args.sign c.args.allowed.now) c.args.clause.now c.loop-lit.lit-index past_lit c.loop-lit-test.true c.loop-lit.invariant
    ((c.is_marked.ensures c.args.allowed.now c.mark.ensures.marks).0 c.if-not-is_marked.false)

pub returns-clause-among : goal.returns-clause-among
returns-clause-among c =
    let all : All (IsAmongOf c.args.sign c.args.allowed.now) c.args.clause.now = rw (take_all c.loop-lit.lit-index c.args.clause.now c.loop-lit-test.false) at c.loop-lit.invariant in
    (λ _. all, λ _. refl)
