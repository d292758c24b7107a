use Rattle.std.proofs.Common.{◌∙◌, Bool, sym, subst, arith, Option, IfSome}
use Rattle.pc_lits.proofs.LitLemmas.{lit_from_same}
use Rattle.pc_propagate.specs.Entries.{HasValue}
use Rattle.pc_solver.proofs.ReasonLemmas.{before_found, differs_by}
use Rattle.pc_solver.proofs.reasons.is_before.Goals as goal

pub returns-then-eq : goal.returns-then-eq
returns-then-eq c = λ differs. absurd (differs (lit_from_same c.args.other c.args.lit (sym c.eq.ensures ∙ c.if-eq.true)))

pub place_of-requires : goal.place_of-requires
place_of-requires c = subst (λ (o : Option Bool). IfSome o (λ _. HasValue c.args.trail.now.entries c.args.other.variable)) c.in-Some.is c.value.ensures.known

pub returns : goal.returns
returns c = λ differs.
    before_found c.args.trail.now.entries c.args.other c.value.result c.in-Some.sign c.args.place c.place_of.result c.value.ensures.opposite c.in-Some.is
    (differs_by c.in-Some.sign c.is_positive.result c.args.other.sign c.is_positive.ensures c.if-sign-is_positive.false) c.place_of.ensures (omega (arith, c.if-place_of-place.false))
