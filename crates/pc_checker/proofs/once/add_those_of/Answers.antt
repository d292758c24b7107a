use Rattle.std.proofs.Common.{List, take, sym, ◌∙◌, subst}
use Rattle.std.proofs.lemmas.List.{take_all, take_more}
use Rattle.pc_lits.specs.declared.literal.Lit.{Lit}
use Rattle.pc_lits.proofs.LitLemmas.{past_lit}
use Rattle.pc_checker.specs.inside.Once.{AreAdded, AreGathered}
use Rattle.pc_checker.proofs.once.add_those_of.Goals as goal

pub loop-lit-preserved : goal.loop-lit-preserved
loop-lit-preserved c =
    let i = c.loop-lit.lit-index in
    record {
      gathered = subst (λ (ls : List Lit). AreGathered c.args.sign c.args.once.now.items ls c.add_unmarked.new.marks c.add_unmarked.new.once.items) (sym (take_more c.args.clause.now i past_lit c.loop-lit-test.true))
          (c.in_ok-add_unmarked.ensures.added c.args.once.now.items (take i c.args.clause.now) c.loop-lit.invariant.gathered);
      room = c.in_ok-add_unmarked.ensures.room ∙ c.loop-lit.invariant.room;
    }

pub returns-clause-added : goal.returns-clause-added
returns-clause-added c =
    subst (λ (ls : List Lit). AreAdded c.args.sign ls c.args.once.now.items c.loop-lit.once.items) (take_all c.loop-lit.lit-index c.args.clause.now c.loop-lit-test.false) c.loop-lit.invariant.gathered.added
