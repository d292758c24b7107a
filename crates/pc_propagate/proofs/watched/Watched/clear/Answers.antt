use Rattle.std.proofs.Common.{◌∙◌, ap, arith, subst, List}
use Rattle.std.specs.List.{Contains}
use Rattle.pc_lits.specs.declared.literal.Lit.{Lit}
use Rattle.pc_propagate.specs.Bodies.{body_in}
use Rattle.pc_propagate.proofs.GoneLemmas.{next_gone, all_gone}
use Rattle.pc_propagate.proofs.watched.Watched.clear.Goals as goal

pub forget_all-requires : goal.forget_all-requires
forget_all-requires c = record {
  in_range = λ l has. omega (
    arith,
    c.loop-number.invariant.gone.size,
    c.self.invariant.in_range c.loop-number.number l (subst (λ (b : List Lit). Contains b l) (c.get.ensures ∙ ap (λ (bs : List (List Lit)). body_in bs c.loop-number.number) c.loop-number.invariant.same) has),
  );
}

pub loop-number-preserved : goal.loop-number-preserved
loop-number-preserved c = record {
  same = c.loop-number.invariant.same;
  gone = next_gone c.self.inside.bodies c.self.inside.lists c.loop-number.self-inside.lists c.forget_all.new.lists c.loop-number.number c.get.result.now c.loop-number.invariant.gone
      (c.get.ensures ∙ ap (λ (bs : List (List Lit)). body_in bs c.loop-number.number) c.loop-number.invariant.same) c.forget_all.ensures.gone;
}

pub invariant_of-self : goal.invariant_of-self
invariant_of-self c = all_gone c.self.inside.bodies c.clear.new.self c.self.inside.lists c.loop-number.self-inside.lists c.loop-number.number c.self.invariant c.loop-number.invariant.gone
    (omega (arith, c.loop-number-test.false, c.len-number-end.ensures)) c.clear.ensures
