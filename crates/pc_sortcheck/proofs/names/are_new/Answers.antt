use Rattle.std.proofs.Common.{arith, rules, refl}
use Rattle.pc_sortcheck.specs.DeclarationFaults.{IsNew}
use Rattle.pc_sortcheck.proofs.Lists.{all_more, all_taken, one_of_all}
use Rattle.pc_sortcheck.proofs.names.are_new.Goals as goal

pub returns-then-not-is_new : goal.returns-then-not-is_new
returns-then-not-is_new c = (
  λ z. absurd (cc),
  λ h.
      let new = one_of_all (IsNew c.args.book.now.universe) c.args.names.now c.loop-name.name-index c.name-item.result c.name-item.result h c.name-item.is c.loop-name-test.true refl in
      let yes = c.is_new.ensures.1 new in
      absurd (search rules),
)

pub loop-name-preserved : goal.loop-name-preserved
loop-name-preserved c =
    all_more (IsNew c.args.book.now.universe) c.args.names.now c.loop-name.name-index c.name-item.result c.name-item.result c.loop-name.invariant c.name-item.is c.loop-name-test.true refl
    (c.is_new.ensures.0 (search rules))

pub returns : goal.returns
returns c = (λ z. all_taken (IsNew c.args.book.now.universe) c.args.names.now c.loop-name.name-index (omega arith) c.loop-name.invariant, λ h. search rules)
