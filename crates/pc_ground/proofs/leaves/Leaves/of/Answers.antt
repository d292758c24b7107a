use Rattle.std.proofs.Common.{subst, sym}
use Rattle.pc_logic.specs.Asking.{AsksAtMost}
use Rattle.pc_logic.specs.AtomView.{reading_of}
use Rattle.pc_logic.proofs.WeightLemmas.{after_none}
use Rattle.pc_ground.proofs.leaves.Leaves.of.Goals as goal

pub add_leaves-requires-clause-left : goal.add_leaves-requires-clause-left
add_leaves-requires-clause-left c =
    subst (λ r. AsksAtMost r 16) (sym (after_none (reading_of c.new-reader.result))) (subst (λ a. AsksAtMost (reading_of a) 16) (sym c.new-reader.ensures) c.requires)
