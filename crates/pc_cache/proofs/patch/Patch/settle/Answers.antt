use Rattle.pc_cache.proofs.PatchLemmas.{settle_alone, settled_view}
use Rattle.pc_cache.proofs.patch.Patch.settle.Goals as goal

pub invariant_of-self-2 : goal.invariant_of-self-2
invariant_of-self-2 c =
    settle_alone c.self.inside.whole c.self.inside.blocks.items c.begin_block.new.blocks.items c.self.inside.slots.items c.self.invariant c.in_ok-begin_block.ensures.keeps c.in_ok-begin_block.ensures.bytes

pub returns-clause-ok : goal.returns-clause-ok
returns-clause-ok c =
    settled_view c.args.self.now c.self.inside.whole c.self.inside.blocks.items c.begin_block.new.blocks.items c.self.inside.slots.items c.self.view_is c.self.invariant c.in_ok-begin_block.ensures.keeps c.in_ok-begin_block.ensures.last
    c.in_ok-begin_block.ensures.settled
