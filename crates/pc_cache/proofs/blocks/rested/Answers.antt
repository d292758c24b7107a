use Rattle.std.proofs.Common.{subst, sym}
use Rattle.pc_cache.specs.inside.Kept.{IsRowIn}
use Rattle.pc_cache.specs.inside.Rested.{IsRowKept}
use Rattle.pc_cache.specs.declared.row.Slot.{Slot}
use Rattle.pc_cache.proofs.RestedLemmas.{all_kept, none_kept, one_kept}
use Rattle.pc_cache.proofs.SpareLemmas.{kept_bytes, none_spare}
use Rattle.pc_cache.proofs.SlotLemmas.{row_there}
use Rattle.pc_cache.proofs.blocks.rested.Goals as goal

pub loop-slot-init : goal.loop-slot-init
loop-slot-init c = none_kept c.args.blocks.now c.in_ok-kept.kept.items c.args.slots.now c.in_ok-kept.ensures.count c.in_ok-kept.ensures.empty

pub keep_row-requires-clause-is : goal.keep_row-requires-clause-is
keep_row-requires-clause-is c = subst (λ (s : Slot). IsRowIn c.args.blocks.now s.row) (sym c.slot-item.is) (row_there c.args.blocks.now c.args.slots.now c.loop-slot.slot-index c.slot-item.result c.requires c.loop-slot-test.true)

pub loop-slot-preserved : goal.loop-slot-preserved
loop-slot-preserved c =
    one_kept c.args.blocks.now c.loop-slot.kept.items c.keep_row.new.kept.items c.args.slots.now c.loop-slot.slot-index c.slot-item.result c.loop-slot.invariant c.loop-slot-test.true
    (subst (λ (s : Slot). IsRowKept c.args.blocks.now c.loop-slot.kept.items c.keep_row.new.kept.items s.row) c.slot-item.is c.in_ok-keep_row.ensures)

pub returns : goal.returns
returns c =
    let all = all_kept c.args.blocks.now c.loop-slot.kept.items c.args.slots.now c.loop-slot.slot-index c.loop-slot-test.false c.loop-slot.invariant in
    record { are = all.are; rows = all.same; few = all.bytes; bytes = kept_bytes c.args.blocks.now c.loop-slot.kept.items c.args.slots.now all.count all.part all.are all.only; spare = none_spare c.loop-slot.kept.items c.args.slots.now all.only }
