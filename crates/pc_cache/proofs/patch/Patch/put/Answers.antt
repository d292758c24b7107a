use Rattle.std.proofs.Common.{ap, ◌∙◌}
use Rattle.std.proofs.lemmas.Result.{err_from_is_err_and}
use Rattle.pc_log.specs.Sparse.{picked}
use Rattle.pc_cache.specs.Patches.{PatchView}
use Rattle.pc_cache.specs.inside.Kept.{block_at}
use Rattle.pc_cache.proofs.BlockLemmas.{rested_within}
use Rattle.pc_cache.proofs.LastLemmas.{share_same}
use Rattle.pc_cache.proofs.PatchLemmas.{put_alone, put_partly, row_grown, row_is, row_trimmed, same_rows, share_view}
use Rattle.pc_cache.proofs.SlotLemmas.{put_row}
use Rattle.pc_cache.proofs.patch.Patch.put.Goals as goal

pub of-requires : goal.of-requires
of-requires c = rw c.deref.ensures.value c.in_ok-list.ensures.rise

pub share-requires : goal.share-requires
share-requires c = rw c.deref-2.ensures.value (rested_within c.args.log.now c.args.last.0 c.in_ok-list.list.items c.requires c.in_ok-list.ensures)

pub invariant_of-self-in_err-block : goal.invariant_of-self-in_err-block
invariant_of-self-in_err-block c = rw c.in_ok-reserve.ensures.items (put_partly c.self.inside.whole c.self.inside.blocks.items c.share.new.blocks.items c.self.inside.slots.items c.self.invariant c.share.ensures.keeps)

pub returns-in_err-block-clause-err : goal.returns-in_err-block-clause-err
returns-in_err-block-clause-err c =
    let p = err_from_is_err_and c.from_residual-in_err-block.result c.from_residual-in_err-block.ensures.1 in
    rw (p.1, c.in_ok-reserve.ensures.items) (same_rows c.self.inside.whole c.self.inside.blocks.items c.share.new.blocks.items c.self.inside.slots.items c.args.self.now.rows c.self.invariant c.share.ensures.keeps (ap (λ (p : PatchView). p.rows) c.self.view_is))

pub invariant_of-self-2 : goal.invariant_of-self-2
invariant_of-self-2 c =
    let places = c.in_ok-places.ensures ∙ c.deref.ensures.value in
    rw (c.in_ok-push.ensures.items, c.in_ok-reserve.ensures.items)
    (put_alone c.self.inside.whole c.self.inside.blocks.items c.share.new.blocks.items c.self.inside.slots.items _ c.self.invariant c.in_ok-block.ensures.keeps
    (row_is c.args.log.now c.args.last.0 c.in_ok-list.list.items c.deref-2.result.now c.in_ok-places.places c.self.inside.blocks.items c.share.new.blocks.items c.in_ok-block.block c.requires c.in_ok-list.ensures c.deref-2.ensures.value places c.in_ok-block.ensures.within c.in_ok-block.ensures.stand c.in_ok-block.ensures.bytes)
    (row_grown c.args.log.now c.args.last.0 c.in_ok-list.list.items c.deref-2.result.now c.in_ok-places.places c.self.inside.blocks.items c.share.new.blocks.items c.in_ok-block.block c.requires c.in_ok-list.ensures c.deref-2.ensures.value places c.in_ok-block.ensures.within c.in_ok-block.ensures.stand c.in_ok-block.ensures.bytes))

pub returns-clause-ok : goal.returns-clause-ok
returns-clause-ok c =
    let places = c.in_ok-places.ensures ∙ c.deref.ensures.value in (
      picked (block_at c.share.new.blocks.items c.in_ok-block.block) c.in_ok-places.places,
      row_trimmed c.args.log.now c.args.last.0 c.in_ok-list.list.items c.deref-2.result.now c.in_ok-places.places c.self.inside.blocks.items c.share.new.blocks.items c.in_ok-block.block c.requires c.in_ok-list.ensures c.deref-2.ensures.value places c.in_ok-block.ensures.within c.in_ok-block.ensures.stand c.in_ok-block.ensures.bytes,
      rw (c.in_ok-push.ensures.items, c.in_ok-reserve.ensures.items, ← c.self.view_is, ← c.in_ok-support.ensures.items, ← c.in_ok-shown.ensures)
          (put_row c.self.inside.blocks.items c.share.new.blocks.items c.self.inside.slots.items _ c.in_ok-block.ensures.keeps c.self.invariant.are
          (row_is c.args.log.now c.args.last.0 c.in_ok-list.list.items c.deref-2.result.now c.in_ok-places.places c.self.inside.blocks.items c.share.new.blocks.items c.in_ok-block.block c.requires c.in_ok-list.ensures c.deref-2.ensures.value places c.in_ok-block.ensures.within c.in_ok-block.ensures.stand c.in_ok-block.ensures.bytes)).1,
    )

pub returns-in_err-block-clause-shares : goal.returns-in_err-block-clause-shares
returns-in_err-block-clause-shares c = share_view c.args.self.now c.self.inside.blocks.items c.share.new.blocks.items c.self.inside.slots.items c.self.inside.slots.items c.args.log.now c.self.view_is c.share.ensures.shares

pub returns-clause-shares : goal.returns-clause-shares
returns-clause-shares c = share_view c.args.self.now c.self.inside.blocks.items c.share.new.blocks.items c.self.inside.slots.items c.self.inside.slots.items c.args.log.now c.self.view_is c.in_ok-block.ensures.shares

pub returns-in_err-shown-clause-shares : goal.returns-in_err-shown-clause-shares
returns-in_err-shown-clause-shares c =
    share_view c.args.self.now c.self.inside.blocks.items c.self.inside.blocks.items c.self.inside.slots.items c.self.inside.slots.items c.args.log.now c.self.view_is (share_same c.args.log.now c.self.inside.blocks.items)

pub returns-in_err-reserve-clause-shares : goal.returns-in_err-reserve-clause-shares
returns-in_err-reserve-clause-shares c =
    share_view c.args.self.now c.self.inside.blocks.items c.self.inside.blocks.items c.self.inside.slots.items c.self.inside.slots.items c.args.log.now c.self.view_is (share_same c.args.log.now c.self.inside.blocks.items)

pub returns-in_err-list-clause-shares : goal.returns-in_err-list-clause-shares
returns-in_err-list-clause-shares c =
    share_view c.args.self.now c.self.inside.blocks.items c.self.inside.blocks.items c.self.inside.slots.items c.self.inside.slots.items c.args.log.now c.self.view_is (share_same c.args.log.now c.self.inside.blocks.items)

pub returns-in_err-places-clause-shares : goal.returns-in_err-places-clause-shares
returns-in_err-places-clause-shares c =
    share_view c.args.self.now c.self.inside.blocks.items c.self.inside.blocks.items c.self.inside.slots.items c.self.inside.slots.items c.args.log.now c.self.view_is (share_same c.args.log.now c.self.inside.blocks.items)
