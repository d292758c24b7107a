use Rattle.std.proofs.Common.{◌≡◌, List, Option, ap, arith, sym, ◌∙◌}
use Rattle.pc_log.specs.Lines.{LogLine}
use Rattle.pc_cache.specs.Rows.{Cached}
use Rattle.pc_cache.specs.inside.Kept.{bytes_of_blocks}
use Rattle.pc_cache.specs.inside.Spare.{spare_in}
use Rattle.pc_cache.specs.declared.row.Slot.{Slot}
use Rattle.pc_cache.proofs.RestedLemmas.{rested_kept, rested_rows, rested_bytes}
use Rattle.pc_cache.proofs.cache.Cache.compact.Goals as goal

pub rested-requires : goal.rested-requires
rested-requires c = rw (c.deref.ensures.value, c.deref-2.ensures.value) c.self.invariant.1.rows

pub invariant_of-self : goal.invariant_of-self
invariant_of-self c = (
  c.blocks_bytes-self-inside.ensures ∙ ap bytes_of_blocks c.deref-4.ensures.value,
  rested_kept c.self.inside.blocks.items c.in_ok-kept.kept.items c.self.inside.starts.items c.self.inside.slots.items c.deref-2.result.now c.self.invariant.1 c.deref-2.ensures.value c.in_ok-kept.ensures.are,
  c.self.invariant.2,
)

pub returns-clause-live : goal.returns-clause-live
returns-clause-live c = c.blocks_bytes-self-inside.ensures ∙ ap bytes_of_blocks c.deref-4.ensures.value

pub returns-clause-rows : goal.returns-clause-rows
returns-clause-rows c = rested_rows c.self.inside.blocks.items c.deref.result.now c.in_ok-kept.kept.items c.self.inside.slots.items c.deref-2.result.now c.args.self.now.rows c.deref.ensures.value c.deref-2.ensures.value c.in_ok-kept.ensures.rows (ap (λ (r : Cached). r.rows) c.self.view_is)

pub returns-clause-few : goal.returns-clause-few
returns-clause-few c = rested_bytes c.self.inside.blocks.items c.deref.result.now c.in_ok-kept.kept.items c.self.inside.slots.items c.deref-2.result.now c.args.self.now.rows c.deref.ensures.value c.deref-2.ensures.value c.in_ok-kept.ensures.few (ap (λ (r : Cached). r.rows) c.self.view_is)

pub returns-clause-spare : goal.returns-clause-spare
returns-clause-spare c =
    ap (λ (ss : List Slot). spare_in ss 0 c.in_ok-kept.kept.items) (sym c.deref-2.ensures.value) ∙ c.in_ok-kept.ensures.spare

pub returns-clause-bytes : goal.returns-clause-bytes
returns-clause-bytes c =
    let bytes : bytes_of_blocks c.self.inside.blocks.items ≡ c.args.self.now.bytes = ap (λ (r : Cached). r.bytes) c.self.view_is in
    let spare : spare_in c.self.inside.slots.items 0 c.self.inside.blocks.items ≡ c.args.self.now.spare = ap (λ (r : Cached). r.spare) c.self.view_is in
    let lent : spare_in c.deref-2.result.now 0 c.deref.result.now ≡ spare_in c.self.inside.slots.items 0 c.self.inside.blocks.items =
    ap (λ (ss : List Slot). spare_in ss 0 c.deref.result.now) c.deref-2.ensures.value ∙ ap (λ (bs : List (List (Option LogLine))). spare_in c.self.inside.slots.items 0 bs) c.deref.ensures.value in
    omega (arith, c.in_ok-kept.ensures.bytes, ap bytes_of_blocks c.deref.ensures.value, bytes, spare, lent)
