use Rattle.std.proofs.Common.{◌≡◌, ℕ, List, length, ap, sym, ◌∙◌, arith}
use Rattle.std.proofs.lemmas.List.{with_items_is}
use Rattle.pc_cache.specs.Patches.{PatchView, patch_bytes}
use Rattle.pc_cache.specs.Rows.{Cached, live_after}
use Rattle.pc_cache.specs.inside.Kept.{bytes_of_blocks, rows_in, with_slots}
use Rattle.pc_cache.specs.declared.row.Slot.{Slot}
use Rattle.pc_cache.proofs.BlockLemmas.{applied_bytes}
use Rattle.pc_cache.proofs.LastLemmas.{all_bytes}
use Rattle.pc_cache.proofs.SlotLemmas.{kept_after, rows_after, targets_after, have_slots_by}
use Rattle.pc_cache.proofs.cache.Cache.apply.Goals as goal

pub put_slots-requires-clause-have : goal.put_slots-requires-clause-have
put_slots-requires-clause-have c =
    let changes = with_items_is c.patch.inside.slots c.take_blocks.new.slots (c.take_blocks.auto.slots ∙ ap length c.deref_mut.ensures.value ∙ sym c.patch.inside.slots.ok.0) in
    rw (changes, c.deref_mut-2.ensures.value)
    (have_slots_by c.self.inside.blocks.items c.take_blocks.new.into.items c.self.inside.slots.items c.take_blocks.new.slots c.args.self.now.rows c.args.patch.rows (ap (λ (r : Cached). r.rows) c.self.view_is)
    (c.in_ok-take_blocks.ensures.taken.same ∙ ap (rows_in c.patch.inside.blocks.items) c.deref_mut.ensures.value ∙ (ap (λ (p : PatchView). p.rows) c.patch.view_is)) c.requires)

pub put_slots-requires-clause-few : goal.put_slots-requires-clause-few
put_slots-requires-clause-few c = rw c.deref_mut-2.ensures.value c.self.invariant.1.few

pub put_slots-requires-clause-counted : goal.put_slots-requires-clause-counted
put_slots-requires-clause-counted c = rw c.deref_mut-2.ensures.value c.self.invariant.2

pub invariant_of-self-2 : goal.invariant_of-self-2
invariant_of-self-2 c =
    let changes = with_items_is c.patch.inside.slots c.take_blocks.new.slots (c.take_blocks.auto.slots ∙ ap length c.deref_mut.ensures.value ∙ sym c.patch.inside.slots.ok.0) in
    let put : c.put_slots.new.slots ≡ with_slots c.self.inside.slots.items c.take_blocks.new.slots =
    c.put_slots.ensures.put ∙ ap (with_slots c.deref_mut-2.result.now) changes ∙ ap (λ (ss : List Slot). with_slots ss c.take_blocks.new.slots) c.deref_mut-2.ensures.value in
    let same = with_items_is c.self.inside.slots c.put_slots.new.slots (c.put_slots.auto.slots ∙ ap length c.deref_mut-2.ensures.value ∙ sym c.self.inside.slots.ok.0) in
    let keeps = c.in_ok-take_blocks.ensures.taken.keeps in
    (omega (arith, c.in_ok-bytes.ensures, c.blocks_bytes.ensures, ap bytes_of_blocks c.deref.ensures.value, c.self.invariant.0, c.in_ok-take_blocks.ensures.taken.bytes), rw same (kept_after c.self.inside.blocks.items c.take_blocks.new.into.items c.self.inside.starts.items c.self.inside.slots.items c.take_blocks.new.slots c.put_slots.new.slots c.self.invariant.1 keeps c.in_ok-take_blocks.ensures.taken.are put), rw same c.put_slots.ensures.counted)

pub returns : goal.returns
returns c =
    let now : c.in_ok-bytes.bytes ≡ bytes_of_blocks c.take_blocks.new.into.items = omega (arith, c.in_ok-bytes.ensures, c.blocks_bytes.ensures, ap bytes_of_blocks c.deref.ensures.value, c.self.invariant.0, c.in_ok-take_blocks.ensures.taken.bytes) in
    let changes = with_items_is c.patch.inside.slots c.take_blocks.new.slots (c.take_blocks.auto.slots ∙ ap length c.deref_mut.ensures.value ∙ sym c.patch.inside.slots.ok.0) in
    let put : c.put_slots.new.slots ≡ with_slots c.self.inside.slots.items c.take_blocks.new.slots =
    c.put_slots.ensures.put ∙ ap (with_slots c.deref_mut-2.result.now) changes ∙ ap (λ (ss : List Slot). with_slots ss c.take_blocks.new.slots) c.deref_mut-2.ensures.value in
    let same = with_items_is c.self.inside.slots c.put_slots.new.slots (c.put_slots.auto.slots ∙ ap length c.deref_mut-2.ensures.value ∙ sym c.self.inside.slots.ok.0) in
    let keeps = c.in_ok-take_blocks.ensures.taken.keeps in
    rw same (record {
      rows = rows_after c.self.inside.blocks.items c.take_blocks.new.into.items c.self.inside.starts.items c.self.inside.slots.items c.take_blocks.new.slots c.put_slots.new.slots c.args.self.now.rows c.args.patch.rows
          c.self.invariant.1 keeps put (ap (λ (r : Cached). r.rows) c.self.view_is)
          (c.in_ok-take_blocks.ensures.taken.same ∙ ap (rows_in c.patch.inside.blocks.items) c.deref_mut.ensures.value ∙ (ap (λ (p : PatchView). p.rows) c.patch.view_is)) c.requires;
      targets = targets_after c.self.inside.blocks.items c.take_blocks.new.into.items c.self.inside.slots.items c.take_blocks.new.slots c.put_slots.new.slots c.args.self.now.rows put (ap (λ (r : Cached). r.rows) c.self.view_is);
      bytes = applied_bytes c.self.inside.blocks.items c.patch.inside.blocks.items c.take_blocks.new.into.items c.patch.inside.slots.items c.args.patch.rows c.args.self.now.bytes c.in_ok-take_blocks.ensures.taken.bytes (c.patch.invariant.alone c.if-not-patch.false) (ap (λ (p : PatchView). p.rows) c.patch.view_is) (ap (λ (r : Cached). r.bytes) c.self.view_is);
      exact = omega (arith, c.in_ok-take_blocks.ensures.taken.bytes, all_bytes c.patch.inside.blocks.items, ap patch_bytes c.patch.view_is, ap (λ (r : Cached). r.bytes) c.self.view_is);
      live = c.live_then-live.ensures ∙ ap (λ (n : ℕ). live_after n c.self.inside.live c.in_ok-bytes.bytes) (c.self.invariant.0 ∙ ap (λ (r : Cached). r.bytes) c.self.view_is)
          ∙ ap (λ (n : ℕ). live_after c.args.self.now.bytes n c.in_ok-bytes.bytes) (ap (λ (r : Cached). r.live) c.self.view_is)
          ∙ ap (live_after c.args.self.now.bytes c.args.self.now.live) now;
      err = tt;
    })
