use Rattle.std.proofs.Common.{ap, sym, ◌∙◌, List}
use Rattle.std.specs.List.{list_any}
use Rattle.pc_cache.specs.Rows.{Cached}
use Rattle.pc_cache.specs.inside.Kept.{slot_rests_on}
use Rattle.pc_cache.specs.declared.row.Slot.{Slot}
use Rattle.pc_cache.proofs.SlotLemmas.{used_somewhere, used_by}
use Rattle.pc_cache.proofs.cache.Cache.uses.Goals as goal

pub returns : goal.returns
returns c =
    let are = ap (λ (r : Cached). r.rows) c.self.view_is in
    let answer = c.is_used.ensures ∙ ap (λ (ss : List Slot). list_any (slot_rests_on c.args.entry) ss) c.deref.ensures.value in (
      λ is. used_somewhere c.self.inside.blocks.items c.self.inside.starts.items c.args.entry c.self.inside.slots.items c.args.self.now.rows c.self.invariant.1.placed are (sym answer ∙ is),
      λ some. answer ∙ used_by c.self.inside.blocks.items c.self.inside.starts.items c.args.entry c.self.inside.slots.items c.args.self.now.rows some.0 c.self.invariant.1.placed are some.1,
    )
