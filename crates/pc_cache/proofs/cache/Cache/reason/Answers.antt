use Rattle.std.proofs.Common.{List, Option, ap, sym, ◌∙◌, subst}
use Rattle.std.specs.Option.{IfSome}
use Rattle.pc_sheet.specs.declared.ids.Target.{Target}
use Rattle.pc_log.specs.Lines.{LogLine}
use Rattle.pc_cache.specs.Lent.{IsLentFor}
use Rattle.pc_cache.specs.inside.Kept.{kept_or_none}
use Rattle.pc_cache.proofs.SlotLemmas.{row_in_at, row_at, no_row, found_slot}
use Rattle.pc_cache.proofs.cache.Cache.reason.Goals as goal

pub lent-requires : goal.lent-requires
lent-requires c =
    let slots = c.self.inside.slots.items in
    let found = found_slot slots c.in-Some.place c.index.result.now c.args.target (rw c.deref-2.ensures.value at c.in-Some.ensures) c.index.ensures in
    rw c.deref-in-Some.ensures.value (row_in_at c.self.inside.blocks.items slots c.in-Some.place c.index.result.now c.self.invariant.1.rows found.0)

pub returns-in-None-clause-row : goal.returns-in-None-clause-row
returns-in-None-clause-row c = rw (← c.self.view_is) (sym (no_row c.self.inside.blocks.items c.self.inside.slots.items c.args.target (rw c.deref-2.ensures.value at c.in-None.ensures)))

pub returns-in-Some-clause-row : goal.returns-in-Some-clause-row
returns-in-Some-clause-row c =
    let slots = c.self.inside.slots.items in
    let found = found_slot slots c.in-Some.place c.index.result.now c.args.target (rw c.deref-2.ensures.value at c.in-Some.ensures) c.index.ensures in
    rw (← c.self.view_is)
    (c.lent.ensures.row ∙ ap (λ (bs : List (List (Option LogLine))). kept_or_none bs c.index.result.now.row) c.deref-in-Some.ensures.value ∙ sym (row_at c.self.inside.blocks.items c.self.inside.starts.items 0 slots c.in-Some.place c.index.result.now c.args.target c.self.invariant.1.placed found.0 found.1))

pub returns-in-Some-clause-lent : goal.returns-in-Some-clause-lent
returns-in-Some-clause-lent c =
    let slots = c.self.inside.slots.items in
    let found = found_slot slots c.in-Some.place c.index.result.now c.args.target (rw c.deref-2.ensures.value at c.in-Some.ensures) c.index.ensures in
    subst (λ (t : Target). IfSome c.lent.result (IsLentFor c.args.names.now t)) found.1 c.lent.ensures.lent
