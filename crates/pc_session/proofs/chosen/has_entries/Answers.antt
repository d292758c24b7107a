use Rattle.std.proofs.Common.{List, get_or, inl, inr, arith, ap, sym, ◌∙◌}
use Rattle.std.proofs.lemmas.Bool.{cases_lt}
use Rattle.std.proofs.lemmas.List.{get_or_default}
use Rattle.std.proofs.lemmas.List.Elements.{Contains-get_or}
use Rattle.pc_sheet.specs.declared.ids.Entry.{Entry}
use Rattle.pc_parts.specs.PartSheets.{is_on, entries_on}
use Rattle.pc_parts.specs.Unions.{are_some}
use Rattle.pc_session.proofs.Choosing.{none_kept, some_kept}
use Rattle.pc_session.proofs.chosen.has_entries.Goals as goal

pub returns-then-is_on : goal.returns-then-is_on
returns-then-is_on c p at =
    let es = c.entries-entries.result.now in
    let blank : Entry = record { cell = record { 0 = 0 }; value = record { 0 = 0 } } in
    sym (some_kept (is_on p.cells) es (get_or es c.loop-entry.entry-index blank) (Contains-get_or es c.loop-entry.entry-index blank c.loop-entry-test.true) (sym (c.is_on.ensures p at) ∙ c.if-is_on.true))
    ∙ ap (λ (xs : List Entry). are_some (entries_on p.cells xs)) c.entries-entries.ensures.items

pub loop-entry-preserved : goal.loop-entry-preserved
loop-entry-preserved c p at k d below =
    let es = c.entries-entries.result.now in
    let i = c.loop-entry.entry-index in
    let blank : Entry = record { cell = record { 0 = 0 }; value = record { 0 = 0 } } in
    elim (cases_lt k i) [
      | inl less ↦ c.loop-entry.invariant p at k d less
      | inr here ↦ ap (λ n. is_on p.cells (get_or es n d)) (omega (arith, below, here)) ∙ (ap (is_on p.cells) (get_or_default es i d blank c.loop-entry-test.true) ∙ (sym (c.is_on.ensures p at) ∙ c.if-is_on.false))
    ]

pub returns : goal.returns
returns c p at =
    sym (none_kept (is_on p.cells) c.entries-entries.result.now (λ k d below. c.loop-entry.invariant p at k d (omega (arith, below, c.loop-entry-test.false))))
    ∙ ap (λ (xs : List Entry). are_some (entries_on p.cells xs)) c.entries-entries.ensures.items
