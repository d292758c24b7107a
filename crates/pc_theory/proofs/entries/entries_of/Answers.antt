use Rattle.std.proofs.Common.{◌≡◌, ◌<◌, arith, ap, length, filter, All, List, sym, ◌∙◌, subst}
use Rattle.std.proofs.lemmas.Result.{IfOk-weaker}
use Rattle.pc_lemmas.proofs.Elements.{all_from}
use Rattle.pc_sheet.specs.WellFormed.{IsEntryOf}
use Rattle.pc_sheet.specs.declared.ids.Entry.{Entry}
use Rattle.pc_theory.specs.inside.PartTasks.{AreEntriesOf, has_number}
use Rattle.pc_theory.proofs.Lists.{all_in, few_filtered}
use Rattle.pc_theory.proofs.OwnParts.{cell_of, entries_here}
use Rattle.pc_theory.proofs.entries.entries_of.Goals as goal

pub numbered-requires : goal.numbered-requires
numbered-requires c =
    let sheet = c.args.book.now in
    let all = subst (λ (es : List Entry). All (IsEntryOf sheet.universe) es) (sym c.entries.ensures.items) c.entries.ensures.well_formed.entries.each in
    all_from (λ (e : Entry). e.cell.0 < length c.args.components.now.numbers) c.entries.result.now
    (λ e has. omega (arith, cell_of sheet.universe e (all_in (IsEntryOf sheet.universe) c.entries.result.now e all has), c.requires.parts.many_numbers))

pub returns : goal.returns
returns c =
    let sheet = c.args.book.now in
    let kept = c.args.components.now in
    let number = c.args.number in
    let test = has_number kept.numbers number in
    IfOk-weaker c.numbered.result (λ es. es.items ≡ filter test c.entries.result.now) (λ es. AreEntriesOf sheet kept number es.items)
    (λ es is.
    let all : es.items ≡ filter test sheet.entries = is ∙ ap (filter test) c.entries.ensures.items in
    record {
      on = λ cells at. all ∙ entries_here sheet kept c.requires.parts c.requires.division number cells at sheet.entries c.entries.ensures.well_formed.entries.each;
      few = omega (arith, ap length all, few_filtered test sheet.entries, c.few_entries.ensures);
    })
    c.numbered.ensures
