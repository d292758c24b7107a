use Rattle.std.proofs.Common.{◌≡◌, List, take, get_or, set, false, true, replicate, length, All, rules, ap, sym, ◌∙◌, subst}
use Rattle.std.proofs.lemmas.List.{take_more}
use Rattle.pc_sheet.specs.WellFormed.{IsEntryOf}
use Rattle.pc_sheet.specs.declared.ids.Entry.{Entry}
use Rattle.pc_components.specs.View.{Kept}
use Rattle.pc_theory.specs.Theories.{rules_alone}
use Rattle.pc_theory.proofs.OfWhole.{all_searched}
use Rattle.pc_theory.proofs.Parted.{as_many}
use Rattle.pc_session.specs.inside.Chosen.{AreChosen}
use Rattle.pc_session.proofs.Choosing.{mark_more, none_marked}
use Rattle.pc_theory.proofs.OwnParts.{cell_of}
use Rattle.pc_session.proofs.chosen.marks_of.Goals as goal

pub loop-entry-init : goal.loop-entry-init
loop-entry-init c =
    let book = c.args.book.now in
    let theory = c.args.theory.now in
    let none : c.in_ok-marks.marks.items ≡ replicate c.len.result false = search rules in
    none
    ∙ (ap (λ n. replicate n false) (c.len.ensures ∙ (ap (λ (k : Kept). length k.cells) c.components.ensures ∙ as_many book theory.components (all_searched (rules_alone book) theory.components c.requires.components)))
    ∙ none_marked book theory c.requires)

pub part_of-requires-clause-cell : goal.part_of-requires-clause-cell
part_of-requires-clause-cell c =
    let u = c.args.book.now.universe in
    let blank : Entry = record { cell = record { 0 = 0 }; value = record { 0 = 0 } } in
    cell_of u (get_or c.entries-entries.result.now c.loop-entry.entry-index blank)
    (subst (λ (es : List Entry). All (IsEntryOf u) es) (sym c.entries-entries.ensures.items) c.entries-entries.ensures.well_formed.entries.each c.loop-entry.entry-index blank c.loop-entry-test.true)

pub loop-entry-preserved : goal.loop-entry-preserved
loop-entry-preserved c =
    let book = c.args.book.now in
    let es = c.entries-entries.result.now in
    let i = c.loop-entry.entry-index in
    let h = c.part_of.ensures.has in
    let blank : Entry = record { cell = record { 0 = 0 }; value = record { 0 = 0 } } in
    subst (λ (xs : List Entry). AreChosen (record book { entries = xs }) (set c.loop-entry.marks.items c.part_of.result true)) (sym (take_more es i blank c.loop-entry-test.true))
    (mark_more book c.args.theory.now c.requires (take i es) (get_or es i blank) c.loop-entry.marks.items c.loop-entry.invariant c.part_of.result h.0 h.1 h.2)
