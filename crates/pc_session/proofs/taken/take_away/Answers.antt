use Rattle.std.proofs.Common.{[], List, Contains, ap, sym, ◌∙◌, subst}
use Rattle.pc_justify_laws.specs.Edits.{HasNone, edited}
use Rattle.pc_parts.specs.Parts.{Part}
use Rattle.pc_sheet.specs.Sheet.{Sheet}
use Rattle.pc_sheet.specs.declared.ids.Entry.{Entry}
use Rattle.pc_session.specs.inside.Taken.{takes}
use Rattle.pc_session.proofs.TakenEntries.{edited_none, edited_same, fewer_left, worlds_left}
use Rattle.pc_session.proofs.taken.take_away.Goals as goal

pub loop-entry-smaller : goal.loop-entry-smaller
loop-entry-smaller c =
    let stands = subst (λ (es : List Entry). Contains es c.in-Some.entry) c.entries.ensures.items c.in-Some.ensures.found in
    fewer_left c.loop-entry.book c.remove_entry.new.self c.in-Some.entry stands c.remove_entry.ensures

pub loop-entry-preserved : goal.loop-entry-preserved
loop-entry-preserved c =
    let gone = takes c.args.taken in
    let e = c.in-Some.entry in
    record {
      book = ap (λ (s : Sheet). edited s gone []) c.remove_entry.ensures ∙ (edited_same gone c.loop-entry.book e c.in-Some.ensures.taken ∙ c.loop-entry.invariant.book);
      worlds = λ (p : Part) h. worlds_left c.loop-entry.book c.remove_entry.new.self e p c.loop-entry.worlds c.remove.new.self c.entries.ensures.well_formed c.remove_entry.ensures c.remove.ensures.exact c.remove.ensures.fitting (c.loop-entry.invariant.worlds p h);
    }

pub returns-clause-book : goal.returns-clause-book
returns-clause-book c =
    let gone = takes c.args.taken in
    sym (edited_none gone c.loop-entry.book (subst (HasNone gone) c.entries.ensures.items c.in_default.ensures.none)) ∙ c.loop-entry.invariant.book
