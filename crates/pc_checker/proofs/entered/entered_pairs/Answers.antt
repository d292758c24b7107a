use Rattle.std.proofs.Common.{All, length, ap, sym, subst, arith}
use Rattle.pc_sheet.specs.WellFormed.{IsEntryOf}
use Rattle.pc_checker.proofs.EnteredLemmas.{entries_have_places}
use Rattle.pc_checker.proofs.entered.entered_pairs.Goals as goal

pub mark_pairs-requires-clause-within : goal.mark_pairs-requires-clause-within
mark_pairs-requires-clause-within c =
    let u = c.args.book.now.universe in
    entries_have_places u c.deref_mut.result.now c.entries.result.now c.well_formed-2.ensures.universe (omega (arith, ap length c.deref_mut.ensures.value, c.in_ok-marks.ensures.len, c.cells.ensures.exact))
    (subst (All (IsEntryOf u)) (sym c.entries.ensures.items) c.well_formed-2.ensures.entries.each)
