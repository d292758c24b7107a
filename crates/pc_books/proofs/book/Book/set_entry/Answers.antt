use Rattle.std.proofs.Common.{subst, sym, ap}
use Rattle.std.specs.Rc.{rc_value}
use Rattle.pc_sheet.specs.WellFormed.{AreWellFormedEntries, IsEntryOf}
use Rattle.pc_books.specs.BookView.{sheet_of}
use Rattle.pc_books.proofs.BookLemmas.{with_entries}
use Rattle.pc_books.proofs.EntryLemmas.{entries_stay}
use Rattle.pc_books.proofs.book.Book.set_entry.Goals as goal

pub invariant_of-self-2 : goal.invariant_of-self-2
invariant_of-self-2 c =
    let b = c.self.inside in
    let u = rc_value b.declared in
    let is = subst (λ v. IsEntryOf v c.args.entry) (sym (ap (λ sheet. sheet.universe) c.self.view_is)) c.requires in
    let stay = entries_stay u b.entries.items c.args.entry c.self.invariant.well_formed.entries is in
    record {
      well_formed = with_entries (sheet_of b) c.enter.new.entries.items c.self.invariant.well_formed (subst (AreWellFormedEntries u) (sym c.in_ok-enter.ensures.ok) stay);
    }
