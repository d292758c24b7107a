use Rattle.std.proofs.Common.{subst, sym, not}
use Rattle.std.specs.Rc.{rc_value}
use Rattle.pc_sheet.specs.WellFormed.{AreWellFormedEntries}
use Rattle.pc_books.specs.BookView.{sheet_of}
use Rattle.pc_books.specs.Edits.{is_same_entry}
use Rattle.pc_books.proofs.BookLemmas.{with_entries}
use Rattle.pc_books.proofs.EntryLemmas.{entries_kept}
use Rattle.pc_books.proofs.book.Book.remove_entry.Goals as goal

pub invariant_of-self : goal.invariant_of-self
invariant_of-self c =
    let b = c.self.inside in
    let u = rc_value b.declared in
    let left = entries_kept u (λ f. not (is_same_entry c.args.entry f)) b.entries.items c.self.invariant.well_formed.entries in
    record {
      well_formed = with_entries (sheet_of b) c.remove.new.entries.items c.self.invariant.well_formed (subst (AreWellFormedEntries u) (sym c.remove.ensures) left);
    }
