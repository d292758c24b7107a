use Rattle.std.proofs.Common.{subst, sym}
use Rattle.pc_sheet.specs.Sheet.{Sheet}
use Rattle.pc_sheet.specs.WellFormed.{IsWellFormed}
use Rattle.pc_books.specs.Edits.{without_rule}
use Rattle.pc_books.proofs.EditLemmas.{sheet_stays}
use Rattle.pc_books.proofs.book.Book.without_rule.Goals as goal

pub remove_rule-requires-clause-formed : goal.remove_rule-requires-clause-formed
remove_rule-requires-clause-formed c =
    subst (λ (s : Sheet). IsWellFormed (without_rule s c.args.place)) (sym c.in_ok-book.ensures)
    (sheet_stays c.args.self.now c.args.place c.requires c.well_formed-2.ensures)
