use Rattle.std.proofs.Common.{◌≡◌, ◌∙◌, ap, map, sym, subst}
use Rattle.pc_sheet.specs.Sheet.{Sheet}
use Rattle.pc_sheet.specs.WellFormed.{IsWellFormed}
use Rattle.pc_books.proofs.book.Book.copy.Goals as goal

pub invariant_of-result : goal.invariant_of-result
invariant_of-result c =
    let b = c.self.inside in
    let entries : c.in_ok-entries.entries.items ≡ b.entries.items = c.in_ok-entries.ensures.items ∙ c.deref.ensures.value in
    record { well_formed = subst (λ (s : Sheet). IsWellFormed s) (λ i. record { universe = sym c.in_ok-declared.ensures.cases i; rules = sym c.in_ok-rules.ensures i; entries = sym entries i }) c.self.invariant.well_formed }
