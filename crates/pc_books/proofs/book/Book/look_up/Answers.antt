use Rattle.std.proofs.Common.{◌↔◌, ◌∙◌, IsNone, Contains, ap, subst}
use Rattle.pc_sheet.specs.Sheet.{Universe, Sheet}
use Rattle.pc_sheet.specs.WellSorted.{declared_names}
use Rattle.pc_books.proofs.book.Book.look_up.Goals as goal

pub returns-clause-undeclared : goal.returns-clause-undeclared
returns-clause-undeclared c =
    let same = c.deref.ensures ∙ ap (λ (s : Sheet). s.universe) c.self.view_is in
    subst (λ (u : Universe). IsNone c.look_up.result ↔ ¬ Contains (declared_names u) c.args.name.now) same c.look_up.ensures.undeclared
