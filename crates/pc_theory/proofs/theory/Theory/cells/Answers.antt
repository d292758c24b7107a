use Rattle.std.proofs.Common.{sym, subst}
use Rattle.pc_components.specs.View.{AreComponentsOf}
use Rattle.pc_theory.specs.Theories.{rules_alone, TheoryView}
use Rattle.pc_theory.proofs.OfWhole.{all_searched}
use Rattle.pc_theory.proofs.Parted.{part_is, cells_below}
use Rattle.pc_theory.proofs.theory.Theory.cells.Goals as goal

pub returns-clause-are : goal.returns-clause-are
returns-clause-are c p numbered =
    let are = all_searched (rules_alone c.args.book.now) _ (subst (λ (v : TheoryView). AreComponentsOf (rules_alone c.args.book.now) v.components) (sym c.self.view_is) c.requires.theory.components) in
    part_is c.args.book.now _ are c.args.part _ c.part.ensures.cells p numbered

pub returns-clause-below : goal.returns-clause-below
returns-clause-below c =
    let are = all_searched (rules_alone c.args.book.now) _ (subst (λ (v : TheoryView). AreComponentsOf (rules_alone c.args.book.now) v.components) (sym c.self.view_is) c.requires.theory.components) in
    cells_below c.args.book.now _ are c.args.part _ c.part.ensures.cells
