use Rattle.std.proofs.Common.{◌<◌, length, arith, sym, subst}
use Rattle.pc_components.specs.View.{AreComponentsOf}
use Rattle.pc_theory.specs.Theories.{rules_alone, TheoryView}
use Rattle.pc_theory.proofs.OfWhole.{all_searched}
use Rattle.pc_theory.proofs.Parted.{part_with, few_kept, number_within}
use Rattle.pc_theory.proofs.theory.Theory.part_of.Goals as goal

pub of-requires : goal.of-requires
of-requires c =
    let are = all_searched (rules_alone c.args.book.now) _ (subst (λ (v : TheoryView). AreComponentsOf (rules_alone c.args.book.now) v.components) (sym c.self.view_is) c.requires.theory.components) in
    omega (arith, c.requires.cell, are.many_numbers)

pub returns-clause-within : goal.returns-clause-within
returns-clause-within c =
    let are = all_searched (rules_alone c.args.book.now) _ (subst (λ (v : TheoryView). AreComponentsOf (rules_alone c.args.book.now) v.components) (sym c.self.view_is) c.requires.theory.components) in
    let there = part_with c.args.book.now _ are c.args.cell.0 _ c.of.ensures c.requires.cell in
    subst (λ (v : TheoryView). c.of.result < length v.components.cells) c.self.view_is (number_within c.args.book.now _ are _ there.0 there.1)

pub returns-clause-few : goal.returns-clause-few
returns-clause-few c =
    let are = all_searched (rules_alone c.args.book.now) _ (subst (λ (v : TheoryView). AreComponentsOf (rules_alone c.args.book.now) v.components) (sym c.self.view_is) c.requires.theory.components) in
    let there = part_with c.args.book.now _ are c.args.cell.0 _ c.of.ensures c.requires.cell in
    let within = number_within c.args.book.now _ are _ there.0 there.1 in
    omega (arith, within, few_kept c.args.book.now _ are, c.few_cells.ensures)

pub returns-clause-has : goal.returns-clause-has
returns-clause-has c =
    let are = all_searched (rules_alone c.args.book.now) _ (subst (λ (v : TheoryView). AreComponentsOf (rules_alone c.args.book.now) v.components) (sym c.self.view_is) c.requires.theory.components) in
    part_with c.args.book.now _ are c.args.cell.0 _ c.of.ensures c.requires.cell
