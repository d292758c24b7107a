-- A state whose ground is lent away.
use Rattle.std.proofs.Common.{◌≡◌, ap, sym, subst}
use Rattle.pc_sheet.specs.Sheet.{Sheet}
use Rattle.pc_parts.specs.Components.{parts_of}
use Rattle.pc_ground.specs.Grounded.{no_ground}
use Rattle.pc_components.specs.PartAxioms.{AreAxiomsOf}
use Rattle.pc_components.specs.View.{Kept, AreComponentsOf}
use Rattle.pc_components.proofs.Owned.{zip_wider}
use Rattle.pc_theory.specs.Theories.{rules_alone, TheoryView}
use Rattle.pc_session.specs.inside.Lent.{IsLent}
use Rattle.pc_session.specs.inside.States.{IsKept}
use Rattle.pc_session.specs.declared.state.State.{State}

pub lent_away : (s : State) → IsKept s → (t : TheoryView) → t ≡ record s.theory { ground = no_ground } → IsLent (record s { theory = t })
lent_away s kept t taken =
    let whole : TheoryView → State = λ x. record s { theory = record x { ground = s.theory.ground } } in
    (s.theory.ground, subst IsKept (sym (ap whole taken)) kept)

-- entries are no part of parts
pub parts_known : (sheet : Sheet) (kept : Kept) → AreComponentsOf (rules_alone sheet) kept → AreComponentsOf sheet kept
parts_known sheet kept are = record {
  cells = are.cells;
  axioms = zip_wider (AreAxiomsOf (rules_alone sheet)) (AreAxiomsOf sheet) (parts_of sheet) kept.axioms (λ part used there own. record { exact = own.exact; order = own.order }) are.axioms;
  variables = are.variables;
  many_numbers = are.many_numbers;
  numbers = are.numbers;
  banned = are.banned;
}
