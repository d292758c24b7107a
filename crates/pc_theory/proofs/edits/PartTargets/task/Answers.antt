use Rattle.std.proofs.Common.{◌≡◌, Some, slice_get, arith, refl, ap, sym, ◌∙◌, subst}
use Rattle.pc_sheet.specs.Entailment.{cell_sizes}
use Rattle.pc_theory.specs.inside.PartTasks.{AreEntriesOf}
use Rattle.pc_theory.specs.Targets.{AreAsked}
use Rattle.pc_theory.specs.Theories.{rules_alone, with_ground, TheoryView, IsTheory}
use Rattle.pc_theory.proofs.Editing.{asked_within, ground_is, problem_right, base_is, few_targets, searched_of, part_of}
use Rattle.pc_theory.proofs.edits.PartTargets.task.Goals as goal

pub part-requires : goal.part-requires
part-requires c =
    let a = c.args in
    let known = subst (λ (v : TheoryView). IsTheory (rules_alone a.self.book.now) v) (sym c.theory.view_is) c.requires.theory in
    let asked = subst (λ (v : TheoryView). AreAsked (cell_sizes a.self.book.now.universe) v.components a.self.part a.self.targets.now) (sym c.theory.view_is) c.requires.asked in
    asked_within a.self.book.now _ known a.self.part a.self.targets.now asked

pub returns : goal.returns
returns c =
    let a = c.args in
    let sheet = a.self.book.now in
    let own = c.part.result in
    let searched = c.kept_parts_are_searched.ensures in
    let formed = c.well_formed-2.ensures in
    let known = subst (λ (v : TheoryView). IsTheory (rules_alone sheet) v) (sym c.theory.view_is) c.requires.theory in
    let asked = subst (λ (v : TheoryView). AreAsked (cell_sizes sheet.universe) v.components a.self.part a.self.targets.now) (sym c.theory.view_is) c.requires.asked in
    let these = subst (λ (v : TheoryView). AreEntriesOf sheet v.searched a.self.part a.entries.now) (sym c.theory.view_is) c.requires.entries in
    let at = c.part.ensures in
    let entries = these.on own.cells.now at.cells in
    record {
      book = refl;
      targets = refl;
      formed = formed;
      known = subst (λ (v : TheoryView). IsTheory (rules_alone sheet) (with_ground c.theory.inside.ground v)) c.theory.view_is known;
      asked = c.requires.asked;
      cells = subst (λ (v : TheoryView). slice_get v.searched.cells a.self.part ≡ Some own.cells.now) c.theory.view_is at.cells;
      axioms = subst (λ (v : TheoryView). slice_get v.searched.axioms a.self.part ≡ Some own.axioms.now) c.theory.view_is at.axioms;
      variables = subst (λ (v : TheoryView). slice_get v.searched.variables a.self.part ≡ Some own.variables.now) c.theory.view_is at.variables;
      banned = at.banned ∙ ap (λ (v : TheoryView). v.searched.banned) c.theory.view_is;
      part = λ p numbered. part_of searched sheet _ formed known a.self.part _ _ _ at.cells at.axioms at.variables _ at.banned p _ numbered entries;
      listable = record {
        searchable = record {
          ground = ground_is searched sheet _ formed known a.self.part _ _ _ at.cells at.axioms at.variables _ at.banned;
          problem = problem_right searched sheet _ formed known a.self.part _ _ _ at.cells at.axioms at.variables _ at.banned;
          few_targets = few_targets searched sheet _ formed known a.self.part _ _ _ at.cells at.axioms at.variables _ at.banned a.self.targets.now asked (omega (arith, c.few_cells.ensures));
          few_entries = these.few;
        };
        base = base_is searched sheet _ formed known a.self.part _ _ _ at.cells at.axioms at.variables _ at.banned;
        entries = entries;
        searched = searched_of searched sheet _ formed known a.self.part _ _ _ at.cells at.axioms at.variables _ at.banned a.self.targets.now asked _ entries;
      };
    }
