use Rattle.std.proofs.Common.{List, subst, ◌∙◌}
use Rattle.pc_sheet.specs.declared.nodes.NodePath.{NodePath}
use Rattle.pc_axiom_names.specs.Keeping.{ArePaths}
use Rattle.pc_axiom_names.proofs.Fewer.{names_copied, within_copied}
use Rattle.pc_axiom_names.proofs.Rising.{places_copied}
use Rattle.pc_axiom_names.proofs.names.Names.copy.Goals as goal

pub invariant_of-result : goal.invariant_of-result
invariant_of-result c =
    let own = c.self.inside in
    let P : List NodePath → Type 0 = λ ps. ArePaths ps c.in_ok-paths.paths.items in
    let same_vs = c.in_ok-variables.ensures.items ∙ c.deref-2.ensures.value in
    let same_xs = c.in_ok-axioms.ensures.items ∙ c.deref-3.ensures.value in (
      within_copied own.paths.items c.in_ok-paths.paths.items own.reads c.in_ok-reads.reads own.variables.items c.in_ok-variables.variables.items own.axioms.items c.in_ok-axioms.axioms.items
          (subst P c.deref.ensures.value c.in_ok-paths.ensures) c.in_ok-reads.ensures same_vs same_xs c.self.invariant.0,
      places_copied own.variables.items c.in_ok-variables.variables.items own.axioms.items c.in_ok-axioms.axioms.items same_vs same_xs c.self.invariant.1,
    )

pub returns : goal.returns
returns c =
    let own = c.self.inside in
    let P : List NodePath → Type 0 = λ ps. ArePaths ps c.in_ok-paths.paths.items in
    names_copied own.paths.items c.in_ok-paths.paths.items own.reads c.in_ok-reads.reads own.variables.items c.in_ok-variables.variables.items own.axioms.items c.in_ok-axioms.axioms.items c.args.self.now
    (subst P c.deref.ensures.value c.in_ok-paths.ensures) c.in_ok-reads.ensures (c.in_ok-variables.ensures.items ∙ c.deref-2.ensures.value) (c.in_ok-axioms.ensures.items ∙ c.deref-3.ensures.value) c.self.view_is
