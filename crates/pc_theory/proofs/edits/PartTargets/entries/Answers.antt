use Rattle.std.proofs.Common.{IfOk, sym, subst}
use Rattle.pc_theory.specs.inside.PartTasks.{AreEntriesOf}
use Rattle.pc_theory.specs.Theories.{rules_alone, TheoryView, IsTheory}
use Rattle.pc_theory.proofs.Editing.{ready_there}
use Rattle.pc_theory.proofs.edits.PartTargets.entries.Goals as goal

pub entries_of-requires-clause-parts : goal.entries_of-requires-clause-parts
entries_of-requires-clause-parts c =
    let sheet = c.args.self.book.now in
    (ready_there sheet _ c.well_formed-2.ensures (subst (λ (v : TheoryView). IsTheory (rules_alone sheet) v) (sym c.theory.view_is) c.requires)).components

pub entries_of-requires-clause-division : goal.entries_of-requires-clause-division
entries_of-requires-clause-division c = (ready_there c.args.self.book.now c.args.self.theory.now c.well_formed-2.ensures c.requires).division

pub returns : goal.returns
returns c = subst (λ (v : TheoryView). IfOk c.entries_of.result (λ es. AreEntriesOf c.args.self.book.now v.searched c.args.self.part es.items)) c.theory.view_is c.entries_of.ensures
