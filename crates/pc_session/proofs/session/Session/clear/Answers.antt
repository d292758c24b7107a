use Rattle.std.proofs.Common.{sym}
use Rattle.pc_sheet.specs.WellFormed.{is_of_cell}
use Rattle.pc_books.specs.Edits.{without_cell}
use Rattle.pc_session.specs.inside.States.{viewed}
use Rattle.pc_session.proofs.TakenEntries.{has_not_none, of_that_cell}
use Rattle.pc_session.proofs.SeenEdits.{edit_seen, removal_seen, IsSeenEdit, IsSeenRemoval}
use Rattle.pc_session.proofs.Viewing.{kept_after}
use Rattle.pc_session.proofs.session.Session.clear.Goals as goal

pub remove-requires-clause-taken : goal.remove-requires-clause-taken
remove-requires-clause-taken c =
    let o = c.self.inside.state in
    (c.clearing_edits.ensures o.book c.args.cell).takes

pub invariant_of-self : goal.invariant_of-self
invariant_of-self c = kept_after c.remove.result c.self.inside.state c.remove.new.state c.remove.ensures.left (λ left. left.state) c.remove.ensures.chosen c.remove.ensures.kept c.self.invariant

-- what every edit of a cell's entries says
said : (c : goal.After-remove) → IsSeenEdit c.remove.result c.args.cell (is_of_cell c.args.cell) c.args.self.now (viewed c.self.inside.budget c.remove.new.state)
said c =
    edit_seen c.remove.result c.args.cell (is_of_cell c.args.cell) c.self.inside.budget c.self.inside.state c.remove.new.state c.args.self.now c.self.view_is c.remove.ensures.theory c.remove.ensures.left c.remove.ensures.kept

pub returns-clause-unchanged : goal.returns-clause-unchanged
returns-clause-unchanged c = (said c).unchanged

pub returns-clause-parts : goal.returns-clause-parts
returns-clause-parts c = (said c).parts

pub returns-clause-budget : goal.returns-clause-budget
returns-clause-budget c = (said c).budget

-- what every removal says
gone : (c : goal.After-remove) → IsSeenRemoval c.remove.result c.args.cell (is_of_cell c.args.cell) (λ s. without_cell s c.args.cell) c.args.self.now (viewed c.self.inside.budget c.remove.new.state)
gone c =
    let o = c.self.inside.state in
    removal_seen c.remove.result c.args.cell (is_of_cell c.args.cell) (λ s. without_cell s c.args.cell) c.self.inside.budget o c.remove.new.state c.args.self.now c.self.view_is c.self.invariant.state (sym (c.clearing_edits.ensures o.book c.args.cell).clears)
    c.remove.ensures.book c.remove.ensures.refused c.remove.ensures.none c.remove.ensures.unused c.remove.ensures.spends

pub returns-clause-refused : goal.returns-clause-refused
returns-clause-refused c = (gone c).refused

pub returns-clause-sheet : goal.returns-clause-sheet
returns-clause-sheet c = (gone c).sheet

pub returns-clause-spends : goal.returns-clause-spends
returns-clause-spends c = (gone c).spends

pub returns-clause-no_entry : goal.returns-clause-no_entry
returns-clause-no_entry c = (gone c).none

pub returns-clause-unused : goal.returns-clause-unused
returns-clause-unused c f there of_cell = (gone c).unused (has_not_none (is_of_cell c.args.cell) c.args.self.now.sheet.entries f there (of_that_cell c.args.cell f of_cell))

pub returns-clause-spare : goal.returns-clause-spare
returns-clause-spare c f there of_cell = (gone c).spare (has_not_none (is_of_cell c.args.cell) c.args.self.now.sheet.entries f there (of_that_cell c.args.cell f of_cell))

pub returns-clause-stays : goal.returns-clause-stays
returns-clause-stays c = (said c).stays

pub returns-clause-others : goal.returns-clause-others
returns-clause-others c = (said c).others

pub returns-clause-steps : goal.returns-clause-steps
returns-clause-steps c = (said c).steps

pub returns-clause-arena : goal.returns-clause-arena
returns-clause-arena c = (said c).arena

pub returns-clause-bytes : goal.returns-clause-bytes
returns-clause-bytes c = (said c).bytes
