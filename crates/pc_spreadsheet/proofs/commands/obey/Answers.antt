use Rattle.std.proofs.Common.{refl}
use Rattle.pc_syntax.specs.Tree.{cell_of, value_of}
use Rattle.pc_spreadsheet.specs.Tasks.{showing, showing_grid, dumping}
use Rattle.pc_spreadsheet.proofs.Proving.{repairs_listed}
use Rattle.pc_spreadsheet.proofs.Questions.{explained_in, shown_json}
use Rattle.pc_spreadsheet.proofs.commands.obey.Goals as goal

pub returns-in-Show : goal.returns-in-Show
returns-in-Show c = rw c.in-Show.is (showing, tt, refl)

pub returns-in-Dump : goal.returns-in-Dump
returns-in-Dump c = rw c.in-Dump.is (dumping, tt, refl)

pub returns-in-Grid : goal.returns-in-Grid
returns-in-Grid c = rw c.in-Grid.is (showing_grid, tt, refl)

pub returns-in-Json : goal.returns-in-Json
returns-in-Json c = rw c.in-Json.is (shown_json c.args.session.now c.args.notes.now c.show_json.result c.show_json.ensures)

pub returns-in-Why : goal.returns-in-Why
returns-in-Why c = rw c.in-Why.is (explained_in c.args.session.now c.args.notes.now c.book.result.now (cell_of c.in-Why.cell) (value_of c.in-Why.value) c.in-Why.holds c.answer_why.result c.book.ensures c.answer_why.ensures)

pub returns-in-Repairs : goal.returns-in-Repairs
returns-in-Repairs c = rw c.in-Repairs.is (repairs_listed c.args.session.now c.args.notes.now c.list_repairs.result c.list_repairs.ensures)

pub returns-in-ProveRepairs : goal.returns-in-ProveRepairs
returns-in-ProveRepairs c = rw c.in-ProveRepairs.is c.prove_repairs.ensures

pub returns-in-WhyNot : goal.returns-in-WhyNot
returns-in-WhyNot c = rw c.in-WhyNot.is c.why_not.ensures

pub returns-in-Ask : goal.returns-in-Ask
returns-in-Ask c = rw c.in-Ask.is c.answer.ensures
