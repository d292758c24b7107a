use Rattle.std.proofs.Common.{arith}
use Rattle.pc_spreadsheet.specs.Commands.{state_of}
use Rattle.pc_spreadsheet.proofs.Questions.{no_budget, budgeted}
use Rattle.pc_spreadsheet.proofs.commands.set_budget.Goals as goal
use Rattle.pc_spreadsheet.proofs.commands.set_budget.Goals.{then-number-lt1-via-then-number-lt1, then-number-lt1-via-else-number-lt1+then-number-gt-MOST_BUDGET}

pub returns-then-number-lt1 : goal.returns-then-number-lt1
returns-then-number-lt1 c = λ notes. no_budget (state_of c.args.session.now, notes) c.args.number (λ within. elim c.then-number-lt1.branch [
  | then-number-lt1-via-then-number-lt1 w ↦ absurd (omega (arith, within.0, w.if-number-lt1.true))
  | then-number-lt1-via-else-number-lt1+then-number-gt-MOST_BUDGET w ↦ absurd (omega (arith, within.1, w.if-number-gt-MOST_BUDGET.true))
])

pub returns : goal.returns
returns c = λ notes. budgeted c.args.session.now c.set_budget.new.self notes c.args.number c.set_budget.ensures (omega (arith, c.if-number-lt1.false), omega (arith, c.if-number-gt-MOST_BUDGET.false))
