use Rattle.pc_spreadsheet.specs.Summary.{HasConflict}
use Rattle.pc_spreadsheet.proofs.Counting.{one_of, none_of}
use Rattle.pc_spreadsheet.proofs.summary.conflict.Goals as goal

pub returns-then-is_implied-clause-exact : goal.returns-then-is_implied-clause-exact
returns-then-is_implied-clause-exact c =
    let found = rw c.if-is_implied.true at c.is_implied.ensures in
    one_of (HasConflict c.args.session.now.sheet) c.args.entry (found.0, found.1)

pub returns-else-is_implied-clause-exact : goal.returns-else-is_implied-clause-exact
returns-else-is_implied-clause-exact c =
    let none = rw c.if-is_implied.false at c.is_implied.ensures in
    none_of (HasConflict c.args.session.now.sheet) c.args.entry (λ has. none (has.0, has.1.supports))
