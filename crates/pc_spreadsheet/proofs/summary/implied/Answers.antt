use Rattle.std.proofs.Common.{true}
use Rattle.pc_sheet.specs.Entailment.{IsImplied}
use Rattle.pc_display.proofs.SheetLemmas.{is_target}
use Rattle.pc_spreadsheet.specs.Summary.{that_has}
use Rattle.pc_spreadsheet.proofs.Counting.{one_of, none_of}
use Rattle.pc_spreadsheet.proofs.summary.implied.Goals as goal

pub is_implied-requires : goal.is_implied-requires
is_implied-requires c = is_target c.args.session.now.sheet.universe c.args.cell c.requires.cell c.args.value true c.requires.value

pub returns-then-is_implied-clause-exact : goal.returns-then-is_implied-clause-exact
returns-then-is_implied-clause-exact c =
    let found = rw c.if-is_implied.true at c.is_implied.ensures in
    one_of (IsImplied c.args.session.now.sheet) (that_has c.args.cell c.args.value) (found.0, found.1.supports)

pub returns-else-is_implied-clause-exact : goal.returns-else-is_implied-clause-exact
returns-else-is_implied-clause-exact c =
    let none = rw c.if-is_implied.false at c.is_implied.ensures in
    none_of (IsImplied c.args.session.now.sheet) (that_has c.args.cell c.args.value) none
