-- A text reads as one sheet, and of a certificate one thing is told in it.
use Rattle.std.proofs.Common.{◌≡◌}
use Rattle.pc_sortcheck.specs.Laws.{SheetsAreWellFormed}
use Rattle.pc_load.specs.Outcome.{reads}
use Rattle.pc_load.specs.Laws.{TextsHaveOneOutcome}
use Rattle.pc_judge.specs.Laws.{JudgementsAreOne}
use Rattle.pc_run_laws.proofs.Deciding.{OneSheet, OneTold}

pub one_sheet : TextsHaveOneOutcome → OneSheet
one_sheet one text x y first second =
    let same : reads x ≡ reads y = one text (reads x) (reads y) first second in
    cc same

pub one_told : SheetsAreWellFormed → JudgementsAreOne → OneTold
one_told well one text sheet reading certificate s t first second = one sheet (well text sheet reading) certificate s t first second
