use Rattle.std.proofs.Common.{arith, sym}
use Rattle.std.proofs.lemmas.List.{get_or_past}
use Rattle.pc_sheet.specs.Entailment.{cell_sizes}
use Rattle.pc_books.specs.SchemeView.{universe_of}
use Rattle.pc_books.proofs.BookLemmas.{count_is}
use Rattle.pc_books.proofs.scheme.size_at.Goals as goal

pub returns-else-cell-scheme-clause-exact : goal.returns-else-cell-scheme-clause-exact
returns-else-cell-scheme-clause-exact c =
    let count = count_is c.args.scheme.now c.requires.counted in
    sym (get_or_past (cell_sizes (universe_of c.args.scheme.now)) c.args.cell 0 (omega (arith, count)))
