use Rattle.std.proofs.lemmas.Result.{err_from_is_err_and}
use Rattle.pc_syntax.specs.Tree.{cell_of, value_of}
use Rattle.pc_sortcheck.specs.DeclarationFaults.{IsEntryFault}
use Rattle.pc_sortcheck.proofs.Faults.{handed_on}
use Rattle.pc_sortcheck.proofs.entries.declare_entry.Goals as goal

pub returns-in_err-entry : goal.returns-in_err-entry
returns-in_err-entry c =
    let p = err_from_is_err_and c.from_residual.result c.from_residual.ensures.1 in
    rw p.1 (handed_on (IsEntryFault c.args.book.now.universe (cell_of c.args.cell.now) (value_of c.args.value.now)) c.in_err-entry.field-0.0 p.0 p.2 c.in_err-entry.ensures)
