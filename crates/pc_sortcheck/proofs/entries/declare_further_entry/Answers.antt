use Rattle.std.proofs.lemmas.Result.{err_from_is_err_and}
use Rattle.pc_syntax.specs.Tree.{also, cell_of, value_of}
use Rattle.pc_sortcheck.specs.DeclarationFaults.{IsDeclarationFault}
use Rattle.pc_sortcheck.proofs.Faults.{handed_on}
use Rattle.pc_sortcheck.proofs.WithEntry.{also_formed}
use Rattle.pc_sortcheck.proofs.entries.declare_further_entry.Goals as goal

pub returns-in_err-entry : goal.returns-in_err-entry
returns-in_err-entry c =
    let p = err_from_is_err_and c.from_residual.result c.from_residual.ensures.1 in
    rw p.1 (handed_on (IsDeclarationFault c.args.book.now (also (cell_of c.args.cell.now) (value_of c.args.value.now))) c.in_err-entry.field-0.0 p.0 p.2 c.in_err-entry.ensures)

pub also_entry-requires : goal.also_entry-requires
also_entry-requires c = also_formed c.args.book.now c.in_ok-entry.entry c.keeps_form.ensures c.in_ok-entry.ensures.1 c.in_ok-entry.ensures.2
