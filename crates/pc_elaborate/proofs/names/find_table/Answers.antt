use Rattle.pc_elaborate.specs.Elaboration.{IsTableNamed}
use Rattle.pc_elaborate.specs.FormulaFaults.{IsNameFault, IsSomeTable}
use Rattle.pc_elaborate.proofs.Testing.{tells_ok, tells_err}
use Rattle.pc_elaborate.proofs.Unique.{names_are_unique}
use Rattle.pc_elaborate.proofs.Values.{table_outcome}
use Rattle.pc_elaborate.proofs.NamedAs.{other_fault, no_memory}
use Rattle.pc_elaborate.proofs.names.find_table.Goals as goal

pub returns-in-Some : goal.returns-in-Some
returns-in-Some c =
    let u = c.args.book.now.universe in
    let n = c.args.name.now in
    let law = table_outcome u (names_are_unique u c.well_formed-2.ensures.universe.different) n in
    tells_ok (IsTableNamed u n) (IsNameFault u n (IsSomeTable u n)) law c.in-Some.table ((c.table_named.ensures c.in-Some.table).0 c.in-Some.is)

pub returns-in-None : goal.returns-in-None
returns-in-None c =
    let u = c.args.book.now.universe in
    let n = c.args.name.now in
    let law = table_outcome u (names_are_unique u c.well_formed-2.ensures.universe.different) n in
    let no : ¬ IsSomeTable u n = λ h. let e = (c.table_named.ensures h.0).1 h.1 in absurd (cc) in
    tells_err (IsTableNamed u n) (IsNameFault u n (IsSomeTable u n)) law c.name_fault.result (other_fault u n (IsSomeTable u n) no c.name_fault.result c.name_fault.ensures) (no_memory u n (IsSomeTable u n))
