use Rattle.pc_elaborate.specs.Elaboration.{IsSortNamed}
use Rattle.pc_elaborate.specs.FormulaFaults.{IsNameFault, IsSomeSort}
use Rattle.pc_elaborate.proofs.Testing.{tells_ok, tells_err}
use Rattle.pc_elaborate.proofs.Unique.{names_are_unique}
use Rattle.pc_elaborate.proofs.Values.{sort_outcome}
use Rattle.pc_elaborate.proofs.NamedAs.{other_fault, no_memory}
use Rattle.pc_elaborate.proofs.names.find_sort.Goals as goal

pub returns-in-Some : goal.returns-in-Some
returns-in-Some c =
    let u = c.args.book.now.universe in
    let n = c.args.name.now in
    let law = sort_outcome u (names_are_unique u c.well_formed-2.ensures.universe.different) n in
    tells_ok (IsSortNamed u n) (IsNameFault u n (IsSomeSort u n)) law c.in-Some.sort ((c.sort_named.ensures c.in-Some.sort).0 c.in-Some.is)

pub returns-in-None : goal.returns-in-None
returns-in-None c =
    let u = c.args.book.now.universe in
    let n = c.args.name.now in
    let law = sort_outcome u (names_are_unique u c.well_formed-2.ensures.universe.different) n in
    let no : ¬ IsSomeSort u n = λ h. let e = (c.sort_named.ensures h.0).1 h.1 in absurd (cc) in
    tells_err (IsSortNamed u n) (IsNameFault u n (IsSomeSort u n)) law c.name_fault.result (other_fault u n (IsSomeSort u n) no c.name_fault.result c.name_fault.ensures) (no_memory u n (IsSomeSort u n))
