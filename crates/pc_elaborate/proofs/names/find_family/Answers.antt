use Rattle.pc_elaborate.specs.Elaboration.{IsFamilyNamed}
use Rattle.pc_elaborate.specs.FormulaFaults.{IsNameFault, IsSomeFamily}
use Rattle.pc_elaborate.proofs.Testing.{tells_ok, tells_err}
use Rattle.pc_elaborate.proofs.Unique.{names_are_unique}
use Rattle.pc_elaborate.proofs.Values.{family_outcome}
use Rattle.pc_elaborate.proofs.NamedAs.{other_fault, no_memory}
use Rattle.pc_elaborate.proofs.names.find_family.Goals as goal

pub returns-in-Some : goal.returns-in-Some
returns-in-Some c =
    let u = c.args.book.now.universe in
    let n = c.args.name.now in
    let law = family_outcome u (names_are_unique u c.well_formed-2.ensures.universe.different) n in
    tells_ok (IsFamilyNamed u n) (IsNameFault u n (IsSomeFamily u n)) law c.in-Some.family ((c.family_named.ensures c.in-Some.family).0 c.in-Some.is)

pub returns-in-None : goal.returns-in-None
returns-in-None c =
    let u = c.args.book.now.universe in
    let n = c.args.name.now in
    let law = family_outcome u (names_are_unique u c.well_formed-2.ensures.universe.different) n in
    let no : ¬ IsSomeFamily u n = λ h. let e = (c.family_named.ensures h.0).1 h.1 in absurd (cc) in
    tells_err (IsFamilyNamed u n) (IsNameFault u n (IsSomeFamily u n)) law c.name_fault.result (other_fault u n (IsSomeFamily u n) no c.name_fault.result c.name_fault.ensures) (no_memory u n (IsSomeFamily u n))
