use Rattle.std.proofs.Common.{◌≤◌, length, arith}
use Rattle.std.proofs.lemmas.Result.{err_from_is_err_and}
use Rattle.pc_sheet.specs.Entailment.{cell_sizes}
use Rattle.pc_parts.specs.Components.{parts_of}
use Rattle.pc_theory.specs.Theories.{rules_alone}
use Rattle.pc_theory.proofs.Books.{ready_of, few_enough}
use Rattle.pc_theory.proofs.OfRules.{components_alone, chosen_alone}
use Rattle.pc_theory.proofs.OfWhole.{searched_parts}
use Rattle.pc_theory.proofs.book.part_book.Goals as goal

pub returns-clause-ready : goal.returns-clause-ready
returns-clause-ready c =
    let sheet = c.args.book.now in
    let formed = c.well_formed-2.ensures in
    ready_of c.names_are_of_their_sheet.ensures sheet c.in_ok-ground.ground c.in_ok-components.components c.in_ok-searched.searched formed c.in_ok-ground.ensures.ok c.in_ok-ground.ensures.few c.in_ok-components.ensures c.in_ok-searched.ensures
    (c.parts_are_a_division.ensures sheet (parts_of sheet) formed (c.parts_are_found.ensures sheet formed))

pub returns-clause-few : goal.returns-clause-few
returns-clause-few c =
    let sheet = c.args.book.now in
    let few : length (cell_sizes sheet.universe) ≤ 4096 = omega (arith, c.few_cells.ensures) in
    few_enough sheet c.in_ok-searched.searched
    (searched_parts (rules_alone sheet) c.in_ok-components.components c.in_ok-searched.searched (components_alone sheet c.in_ok-components.components c.in_ok-components.ensures) (chosen_alone sheet c.in_ok-components.components c.in_ok-searched.searched c.in_ok-searched.ensures)) few

pub returns-clause-components : goal.returns-clause-components
returns-clause-components c = components_alone c.args.book.now c.in_ok-components.components c.in_ok-components.ensures

pub returns-clause-chosen : goal.returns-clause-chosen
returns-clause-chosen c = chosen_alone c.args.book.now c.in_ok-components.components c.in_ok-searched.searched c.in_ok-searched.ensures

pub returns-in_err-searched-clause-fault : goal.returns-in_err-searched-clause-fault
returns-in_err-searched-clause-fault c budget =
    let p = err_from_is_err_and c.from_residual-in_err-searched.result c.from_residual-in_err-searched.ensures.1 in
    rw (p.1, p.2) tt
