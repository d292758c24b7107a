use Rattle.std.proofs.Common.{◌≡◌, ◌+◌, Some, slice_get, arith, subst}
use Rattle.pc_components.proofs.TraversalRight.{cell_low, cell_short, places_low, went_on, shrinks}
use Rattle.pc_components.proofs.labels.Traversal.go_on.Goals as goal

pub get-requires : goal.get-requires
get-requires c = cell_short c.args.rows.now c.args.count (c.args.label + 1) c.args.label c.cells.self c.in-Some.cell c.next.new.self.frontier c.args.rows_of.now c.requires.rows_of c.in-Some.ensures.frontier c.cells.invariant

pub visit_all-requires : goal.visit_all-requires
visit_all-requires c =
    let low = cell_low c.args.rows.now c.args.count (c.args.label + 1) c.args.label c.cells.self c.in-Some.cell c.next.new.self.frontier c.in-Some.ensures.frontier c.cells.invariant in
    places_low c.args.rows.now c.args.count c.in-Some.cell c.get.result.now low (subst (λ rows. slice_get rows c.in-Some.cell ≡ Some c.get.result.now) c.requires.rows_of c.get.ensures)

pub cells-smaller : goal.cells-smaller
cells-smaller c =
    shrinks c.args.label c.args.rows.now c.cells.self c.next.new.self c.visit_all.new.self c.in-Some.cell c.get.result.now (let e = c.cells.invariant.count in let l = c.requires.label in omega (arith, e, l))
    c.in-Some.ensures.labels c.in-Some.ensures.frontier c.in_ok-visit_all.ensures

pub cells-preserved : goal.cells-preserved
cells-preserved c =
    went_on c.args.rows.now c.args.count c.requires.rows c.args.label c.requires.label c.cells.self c.next.new.self c.visit_all.new.self c.in-Some.cell c.get.result.now c.in-Some.ensures.labels c.in-Some.ensures.frontier c.in-Some.ensures.visited
    (subst (λ rows. slice_get rows c.in-Some.cell ≡ Some c.get.result.now) c.requires.rows_of c.get.ensures) c.in_ok-visit_all.ensures c.cells.invariant

pub returns-clause-all : goal.returns-clause-all
returns-clause-all c = c.in_default.ensures.last
