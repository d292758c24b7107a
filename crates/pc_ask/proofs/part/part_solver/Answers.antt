use Rattle.std.proofs.Common.{◌∙◌, [], subst, sym}
use Rattle.pc_ground.specs.Ground.{clauses}
use Rattle.pc_solver.specs.Solver.{SolverView}
use Rattle.pc_ask.specs.inside.Parts.{AreAxiomsOver, IsAsked, IsAskedOver}
use Rattle.pc_ask.proofs.Searched.{new_asked, new_problem}
use Rattle.pc_ask.proofs.part.part_solver.Goals as goal

pub new-requires : goal.new-requires
new-requires c =
    let book = c.args.book.now in
    let cells = c.args.part.now.cells.items in
    let own = c.deref.result.now in
    let over = subst (IsAskedOver book cells) (sym c.deref.ensures.value) c.requires.part in
    let used = subst (λ vs. AreAxiomsOver (clauses book) vs c.args.axioms.now) (sym c.deref.ensures.value) c.requires.axioms in
    new_problem c.parts_are_searched.ensures book c.well_formed-2.ensures c.args.ground.now c.requires.ground c.few_axioms.ensures cells own over
    c.args.axioms.now used c.store.result.now c.store.ensures c.variables.result c.variables.ensures

pub returns : goal.returns
returns c =
    let book = c.args.book.now in
    let cells = c.args.part.now.cells.items in
    let own = c.deref.result.now in
    let over = subst (IsAskedOver book cells) (sym c.deref.ensures.value) c.requires.part in
    let used = subst (λ vs. AreAxiomsOver (clauses book) vs c.args.axioms.now) (sym c.deref.ensures.value) c.requires.axioms in
    subst (λ (s : SolverView). IsAsked book c.args.part.now.variables.items s []) (sym (c.show_nothing.ensures ∙ c.prefer_first.ensures))
    (subst (λ vs. IsAsked book vs c.in_ok-solver.solver []) c.deref.ensures.value
    (new_asked c.parts_are_searched.ensures book c.well_formed-2.ensures c.args.ground.now c.requires.ground c.few_axioms.ensures cells own over
    c.args.axioms.now used c.store.result.now c.store.ensures _ c.in_ok-solver.ensures.problem c.in_ok-solver.ensures.blocks c.in_ok-solver.ensures.log))
