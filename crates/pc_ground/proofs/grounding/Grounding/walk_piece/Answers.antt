use Rattle.std.proofs.Common.{refl}
use Rattle.std.proofs.lemmas.Result.{on_ok_weaker}
use Rattle.pc_sheet.specs.Views.{statement_of}
use Rattle.pc_ground.proofs.Owned.{piece_owned}
use Rattle.pc_ground.proofs.grounding.Grounding.walk_piece.Goals as goal

pub returns-clause-owners : goal.returns-clause-owners
returns-clause-owners c =
    let u = c.args.self.now.book.now.universe in
    on_ok_weaker c.own.result
    (piece_owned u c.args.self.now.cells.now c.args.place.path.now.rule c.args.place.path.now.steps.items c.args.place.scope.now (statement_of c.args.formula.now) c.args.place.first c.args.piece c.len-before.result c.len.result _ c.args.draft.now.nodes.clauses c.add_formula.new.nodes.clauses c.args.draft.now.owners.items c.own.new.owners.items
    c.len-before.ensures c.in_ok-add_formula.ensures.clauses c.len.ensures refl)
    c.own.ensures
