use Rattle.std.proofs.Common.{◌++◌, ap, length, map, rules, sym, ◌∙◌}
use Rattle.std.proofs.lemmas.Result.{on_ok_weaker}
use Rattle.pc_sheet.specs.declared.formula.Formula.{the_lemmas}
use Rattle.pc_sheet.specs.Sheet.{all_of}
use Rattle.pc_sheet.specs.Views.{statement_of, statements_of}
use Rattle.pc_logic.proofs.NodeLemmas.{and_is, for_all_is}
use Rattle.pc_ground.specs.Owners.{spans}
use Rattle.pc_ground.specs.PieceCells.{piece_cells}
use Rattle.pc_ground.proofs.NodesNamed.{joint_named, universal_named, parts_of_and}
use Rattle.pc_ground.proofs.Owned.{joint_room, joint_pieces}
use Rattle.pc_ground.proofs.grounding.Grounding.+walk.Goals as goal

pub walk-walk_joint-requires : goal.walk-walk_joint-requires
walk-walk_joint-requires t c =
    let u = c.args.self.now.book.now.universe in
    let fs = c.deref.result.now in
    let h = parts_of_and u (length c.args.place.scope.now) c.args.formula.now c.in-And.parts fs c.in-And.is c.deref.ensures.value c.requires.sorted in
    let e = and_is c.args.formula.now c.in-And.parts c.in-And.is ∙ ap (λ gs. all_of (statements_of (map statement_of gs))) (sym c.deref.ensures.value) in
    let ss = statements_of (map statement_of fs) in
    (search (rules, the_lemmas), (record { sorted = h.sorted; few = h.few; room = joint_room u (statement_of c.args.formula.now) ss c.args.place.first e c.requires.room }, joint_pieces u (statement_of c.args.formula.now) ss c.args.piece e c.requires.pieces))

pub walk-returns-in-And-clause-names : goal.walk-returns-in-And-clause-names
walk-returns-in-And-clause-names t c =
    let fs = c.deref.result.now in
    let e = and_is c.args.formula.now c.in-And.parts c.in-And.is ∙ ap (λ gs. all_of (statements_of (map statement_of gs))) (sym c.deref.ensures.value) in
    on_ok_weaker c.walk_joint.result (joint_named c.args.self.now.book.now.universe c.args.place.path.now.rule c.args.place.path.now.steps.items c.args.place.scope.now c.args.draft.now.nodes.names c.walk_joint.new.draft.nodes.names (statement_of c.args.formula.now) fs e) c.walk_joint.ensures.names

pub walk-returns-in-ForAll-clause-names : goal.walk-returns-in-ForAll-clause-names
walk-returns-in-ForAll-clause-names t c =
    let body = c.deref-in-ForAll.result.now in
    let e = for_all_is c.args.formula.now c.in-ForAll.name c.in-ForAll.sort c.in-ForAll.body body c.in-ForAll.is c.deref-in-ForAll.ensures in
    on_ok_weaker c.walk_universal.result (universal_named c.args.self.now.book.now.universe c.args.place.path.now.rule c.args.place.path.now.steps.items c.args.place.scope.now c.args.draft.now.nodes.names c.walk_universal.new.draft.nodes.names (statement_of c.args.formula.now) (statement_of body) c.in-ForAll.name c.in-ForAll.sort e) c.walk_universal.ensures.names

pub walk-returns-in-ForAll-clause-owners : goal.walk-returns-in-ForAll-clause-owners
walk-returns-in-ForAll-clause-owners t c =
    let body = c.deref-in-ForAll.result.now in
    let e = for_all_is c.args.formula.now c.in-ForAll.name c.in-ForAll.sort c.in-ForAll.body body c.in-ForAll.is c.deref-in-ForAll.ensures in
    on_ok_weaker c.walk_universal.result (λ so. so ∙ ap (λ s. c.args.draft.now.owners.items ++ spans c.args.self.now.book.now.universe c.args.piece c.args.place.path.now.rule c.args.place.path.now.steps.items c.args.place.scope.now s) (sym e)) c.walk_universal.ensures.owners

pub walk-returns-in-ForAll-clause-reads : goal.walk-returns-in-ForAll-clause-reads
walk-returns-in-ForAll-clause-reads t c =
    let body = c.deref-in-ForAll.result.now in
    let e = for_all_is c.args.formula.now c.in-ForAll.name c.in-ForAll.sort c.in-ForAll.body body c.in-ForAll.is c.deref-in-ForAll.ensures in
    on_ok_weaker c.walk_universal.result (λ so. so ∙ ap (λ s. c.args.draft.now.reads ++ piece_cells c.args.self.now.book.now.universe c.args.place.scope.now s) (sym e)) c.walk_universal.ensures.reads
