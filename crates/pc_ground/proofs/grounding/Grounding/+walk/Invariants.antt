use Rattle.std.proofs.Common.{◌≡◌, ◌+◌, ◌*◌, [], ◌∷◌, ◌++◌, drop, length, map}
use Rattle.std.specs.List.{flat_map}
use Rattle.pc_sheet.specs.Cells.{values_below}
use Rattle.pc_sheet.specs.Views.{statement_of, statements_of}
use Rattle.pc_ground.specs.ByNumber.{parts_clauses, instances_clauses, AreSortedIn}
use Rattle.pc_ground.specs.Ground.{node_axioms, parts_axioms}
use Rattle.pc_ground.specs.Naming.{name_of, named}
use Rattle.pc_ground.specs.Owners.{piece_count_of_parts, spans_of_parts, spans_of_values}
use Rattle.pc_ground.specs.PieceCells.{piece_cells, piece_cells_of_parts}
use Rattle.pc_ground.specs.Variables.{count_all, nodes_below, parts_below}
use Rattle.pc_ground.proofs.grounding.Grounding.+walk.Given as goal

abbrev pub invariant-walk_parts-loop-k : goal.invariant-walk_parts-loop-k
invariant-walk_parts-loop-k l =
    let u = l.self.book.now.universe in
    let r = l.place.path.now.rule in
    let steps = l.place.path.now.steps.items in
    let rest = statements_of (map statement_of (drop l.k l.parts)) in
    let all = statements_of (map statement_of l.parts) in
    record {
      clauses : l.draft.nodes.clauses ++ parts_clauses u l.self.cells.now l.next l.place.scope.now rest ≡ l.fn.draft.nodes.clauses ++ parts_clauses u l.self.cells.now (l.place.first + 1) l.place.scope.now all;
      names : named l.draft.nodes.names (parts_below u r steps l.k rest) (map name_of (parts_axioms u r steps l.place.scope.now l.k rest)) ≡ named l.fn.draft.nodes.names (parts_below u r steps 0 all) (map name_of (parts_axioms u r steps l.place.scope.now 0 all));
      owners : l.draft.owners.items ++ spans_of_parts u l.at r steps l.place.scope.now l.k rest ≡ l.fn.draft.owners.items ++ spans_of_parts u l.piece r steps l.place.scope.now 0 all;
      reads : l.draft.reads ++ piece_cells_of_parts u l.place.scope.now rest ≡ l.fn.draft.reads ++ piece_cells_of_parts u l.place.scope.now all;
      next : l.next + count_all u rest ≡ l.place.first + 1 + count_all u all;
      at : l.at + piece_count_of_parts u rest ≡ l.piece + piece_count_of_parts u all;
      sorted : AreSortedIn u (length l.place.scope.now) rest;
    }

abbrev pub invariant-walk_values-loop-v : goal.invariant-walk_values-loop-v
invariant-walk_values-loop-v l =
    let u = l.self.book.now.universe in
    let r = l.binder.place.path.now.rule in
    let steps = l.binder.place.path.now.steps.items in
    let scope = l.binder.place.scope.now in
    let s = l.binder.sort in
    let body = statement_of l.body in
    record {
      clauses : l.draft.nodes.clauses ≡ l.fn.draft.nodes.clauses ++ instances_clauses u l.self.cells.now (l.binder.place.first + 1) scope s body l.v;
      names : l.draft.nodes.names ≡ named l.fn.draft.nodes.names (flat_map (λ v. nodes_below u r (steps ++ v.0 ∷ []) body) (values_below l.v)) (map name_of (flat_map (λ v. node_axioms u r (steps ++ v.0 ∷ []) (scope ++ (s, v) ∷ []) body) (values_below l.v)));
      owners : l.draft.owners.items ≡ l.fn.draft.owners.items ++ spans_of_values u l.piece r steps scope s body l.v;
      reads : l.draft.reads ≡ l.fn.draft.reads ++ flat_map (λ v. piece_cells u (scope ++ (s, v) ∷ []) body) (values_below l.v);
      next : l.next ≡ l.binder.place.first + 1 + l.v * l.count;
      at : l.at ≡ l.piece + l.v * l.pieces;
    }
