use Rattle.std.proofs.Common.{◌≡◌, ◌+◌, ◌++◌, drop, map, sum_by}
use Rattle.pc_sheet.specs.Views.{rule_of}
use Rattle.pc_ground.specs.ByNumber.{rules_clauses, AreRulesSorted}
use Rattle.pc_ground.specs.Ground.{rules_axioms}
use Rattle.pc_ground.specs.Naming.{name_of, named}
use Rattle.pc_ground.specs.Owners.{piece_count_of_rules, spans_of_rules}
use Rattle.pc_ground.specs.PieceCells.{piece_cells_of_rules}
use Rattle.pc_ground.specs.Variables.{nodes_of_rule, nodes_from}
use Rattle.pc_ground.proofs.grounding.Grounding.walk_rules.Given as goal

abbrev pub invariant-loop-r : goal.invariant-loop-r
invariant-loop-r l =
    let u = l.self.book.now.universe in
    let rest = map rule_of (drop l.r l.rules) in
    let all = map rule_of l.rules in
    record {
      clauses : l.draft.nodes.clauses ++ rules_clauses u l.self.cells.now l.next rest ≡ l.fn.draft.nodes.clauses ++ rules_clauses u l.self.cells.now l.first all;
      names : named l.draft.nodes.names (nodes_from u l.r rest) (map name_of (rules_axioms u l.r rest)) ≡ named l.fn.draft.nodes.names (nodes_from u 0 all) (map name_of (rules_axioms u 0 all));
      owners : l.draft.owners.items ++ spans_of_rules u l.at l.r rest ≡ l.fn.draft.owners.items ++ spans_of_rules u l.piece 0 all;
      reads : l.draft.reads ++ piece_cells_of_rules u rest ≡ l.fn.draft.reads ++ piece_cells_of_rules u all;
      next : l.next + sum_by (nodes_of_rule u) rest ≡ l.first + sum_by (nodes_of_rule u) all;
      at : l.at + piece_count_of_rules u rest ≡ l.piece + piece_count_of_rules u all;
      sorted : AreRulesSorted u rest;
    }
