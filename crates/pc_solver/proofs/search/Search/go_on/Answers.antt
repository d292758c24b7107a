use Rattle.std.proofs.Common.{Some, IsSome, rules}
use Rattle.pc_propagate.specs.declared.trail.TrailEntry.{TrailEntry}
use Rattle.pc_propagate.specs.declared.clauses.ClauseRef.TheVariants.{More}
use Rattle.pc_solver.proofs.TurnLemmas.{placed_turn, placed_learned, asserting_at}
use Rattle.pc_solver.proofs.SearchLemmas.{first_implied}
use Rattle.pc_solver.proofs.search.Search.go_on.Goals as goal

pub imply-requires : goal.imply-requires
imply-requires c = asserting_at c.args.self.now c.args.learnt c.in-Asserting.literal c.in-Asserting.number c.in-Asserting.is c.requires.says

pub returns-in-Asserting-clause-ok : goal.returns-in-Asserting-clause-ok
returns-in-Asserting-clause-ok c =
    let e : TrailEntry = record { literal = c.in-Asserting.literal; reason = Some (More c.in-Asserting.number) } in
    let some : IsSome e.reason = search rules in
    placed_turn c.args.self.now c.imply.new.self e c.args.assumed.now c.args.log.now c.args.tally.now c.imply.new.tally c.imply.result c.after_placing.result c.after_placing.ensures c.imply.ensures.clauses c.imply.ensures.placed c.requires.under_way
    (first_implied c.args.assumed.now e c.args.self.now.trail c.imply.new.self.trail c.args.tally.now c.imply.new.tally c.imply.result some c.imply.ensures.placed c.requires.under_way.first)

pub returns-in-Asserting-clause-learned : goal.returns-in-Asserting-clause-learned
returns-in-Asserting-clause-learned c =
    placed_learned (record { literal = c.in-Asserting.literal; reason = Some (More c.in-Asserting.number) }) c.args.self.now.trail c.imply.new.self.trail c.args.tally.now c.imply.new.tally c.imply.result c.imply.ensures.placed
