use Rattle.std.proofs.Common.{sym, subst}
use Rattle.pc_propagate.specs.Propagation.{IsFalsified}
use Rattle.pc_propagate.specs.Refs.{clause_at}
use Rattle.pc_analyze.specs.Levels.{IsHighestLevel}
use Rattle.pc_solver.specs.inside.Search.{SearchView}
use Rattle.pc_solver.proofs.TurnLemmas.{conflict_same, level_same}
use Rattle.pc_solver.proofs.search.Search.level_of_conflict.Goals as goal

pub conflict_level-requires : goal.conflict_level-requires
conflict_level-requires c =
    conflict_same c.self.inside.trail.entries c.args.conflict _ _ _ _ c.axioms.ensures.is c.more.ensures (subst (λ (s : SearchView). IsFalsified s.clauses.axioms s.clauses.more s.trail.entries c.args.conflict) (sym c.self.view_is) c.requires)

pub returns : goal.returns
returns c =
    subst (λ (s : SearchView). IsHighestLevel s.trail.entries (clause_at s.clauses.axioms s.clauses.more c.args.conflict) c.conflict_level.result) c.self.view_is
    (level_same c.self.inside.trail.entries _ _ _ _ c.args.conflict c.conflict_level.result c.axioms.ensures.is c.more.ensures c.conflict_level.ensures)
