use Rattle.std.proofs.Common.{[], ◌∙◌, ap, sym, subst}
use Rattle.pc_solver.specs.Solver.{SolverView, HasLog}
use Rattle.pc_theory.proofs.Started.{first_asked, first_given}
use Rattle.pc_theory.proofs.starting.new_solver.Goals as goal

pub polar-requires : goal.polar-requires
polar-requires c =
    first_asked c.kept_parts_are_searched.ensures c.args.task.book.now c.args.task.ground.now c.args.task.components.now c.requires.ready c.args.number _ _ _ c.part-part.ensures.cells c.part-part.ensures.axioms c.part-part.ensures.variables
    c.in_ok-trail.trail.variables c.store.result.now _ (c.in_ok-trail.ensures.variables ∙ c.requires.trails) c.store.ensures c.part-part.ensures.banned

pub returns-clause-fresh : goal.returns-clause-fresh
returns-clause-fresh c =
    let same = sym c.prefer_first.ensures in
    record {
      cells = _;
      used = _;
      own = _;
      cells_at = c.part-part.ensures.cells;
      used_at = c.part-part.ensures.axioms;
      own_at = c.part-part.ensures.variables;
      problem =
          first_given c.kept_parts_are_searched.ensures c.args.task.book.now c.args.task.ground.now c.args.task.components.now c.requires.ready c.args.number _ _ _ c.part-part.ensures.cells c.part-part.ensures.axioms c.part-part.ensures.variables c.store.result.now _ c.prefer_first.new.self.problem c.store.ensures c.part-part.ensures.banned
          (ap (λ (s : SolverView). s.problem) c.prefer_first.ensures ∙ c.in_ok-solver.ensures.problem);
      no_block = ap (λ (s : SolverView). s.blocks) c.prefer_first.ensures ∙ c.in_ok-solver.ensures.blocks;
      no_line = subst (λ (s : SolverView). HasLog s []) same c.in_ok-solver.ensures.log;
    }
