use Rattle.pc_propagate.specs.declared.clauses.ClauseRef.TheVariants.{Axiom}
use Rattle.pc_solver.proofs.LogLemmas.{LogGrows-trans}
use Rattle.pc_solver.proofs.StepLemmas.{KeepsClauses-trans, within_more, are_more}
use Rattle.pc_solver.proofs.clauses.Clauses.lines_of.Goals as goal

pub loop-reference-preserved : goal.loop-reference-preserved
loop-reference-preserved c =
    let inv = c.loop-reference.invariant in
    record {
      log = c.in_ok-line.ensures.log;
      same = KeepsClauses-trans _ _ _ inv.same c.in_ok-line.ensures.same;
      grows = LogGrows-trans _ _ _ 0 0 0 0 inv.grows c.in_ok-line.ensures.grows;
      within = rw c.in_ok-push.ensures.items (within_more _ _ _ c.in_ok-line.line c.in_ok-line.ensures.grows inv.within c.in_ok-line.ensures.line.0);
      are = rw c.in_ok-push.ensures.items (are_more _ _ c.loop-reference.self _ _ c.args.references.now c.loop-reference.reference-index (Axiom 0) c.loop-reference.lines.items c.in_ok-line.line c.in_ok-line.ensures.grows inv.within inv.are inv.same.axioms inv.same.more c.in_ok-line.ensures.line c.loop-reference-test.true);
    }
