use Rattle.pc_ground.proofs.Pushed.{axiom_appended}
use Rattle.pc_ground.proofs.push.append_axioms.Goals as goal

pub loop-number-preserved : goal.loop-number-preserved
loop-number-preserved c = axiom_appended c.args.names.now c.args.more.now.axioms c.loop-number.number _ c.loop-number.names _ c.axiom.ensures c.loop-number.invariant c.in_ok-add_axiom.ensures.ok
