use Rattle.std.proofs.Common.{ap, arith, length}
use Rattle.pc_theory.proofs.Started.{none_started}
use Rattle.pc_theory.proofs.starting.start_parts.Goals as goal

pub loop-number-init : goal.loop-number-init
loop-number-init c = record {
  many = ap length c.requires.none;
  trails = c.requires.trails;
  within = omega (arith, c.requires.nothing);
  started = none_started c.args.task.book.now c.args.task.components.now _ c.args.spent.now c.args.parts.now.items c.args.solvers.now.items c.requires.none c.requires.no_solvers c.requires.nothing c.in_ok-base.ensures.within;
}
