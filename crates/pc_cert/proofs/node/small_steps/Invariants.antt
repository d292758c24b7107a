use Rattle.std.proofs.Common.{◌≡◌, take}
use Rattle.pc_cert.proofs.node.small_steps.Given as goal

abbrev pub invariant-loop-step : goal.invariant-loop-step
invariant-loop-step l = l.small.items ≡ take l.step-index l.steps
