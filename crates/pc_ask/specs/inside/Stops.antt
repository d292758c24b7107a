-- Why an answer is missing, by why a step of it ends.
use Rattle.pc_ground.specs.declared.ground.GroundFault.{GroundFault}
use Rattle.pc_ground.specs.declared.ground.GroundFault.TheVariants as grounding
use Rattle.pc_solver.specs.declared.stop.Stop.{Stop}
use Rattle.pc_solver.specs.declared.stop.Stop.TheVariants as searching
use Rattle.pc_ask.specs.declared.answer.AskStop.{AskStop}
use Rattle.pc_ask.specs.declared.answer.AskStop.TheVariants.{TooLarge, Spent, Memory}

abbrev pub stop_of : Stop → AskStop
stop_of searching.Spent = Spent
stop_of searching.Memory = Memory

abbrev pub end_of : GroundFault → AskStop
end_of grounding.TooLarge = TooLarge
end_of grounding.Memory = Memory
