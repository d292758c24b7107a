use Rattle.pc_worked_laws.proofs.ConnectivesHold.{worked_connectives, worked_counter_truths, worked_pieces}
use Rattle.pc_worked_laws.proofs.worked.connectives_are_worked.Goals as goal

pub returns-clause-connectives : goal.returns-clause-connectives
returns-clause-connectives c = worked_connectives

pub returns-clause-counters : goal.returns-clause-counters
returns-clause-counters c = worked_counter_truths

pub returns-clause-pieces : goal.returns-clause-pieces
returns-clause-pieces c = worked_pieces
