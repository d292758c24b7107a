use Rattle.std.proofs.Common.{ℕ, List, Option, subst}
use Rattle.pc_port.specs.declared.TheConstants.{CHUNK}
use Rattle.pc_refusals.specs.Events.{streams, around}
use Rattle.pc_refusals.specs.Runs.{Ran}
use Rattle.pc_transcript.specs.Course.{Replay}
use Rattle.pc_transcript.proofs.Ends.{holds_nothing}
use Rattle.pc_transcript.proofs.Courses.{finish, lacks_room}
use Rattle.pc_transcript.proofs.run.replay.Goals as goal

pub returns-in_default-clause-ran : goal.returns-in_default-clause-ran
returns-in_default-clause-ran g c =
    finish _ _ _ _ _ _ _ _ (lacks_room (g.M.Machine.IsSheet c.args.resources.budget) (g.M.Machine.RefusesText c.args.resources.budget) g.M.Machine.Allows c.args.notes.now c.tell_no_memory_for_sheet.result (g.I.Source.left c.args.input.now) _ _ _ _ _ c.tell_no_memory_for_sheet.ensures.told c.tell_no_memory_for_sheet.ensures.fault c.tell_no_memory_for_sheet.ensures.no_fault)

pub returns-clause-ran : goal.returns-clause-ran
returns-clause-ran g c = λ o. subst (λ (l : Option (List ℕ)). Ran (Replay (g.M.Machine.IsSheet c.args.resources.budget) (g.M.Machine.RefusesText c.args.resources.budget) g.M.Machine.Allows c.args.notes.now) CHUNK c.replay_from.result c.replay_from.new.notes (around o (streams l (g.I.Source.faults c.args.input.now) (g.O.Sink.given c.args.out.now) (g.O.Sink.faults c.args.out.now))) (around o (streams (g.I.Source.left c.replay_from.new.input) (g.I.Source.faults c.replay_from.new.input) (g.O.Sink.given c.replay_from.new.out) (g.O.Sink.faults c.replay_from.new.out))))
    (holds_nothing c.in-Ok.reader.held (g.I.Source.left c.args.input.now) c.in-Ok.ensures.held) (c.replay_from.ensures.ran o)
