use Rattle.std.proofs.Common.{◌||◌, ◌==◌, arith, ap, ◌∙◌}
use Rattle.pc_ask.specs.inside.Reading.{has_mark}
use Rattle.pc_ask.proofs.ReadMarks.{grown, set_one}
use Rattle.pc_ask.proofs.candidates.mark.Goals as goal

pub room-preserved : goal.room-preserved
room-preserved c n = ap (λ ms. has_mark ms n) c.in_ok-push.ensures.items ∙ (grown c.room.marks.items n ∙ c.room.invariant n)

pub returns : goal.returns
returns c n = set_one c.room.marks.items c.args.cell n (omega arith) ∙ ap (λ b. b || (c.args.cell == n)) (c.room.invariant n)
