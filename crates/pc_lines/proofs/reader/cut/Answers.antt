use Rattle.std.proofs.Common.{arith, length, take, ◌<◌, subst, sym}
use Rattle.std.proofs.lemmas.List.{take_all}
use Rattle.pc_lines.specs.Lines.{HasNoEnd}
use Rattle.pc_lines.proofs.Ends.{whole_front, long_front}
use Rattle.pc_lines.proofs.reader.cut.Goals as goal
use Rattle.pc_lines.proofs.reader.cut.Goals.{in_default-via-in-Some+else-end-room, in_default-via-in-None+else-bytes-room}

pub returns-in-Some-clause-part : goal.returns-in-Some-clause-part
returns-in-Some-clause-part c =
    whole_front c.args.room c.args.bytes.now c.in-Some.end c.in-Some.ensures.found.0 c.in-Some.ensures.first c.in-Some.ensures.found.1 (omega arith)

pub returns-in_default-clause-part : goal.returns-in_default-clause-part
returns-in_default-clause-part c =
    elim c.in_default.branch [
      | in_default-via-in-Some+else-end-room w ↦
          let lt : w.in-Some.end < length c.args.bytes.now = w.in-Some.ensures.found.1 in
          let more : c.args.room < w.in-Some.end = w.if-end-room.false in
          long_front c.args.room c.args.bytes.now w.in-Some.end w.in-Some.ensures.first more (omega arith)
      | in_default-via-in-None+else-bytes-room w ↦
          let more : c.args.room < length c.args.bytes.now = w.if-bytes-room.false in
          let none : HasNoEnd (take (length c.args.bytes.now) c.args.bytes.now) = subst HasNoEnd (sym (take_all (length c.args.bytes.now) c.args.bytes.now (omega arith))) w.in-None.ensures.none in
          long_front c.args.room c.args.bytes.now (length c.args.bytes.now) none more more
    ]
