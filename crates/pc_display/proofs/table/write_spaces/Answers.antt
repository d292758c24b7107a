use Rattle.std.proofs.Common.{◌-◌, ◌+◌, ◌*◌, arith, replicate}
use Rattle.pc_writer.proofs.InTurn.{Writes-then, Writes-cut, Writes-same}
use Rattle.pc_display.proofs.Spaces.{spaces_cut, spaces_end, spaces_more}
use Rattle.pc_display.proofs.table.write_spaces.Goals as goal

pub returns-in_err-write_text : goal.returns-in_err-write_text
returns-in_err-write_text g c =
    let k = c.loop.counter in
    Writes-same (spaces_cut k c.args.count (omega arith))
    (Writes-then c.loop.invariant (Writes-cut c.from_residual.result (replicate (c.args.count - (64 * k + 64)) 32) c.from_residual.ensures.0 c.in_err-write_text.ensures))

pub loop-preserved : goal.loop-preserved
loop-preserved g c = Writes-same (spaces_more c.loop.counter) (Writes-then c.loop.invariant c.in_ok-write_text.ensures)

pub returns : goal.returns
returns g c = Writes-same (spaces_end c.loop.counter c.args.count (omega arith)) (Writes-then c.loop.invariant c.write_text-2.ensures)
