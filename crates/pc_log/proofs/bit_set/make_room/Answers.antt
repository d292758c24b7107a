use Rattle.std.proofs.Common.{arith}
use Rattle.pc_log.proofs.PlaceLemmas.{room_bits}
use Rattle.pc_log.proofs.bit_set.make_room.Goals as goal

pub returns-in_ok-resize-clause-same : goal.returns-in_ok-resize-clause-same
returns-in_ok-resize-clause-same c = room_bits c.args.words.now.items c.resize.new.self.items _ _ c.in_ok-resize.ensures.items (omega (arith, c.if-len-count.true, c.len.ensures))
