use Rattle.pc_support.proofs.WordLemmas.{room_same}
use Rattle.pc_support.proofs.words.make_room.Goals as goal

pub returns-in_ok-push-clause-same : goal.returns-in_ok-push-clause-same
returns-in_ok-push-clause-same c = room_same c.args.words.now.items c.push.new.self.items c.in_ok-push.ensures.items
