use Rattle.pc_checker.proofs.Made.{made}
use Rattle.pc_checker.proofs.room.room_for.Goals as goal

pub returns : goal.returns
returns c = made c.args.book.now c.args.cert.now _ c.requires c.in_ok-clauses.ensures c.in_ok-entered.ensures
