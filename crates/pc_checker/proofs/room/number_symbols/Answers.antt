use Rattle.pc_checker.proofs.RoomLemmas.{numbered_more}
use Rattle.pc_checker.proofs.room.number_symbols.Goals as goal

pub loop-symbol-preserved : goal.loop-symbol-preserved
loop-symbol-preserved c =
    numbered_more c.args.symbols.now c.loop-symbol.symbol-index c.symbol-item.result c.loop-symbol.names c.number_symbol.new.self c.in_ok-number_symbol.field-0 c.loop-symbol-test.true c.symbol-item.is c.requires
    c.loop-symbol.invariant c.in_ok-number_symbol.ensures
