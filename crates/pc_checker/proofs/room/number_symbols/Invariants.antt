use Rattle.std.proofs.Common.{◌≡◌, map, take}
use Rattle.pc_cert.specs.Views.{symbol_of}
use Rattle.pc_checker.proofs.room.number_symbols.Given as goal

abbrev pub invariant-loop-symbol : goal.invariant-loop-symbol
invariant-loop-symbol l = l.names ≡ map symbol_of (take l.symbol-index l.symbols)
