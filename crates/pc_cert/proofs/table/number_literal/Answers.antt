use Rattle.std.proofs.Common.{ap}
use Rattle.std.specs.Option.{option_map}
use Rattle.pc_cert.specs.Trees as tree
use Rattle.pc_cert.specs.Views.{symbol_of}
use Rattle.pc_cert.proofs.Numbered.{one_numbered}
use Rattle.pc_cert.proofs.table.number_literal.Goals as goal

pub returns-clause-told : goal.returns-clause-told
returns-clause-told c =
    one_numbered c.args.book.now (tree.literal_of c.args.literal.now) c.args.table.now.names c.number_symbol.new.table.names (symbol_of c.in-Some.symbol) c.in_ok-number.number
    c.in_ok-number.ensures.told ((c.in_ok-symbol.ensures (symbol_of c.in-Some.symbol)).0 (ap (option_map symbol_of) c.in-Some.is))
