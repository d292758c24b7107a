use Rattle.std.proofs.Common.{◌≡◌, ◌<◌, length, rules}
use Rattle.pc_formula.proofs.Views.{table_atom_of}
use Rattle.pc_formula.proofs.formula.table_atom.Goals as goal

pub returns-clause-ok : goal.returns-clause-ok
returns-clause-ok c =
    let none : length c.args.side.rest.items ≡ 0 = search rules in
    let some : 0 < length c.in-Named.args.items = search rules in
    table_atom_of c.args.side c.in-Named.table c.in-Named.args c.in-Named.is none some
