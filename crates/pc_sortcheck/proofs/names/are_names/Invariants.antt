use Rattle.std.proofs.Common.{All, take}
use Rattle.pc_name.specs.Names.{IsName}
use Rattle.pc_sortcheck.proofs.names.are_names.Given as goal

abbrev pub invariant-loop-name : goal.invariant-loop-name
invariant-loop-name l = All IsName (take l.name-index l.names)
