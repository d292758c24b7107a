use Rattle.std.proofs.Common.{All, take}
use Rattle.pc_sortcheck.specs.DeclarationFaults.{IsNew}
use Rattle.pc_sortcheck.proofs.names.are_new.Given as goal

abbrev pub invariant-loop-name : goal.invariant-loop-name
invariant-loop-name l = All (IsNew l.book.universe) (take l.name-index l.names)
