use Rattle.std.proofs.Common.{All, Contains, List, map, take}
use Rattle.pc_sheet.specs.declared.ids.Entry.{Entry}
use Rattle.pc_cert.specs.Views.{said_of}
use Rattle.pc_checker.specs.Entered.{AreUsesMarked}
use Rattle.pc_checker.proofs.sets.are_used.Given as goal

abbrev pub invariant-loop-said : goal.invariant-loop-said
invariant-loop-said l = (entries : List Entry) → AreUsesMarked entries l.marks → All (λ e. Contains entries e.1) (take l.said-index (map said_of l.uses))
