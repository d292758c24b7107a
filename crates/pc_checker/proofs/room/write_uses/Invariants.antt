use Rattle.std.proofs.Common.{map, take}
use Rattle.pc_accept.specs.Axioms.{negated_entry}
use Rattle.pc_cert.specs.declared.cert.Said.{Said}
use Rattle.pc_checker.specs.Drafts.{AreWritten}
use Rattle.pc_checker.proofs.room.write_uses.Given as goal

abbrev pub invariant-loop-said : goal.invariant-loop-said
invariant-loop-said l = AreWritten l.fn.draft l.draft (map (λ (s : Said). negated_entry s.entry) (take l.said-index l.uses))
