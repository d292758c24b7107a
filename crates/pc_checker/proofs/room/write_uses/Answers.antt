use Rattle.std.proofs.Common.{map, subst, ap, ◌∙◌}
use Rattle.std.proofs.lemmas.List.{take_all}
use Rattle.pc_accept.specs.Axioms.{negated_entry}
use Rattle.pc_cert.specs.declared.cert.Said.{Said}
use Rattle.pc_checker.specs.Drafts.{AreWritten}
use Rattle.pc_checker.proofs.RoomLemmas.{uses_mapped}
use Rattle.pc_checker.proofs.room.write_uses.Goals as goal

pub returns : goal.returns
returns c =
    subst (AreWritten c.args.draft.now c.loop-said.draft)
    (ap (map (λ (s : Said). negated_entry s.entry)) (take_all c.loop-said.said-index c.args.uses.now c.loop-said-test.false) ∙ uses_mapped c.args.uses.now) c.loop-said.invariant
