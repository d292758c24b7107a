use Rattle.std.proofs.lemmas.Bool.{OnTrue_at}
use Rattle.pc_propagate.proofs.WalkLemmas.{reconsidered_kept, reconsidered_waits}
use Rattle.pc_propagate.proofs.trail.Trail.reconsider.Goals as goal

pub returns-then-not-is_kept : goal.returns-then-not-is_kept
returns-then-not-is_kept c = reconsidered_waits c.args.number c.args.self.now _ c.requires.waiting c.wait_again.ensures

pub returns-else-not-is_kept : goal.returns-else-not-is_kept
returns-else-not-is_kept c = reconsidered_kept c.args.number c.args.self.now c.requires.free (OnTrue_at c.if-not-is_kept.false c.is_kept.ensures)
