use Rattle.std.proofs.Common.{◌≡◌, map, take}
use Rattle.pc_collab.specs.Journal.{Post}
use Rattle.pc_journal.specs.inside.Progress.{Progress}
use Rattle.pc_journal.proofs.posting.answer_posts.Given as goal

abbrev pub invariant-loop-i : goal.invariant-loop-i
invariant-loop-i g l = record {
  progress : Progress g.M.Machine.Allows (l.fn.machine, l.fn.notes) (l.machine, l.notes) l.answering.marks (take l.i (map (λ (p : Post). p.text) l.fn.journal)) (g.O.Sink.given l.fn.out) (g.O.Sink.given l.out);
  kept : g.O.Sink.faults l.out ≡ g.O.Sink.faults l.fn.out;
}
