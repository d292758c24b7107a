use Rattle.std.proofs.Common.{◌≡◌, ℕ, suc, ◌+◌, ◌≤◌, List, [], ◌∷◌, ◌++◌, length, map, take, drop, codes, ap, sym, subst, arith, ◌∙◌}
use Rattle.pc_port.specs.Port.{Rose}
use Rattle.pc_collab.specs.Journal.{Post}
use Rattle.pc_transcript.specs.Answer.{Serves, ServesInPart}
use Rattle.pc_journal.specs.PostLines.{lines_of_posts}
use Rattle.pc_journal.specs.inside.Progress.{Progress}
use Rattle.pc_journal.proofs.Held.{one_more, all_answered, cut}
use Rattle.pc_journal.proofs.Texts.{stands_there, holds, holds_show, own_show}
use Rattle.pc_journal.proofs.posting.answer_posts.Goals as goal

pub returns-in-Err-clause-did : goal.returns-in-Err-clause-did
returns-in-Err-clause-did g c = λ l. λ n.
    let posts = c.args.journal.now in
    let i = c.loop-i.i in
    let text = c.text.result.now in
    let t = stands_there posts i text c.requires c.text.ensures in
    let serves = subst (λ (line : List ℕ). ServesInPart g.M.Machine.Allows (c.loop-i.machine, c.loop-i.notes) (c.serve.new.machine, c.serve.new.notes) line (g.O.Sink.given c.loop-i.out) (g.O.Sink.given c.serve.new.out)) (sym t.own) c.in-Err.ensures.err in
    let rose = subst (λ (m : ℕ). Rose m (g.O.Sink.faults c.serve.new.out)) c.loop-i.invariant.kept (rw c.in-Err.is at c.serve.ensures.cause.failed) in
    cut g.M.Machine.Allows (c.args.machine.now, c.args.notes.now) (c.loop-i.machine, c.loop-i.notes) (c.serve.new.machine, c.serve.new.notes) c.loop-i.answering.marks (lines_of_posts posts) (take i (map (λ (p : Post). p.text) posts)) text (drop (suc i) (map (λ (p : Post). p.text) posts) ++ codes "show" ∷ []) l n
    (g.O.Sink.given c.args.out.now) (g.O.Sink.given c.loop-i.out) (g.O.Sink.given c.serve.new.out) (g.O.Sink.faults c.args.out.now) (g.O.Sink.faults c.serve.new.out) (holds posts i text t) c.loop-i.invariant.progress serves rose

pub loop-i-preserved : goal.loop-i-preserved
loop-i-preserved g c =
    let posts = c.args.journal.now in
    let i = c.loop-i.i in
    let text = c.text.result.now in
    let t = stands_there posts i text c.requires c.text.ensures in
    let same : i + 1 ≡ suc i = omega arith in
    let next : take (i + 1) (map (λ (p : Post). p.text) posts) ≡ take i (map (λ (p : Post). p.text) posts) ++ text ∷ [] = ap (λ (k : ℕ). take k (map (λ (p : Post). p.text) posts)) same ∙ t.next in
    let serves = subst (λ (line : List ℕ). Serves g.M.Machine.Allows (c.loop-i.machine, c.loop-i.notes) (c.serve.new.machine, c.serve.new.notes) line c.loop-i.answering.marks c.serve.new.self.marks (g.O.Sink.given c.loop-i.out) (g.O.Sink.given c.serve.new.out)) (sym t.own) c.in-Ok.ensures.ok in
    record {
      progress = subst (λ (done : List (List ℕ)). Progress g.M.Machine.Allows (c.args.machine.now, c.args.notes.now) (c.serve.new.machine, c.serve.new.notes) c.serve.new.self.marks done (g.O.Sink.given c.args.out.now) (g.O.Sink.given c.serve.new.out)) (sym next)
          (one_more g.M.Machine.Allows (c.args.machine.now, c.args.notes.now) (c.loop-i.machine, c.loop-i.notes) (c.serve.new.machine, c.serve.new.notes) c.loop-i.answering.marks c.serve.new.self.marks (take i (map (λ (p : Post). p.text) posts)) text (g.O.Sink.given c.args.out.now) (g.O.Sink.given c.loop-i.out) (g.O.Sink.given c.serve.new.out) c.loop-i.invariant.progress serves);
      kept = (rw c.in-Ok.is at c.serve.ensures.cause.kept) ∙ c.loop-i.invariant.kept;
    }

pub returns-in-Ok-serve-clause-did : goal.returns-in-Ok-serve-clause-did
returns-in-Ok-serve-clause-did g c = λ l. λ n.
    let posts = c.args.journal.now in
    let i = c.loop-i.i in
    let full : length posts ≤ i = omega (arith, c.len-i-end.ensures) in
    let serves = subst (λ (line : List ℕ). Serves g.M.Machine.Allows (c.loop-i.machine, c.loop-i.notes) (c.serve-2.new.machine, c.serve-2.new.notes) line c.loop-i.answering.marks c.serve-2.new.self.marks (g.O.Sink.given c.loop-i.out) (g.O.Sink.given c.serve-2.new.out)) (sym own_show) c.in-Ok-serve.ensures.ok in
    let all = subst (λ (done : List (List ℕ)). Progress g.M.Machine.Allows (c.args.machine.now, c.args.notes.now) (c.serve-2.new.machine, c.serve-2.new.notes) c.serve-2.new.self.marks done (g.O.Sink.given c.args.out.now) (g.O.Sink.given c.serve-2.new.out)) (sym (holds_show posts i full))
    (one_more g.M.Machine.Allows (c.args.machine.now, c.args.notes.now) (c.loop-i.machine, c.loop-i.notes) (c.serve-2.new.machine, c.serve-2.new.notes) c.loop-i.answering.marks c.serve-2.new.self.marks (take i (map (λ (p : Post). p.text) posts)) (codes "show") (g.O.Sink.given c.args.out.now) (g.O.Sink.given c.loop-i.out) (g.O.Sink.given c.serve-2.new.out) c.loop-i.invariant.progress serves) in
    all_answered g.M.Machine.Allows (c.args.machine.now, c.args.notes.now) (c.serve-2.new.machine, c.serve-2.new.notes) c.serve-2.new.self.marks (lines_of_posts posts) c.status.result l n (g.O.Sink.given c.args.out.now) (g.O.Sink.given c.serve-2.new.out) (g.O.Sink.faults c.args.out.now) (g.O.Sink.faults c.serve-2.new.out) all c.status.ensures
    ((rw c.in-Ok-serve.is at c.serve-2.ensures.cause.kept) ∙ c.loop-i.invariant.kept)

pub returns-clause-did : goal.returns-clause-did
returns-clause-did g c = λ l. λ n.
    let posts = c.args.journal.now in
    let i = c.loop-i.i in
    let full : length posts ≤ i = omega (arith, c.len-i-end.ensures) in
    let serves = subst (λ (line : List ℕ). ServesInPart g.M.Machine.Allows (c.loop-i.machine, c.loop-i.notes) (c.serve-2.new.machine, c.serve-2.new.notes) line (g.O.Sink.given c.loop-i.out) (g.O.Sink.given c.serve-2.new.out)) (sym own_show) c.in-Err-serve.ensures.err in
    let rose = subst (λ (m : ℕ). Rose m (g.O.Sink.faults c.serve-2.new.out)) c.loop-i.invariant.kept (rw c.in-Err-serve.is at c.serve-2.ensures.cause.failed) in
    cut g.M.Machine.Allows (c.args.machine.now, c.args.notes.now) (c.loop-i.machine, c.loop-i.notes) (c.serve-2.new.machine, c.serve-2.new.notes) c.loop-i.answering.marks (lines_of_posts posts) (take i (map (λ (p : Post). p.text) posts)) (codes "show") [] l n
    (g.O.Sink.given c.args.out.now) (g.O.Sink.given c.loop-i.out) (g.O.Sink.given c.serve-2.new.out) (g.O.Sink.faults c.args.out.now) (g.O.Sink.faults c.serve-2.new.out) (holds_show posts i full) c.loop-i.invariant.progress serves rose
