use Rattle.std.proofs.Common.{refl, []}
use Rattle.pc_collab.specs.Text.{journal_text}
use Rattle.pc_refusals.specs.declared.status.Status.TheVariants.{Done, SheetRefused, Memory}
use Rattle.pc_refusals.specs.Endings.{memory_text}
use Rattle.pc_refusals.specs.Runs.{on_course, without_memory}
use Rattle.pc_journal.specs.Told.{differ_text}
use Rattle.pc_journal.specs.Course.{MergeBoth, needs_memory_for_both, differs, is_merged}
use Rattle.pc_refusals.proofs.Dids.{ends_at}
use Rattle.pc_journal.proofs.merging.merge_both.Goals as goal

pub returns-in-Ok-clause-ends : goal.returns-in-Ok-clause-ends
returns-in-Ok-clause-ends g c =
    let m = c.in-Ok.merged in
    ends_at (MergeBoth c.args.a.now c.args.b.now) [] Done c.tell_journal.result (journal_text m) tt (g.O.Sink.given c.args.out.now) (g.O.Sink.given c.tell_journal.new.out) (on_course (is_merged m c.in-Ok.ensures.1 refl)) (λ e. absurd (cc e)) (λ e. absurd (cc e)) c.tell_journal.ensures.told

pub returns-in-Err-Differ-clause-ends : goal.returns-in-Err-Differ-clause-ends
returns-in-Err-Differ-clause-ends g c =
    let differ = rw c.in-Err-Differ.field-0-is at c.in-Err-Differ.ensures in
    let said = rw c.in-Err-Differ.field-0-is at c.tell_differ.ensures.told in
    ends_at (MergeBoth c.args.a.now c.args.b.now) [] SheetRefused c.tell_differ.result (differ_text c.in-Err-Differ.author c.in-Err-Differ.number) tt (g.O.Sink.given c.args.out.now) (g.O.Sink.given c.tell_differ.new.out) (on_course (differs c.in-Err-Differ.author c.in-Err-Differ.number differ refl)) (λ e. absurd (cc e)) (λ e. absurd (cc e)) said

pub returns-in-Err-Memory-clause-ends : goal.returns-in-Err-Memory-clause-ends
returns-in-Err-Memory-clause-ends g c =
    ends_at (MergeBoth c.args.a.now c.args.b.now) [] Memory c.tell_no_memory.result memory_text tt (g.O.Sink.given c.args.out.now) (g.O.Sink.given c.tell_no_memory.new.out) (without_memory memory_text (needs_memory_for_both refl)) (λ e. absurd (cc e)) (λ e. absurd (cc e)) c.tell_no_memory.ensures.told
