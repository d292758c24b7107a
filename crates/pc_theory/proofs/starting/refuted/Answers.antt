use Rattle.std.proofs.Common.{arith}
use Rattle.pc_theory.proofs.Refuted.{refuted_at}
use Rattle.pc_theory.proofs.starting.refuted.Goals as goal

pub trim-requires : goal.trim-requires
trim-requires c = c.requires.empty.derived.stands

pub returns : goal.returns
returns c =
    refuted_at c.trimmed_lines_refute.ensures c.names_are_of_their_sheet.ensures c.args.task.book.now c.args.log.now c.trim.new.into c.args.last c.in_ok-span.span c.requires.ready.formed c.requires.empty
    (omega (arith, c.few_lines.ensures)) c.in_ok-span.ensures.span c.in_ok-span.ensures.lines
