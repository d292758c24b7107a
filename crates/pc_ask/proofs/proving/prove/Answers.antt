use Rattle.std.proofs.Common.{arith}
use Rattle.pc_ask.proofs.Proved.{goes_against}
use Rattle.pc_ask.proofs.proving.prove.Goals as goal

pub trim-requires : goal.trim-requires
trim-requires c = c.requires.answer.3.denied.stands

pub returns : goal.returns
returns c =
    goes_against c.own_lines_are_named.ensures c.trimmed_lines_are_against.ensures c.names_are_of_their_sheet.ensures c.args.book.now c.well_formed-2.ensures c.args.log.now c.requires.lawful
    (omega (arith, c.few_lines.ensures)) c.args.answer.now c.requires.answer.0 c.requires.answer.1 c.requires.answer.2 c.requires.answer.3
    c.trim.new.into c.in_ok-span.span c.in_ok-span.ensures.span c.in_ok-span.ensures.lines
