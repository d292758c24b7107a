use Rattle.std.proofs.Common.{◌+◌, ◌∙◌, sym, take, drop, ap}
use Rattle.pc_lines.specs.Lines.{line_text_of}
use Rattle.pc_lines.proofs.Ends.{text_of-open, text_of-feed}
use Rattle.pc_lines.proofs.reader.text.Goals as goal

pub returns-in-None : goal.returns-in-None
returns-in-None c = sym (text_of-open c.args.line.now c.in-None.ensures.none)

pub returns-in-Some : goal.returns-in-Some
returns-in-Some c =
    let line = c.args.line.now in
    let end = c.in-Some.end in
    c.without_return.ensures ∙ sym (ap line_text_of c.in-Some.ensures.found.0 ∙ text_of-feed (take end line) (drop (end + 1) line) c.in-Some.ensures.first)
