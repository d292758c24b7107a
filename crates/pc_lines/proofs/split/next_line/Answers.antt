use Rattle.pc_lines.proofs.TextLines.{lines-open, first_line, first_short, some_bytes}
use Rattle.pc_lines.proofs.split.next_line.Goals as goal

pub returns-in_default-clause-first : goal.returns-in_default-clause-first
returns-in_default-clause-first c = lines-open c.args.bytes.now (some_bytes c.args.bytes.now c.is_empty.result c.is_empty.ensures c.if-is_empty.false) c.in_default.ensures.none

pub returns-clause-first : goal.returns-clause-first
returns-clause-first c = first_line c.args.bytes.now c.in-Some.end c.without_return.result.now c.in-Some.ensures.found.1 c.in-Some.ensures.found.0 c.in-Some.ensures.first c.without_return.ensures

pub returns-clause-short : goal.returns-clause-short
returns-clause-short c = first_short c.args.bytes.now c.in-Some.end c.without_return.result.now c.without_return.ensures
