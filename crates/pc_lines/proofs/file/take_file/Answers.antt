use Rattle.std.proofs.Common.{◌<◌, ◌≤◌, length, arith}
use Rattle.pc_lines.specs.declared.TheConstants.{SHEET_LIMIT}
use Rattle.pc_lines.proofs.Contents.{small_file, long_file}
use Rattle.pc_lines.proofs.file.take_file.Goals as goal

pub returns-in-Ok-clause-gives : goal.returns-in-Ok-clause-gives
returns-in-Ok-clause-gives g c =
    let long : SHEET_LIMIT < length c.read.new.into.items = omega (arith, c.len.ensures) in
    long_file (g.H.Shelf.kept c.args.shelf.now) c.args.file.now (g.H.Shelf.asked c.args.shelf.now) (g.H.Shelf.asked c.read.new.self) c.read.new.into.items c.in-Ok.ensures.asks c.in-Ok.ensures.bytes.1 long

pub returns-in-Ok-2-clause-gives : goal.returns-in-Ok-2-clause-gives
returns-in-Ok-2-clause-gives g c =
    let small : length c.read.new.into.items ≤ SHEET_LIMIT = omega (arith, c.len.ensures) in
    (record { once = c.in-Ok-2.ensures.asks; whole = small_file (g.H.Shelf.kept c.args.shelf.now) c.args.file.now c.read.new.into.items c.in-Ok-2.ensures.bytes.1 small }, small)
