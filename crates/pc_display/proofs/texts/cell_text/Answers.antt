use Rattle.pc_writer.specs.Spelling.{cell_text}
use Rattle.pc_display.proofs.KeptLemmas.{kept_utf8}
use Rattle.pc_display.proofs.Spelled.{cell_utf8}
use Rattle.pc_display.proofs.texts.cell_text.Goals as goal

pub into_text-requires : goal.into_text-requires
into_text-requires c =
    let u = c.args.book.now.universe in
    kept_utf8 c.new-kept.result.bytes.items c.write_cell.new.out.bytes.items (cell_text u c.args.cell) c.new-kept.ensures c.in-Ok.ensures.bytes (cell_utf8 u c.requires.formed.universe c.args.cell c.requires.cell)
