use Rattle.pc_writer.specs.Spelling.{entry_text}
use Rattle.pc_display.proofs.KeptLemmas.{kept_utf8}
use Rattle.pc_display.proofs.Spelled.{entry_utf8}
use Rattle.pc_display.proofs.texts.entry_text.Goals as goal

pub into_text-requires : goal.into_text-requires
into_text-requires c =
    let u = c.args.book.now.universe in
    kept_utf8 c.new-kept.result.bytes.items c.write_entry.new.out.bytes.items (entry_text u c.args.entry) c.new-kept.ensures c.in-Ok.ensures.bytes (entry_utf8 u c.requires.formed.universe c.args.entry c.requires.entry)
