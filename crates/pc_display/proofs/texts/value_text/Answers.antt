use Rattle.pc_writer.specs.Spelling.{value_text}
use Rattle.pc_display.proofs.KeptLemmas.{kept_utf8}
use Rattle.pc_display.proofs.Spelled.{value_utf8}
use Rattle.pc_display.proofs.texts.value_text.Goals as goal

pub into_text-requires : goal.into_text-requires
into_text-requires c =
    let u = c.args.book.now.universe in
    kept_utf8 c.new-kept.result.bytes.items c.write_value.new.out.bytes.items (value_text u c.args.sort c.args.value) c.new-kept.ensures c.in-Ok.ensures.bytes (value_utf8 u c.requires.formed.universe c.args.sort c.args.value c.requires.value)
