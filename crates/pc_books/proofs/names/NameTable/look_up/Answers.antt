use Rattle.std.proofs.Common.{◌∙◌, sym, ap}
use Rattle.std.specs.Map.{lookup}
use Rattle.std.specs.Str.{bytes_eq}
use Rattle.pc_books.proofs.TableLemmas.{lookup-named_texts}
use Rattle.pc_books.proofs.names.NameTable.look_up.Goals as goal

pub returns : goal.returns
returns c =
    c.copied.ensures ∙ c.get.ensures.value ∙ sym (lookup-named_texts c.args.name.now c.self.inside.names.entries)
    ∙ ap (lookup (bytes_eq c.args.name.now)) c.self.view_is
