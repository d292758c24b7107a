use Rattle.std.proofs.Common.{◌∙◌, ap, filter}
use Rattle.pc_books.specs.Edits.{agrees_with}
use Rattle.pc_books.proofs.EntryLemmas.{entered_after}
use Rattle.pc_books.proofs.entries.enter.Goals as goal

pub returns-clause-ok : goal.returns-clause-ok
returns-clause-ok c = c.keep_agreeing.ensures ∙ ap (filter (agrees_with c.args.entry)) c.in_ok-add.ensures.ok ∙ entered_after c.args.entries.now.items c.args.entry
