use Rattle.pc_spreadsheet.proofs.Answering.{answered_text, some_rules}
use Rattle.pc_spreadsheet.proofs.pages.write_answer.Goals as goal

pub write_asked-requires-clause-some : goal.write_asked-requires-clause-some
write_asked-requires-clause-some g c = some_rules c.args.session.now.sheet c.requires.0 c.args.proof.now.book c.requires.1.0

pub returns : goal.returns
returns g c =
    let written = c.write_asked.ensures in
    (_, answered_text c.args.session.now.sheet c.requires.0 c.args.proof.now written.0 c.requires.1 written.1, written.2)
