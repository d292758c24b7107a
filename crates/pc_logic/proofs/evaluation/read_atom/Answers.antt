use Rattle.pc_sheet.specs.Views.{statement_of}
use Rattle.pc_books.specs.SchemeView.{universe_of}
use Rattle.pc_logic.proofs.AddendLemmas.{none_of_sides}
use Rattle.pc_logic.proofs.evaluation.read_atom.Goals as goal

pub read_atom-requires-clause-sound : goal.read_atom-requires-clause-sound
read_atom-requires-clause-sound c = c.scheme.ensures.sound

pub read_atom-requires-clause-addends : goal.read_atom-requires-clause-addends
read_atom-requires-clause-addends c = none_of_sides (universe_of c.scheme.result.now) c.args.scope.now (statement_of c.args.atom.now)
