use Rattle.pc_books.proofs.BookLemmas.{sound_of}
use Rattle.pc_books.proofs.declarations.Declarations.scheme.Goals as goal

pub returns-clause-sound : goal.returns-clause-sound
returns-clause-sound c = sound_of c.self.inside.scheme c.self.invariant.well_formed c.self.invariant.counted

pub returns-clause-formed : goal.returns-clause-formed
returns-clause-formed c = c.self.invariant.well_formed
