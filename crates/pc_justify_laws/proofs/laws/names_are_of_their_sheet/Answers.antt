use Rattle.pc_justify_laws.proofs.OfSheet.{names_are_of_their_sheet}
use Rattle.pc_justify_laws.proofs.laws.names_are_of_their_sheet.Goals as goal

pub returns : goal.returns
returns c = names_are_of_their_sheet c.clauses_are_of_axioms.ensures
