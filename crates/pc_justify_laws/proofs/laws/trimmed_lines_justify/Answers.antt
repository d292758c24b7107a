use Rattle.pc_justify_laws.proofs.Ends.{trimmed_lines_justify}
use Rattle.pc_justify_laws.proofs.laws.trimmed_lines_justify.Goals as goal

pub returns : goal.returns
returns c =
    trimmed_lines_justify c.clauses_are_of_axioms.ensures c.symbols_are_variables.ensures c.pairs_are_variables.ensures c.variables_have_their_places.ensures c.trimming_keeps_derivations.ensures
    c.accepted_are_writable.ensures.reasons
