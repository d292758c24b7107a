use Rattle.pc_justify_laws.proofs.Ends.{trimmed_lines_refute}
use Rattle.pc_justify_laws.proofs.laws.trimmed_lines_refute.Goals as goal

pub returns : goal.returns
returns c = trimmed_lines_refute c.clauses_are_of_axioms.ensures c.symbols_are_variables.ensures c.variables_have_their_places.ensures c.trimming_keeps_derivations.ensures
    c.accepted_are_writable.ensures.refutations
