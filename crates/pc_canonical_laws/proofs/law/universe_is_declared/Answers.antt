use Rattle.pc_canonical_laws.proofs.Universes.{universe_given}
use Rattle.pc_canonical_laws.proofs.law.universe_is_declared.Goals as goal

pub returns : goal.returns
returns c = universe_given
