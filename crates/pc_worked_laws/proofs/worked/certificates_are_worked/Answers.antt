use Rattle.pc_worked_laws.proofs.CertificatesHold.{worked_against, worked_opposed, worked_few_sets, worked_within}
use Rattle.pc_worked_laws.proofs.worked.certificates_are_worked.Goals as goal

pub returns-clause-against : goal.returns-clause-against
returns-clause-against c = worked_against

pub returns-clause-opposed : goal.returns-clause-opposed
returns-clause-opposed c = worked_opposed

pub returns-clause-few_sets : goal.returns-clause-few_sets
returns-clause-few_sets c = worked_few_sets

pub returns-clause-within : goal.returns-clause-within
returns-clause-within c = worked_within
