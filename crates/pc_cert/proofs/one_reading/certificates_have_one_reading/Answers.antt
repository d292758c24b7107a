use Rattle.pc_cert.proofs.OneForm.{line_once}
use Rattle.pc_cert.proofs.OneReading.{one_saying, one_reading}
use Rattle.pc_cert.proofs.one_reading.certificates_have_one_reading.Goals as goal

pub returns-clause-form : goal.returns-clause-form
returns-clause-form c = line_once (record { reading = c.one_reading.ensures; value = c.one_value.ensures.value; cell = c.one_value.ensures.cell; equation = c.one_value.ensures.equation })

pub returns-clause-saying : goal.returns-clause-saying
returns-clause-saying c = one_saying c.trees_have_one_outcome.ensures

pub returns-clause-text : goal.returns-clause-text
returns-clause-text c = one_reading (record { reading = c.one_reading.ensures; value = c.one_value.ensures.value; cell = c.one_value.ensures.cell; equation = c.one_value.ensures.equation }) c.trees_have_one_outcome.ensures
