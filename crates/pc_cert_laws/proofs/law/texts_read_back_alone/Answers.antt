use Rattle.pc_cert_laws.proofs.Alone.{alone, answered}
use Rattle.pc_cert_laws.proofs.law.texts_read_back_alone.Goals as goal

pub returns-clause-texts : goal.returns-clause-texts
returns-clause-texts c = alone c.certificates_have_one_reading.ensures.text

pub returns-clause-readers : goal.returns-clause-readers
returns-clause-readers c = answered c.certificates_have_one_reading.ensures.text
