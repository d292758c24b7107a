use Rattle.pc_cert.specs.Claims.{IsDenial}
use Rattle.pc_cert.proofs.Spelling.{spells_nothing}
use Rattle.pc_cert.proofs.spelled.read_denial.Goals as goal

pub returns-clause-none : goal.returns-clause-none
returns-clause-none c = λ e. spells_nothing IsDenial c.args.text.now c.in_ok-spelled.spelled c.words-words.result c.in_ok-spelled.ensures.told c.words-words.ensures (c.denial_words.ensures.none e)
