use Rattle.std.proofs.Common.{◌∙◌, sym}
use Rattle.pc_formula.proofs.TokenWords.{name_nests}
use Rattle.pc_formula.proofs.words.nests.Goals as goal

pub returns-in-Name : goal.returns-in-Name
returns-in-Name c = c.is_reserved.ensures ∙ sym (name_nests c.args.line.now c.args.token _ c.range.ensures.value c.in-Name.is)
