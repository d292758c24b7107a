use Rattle.pc_formula.proofs.TokenWords.{is_the_sign, has_the_kind}
use Rattle.pc_formula.proofs.words.is_sign.Goals as goal

pub returns : goal.returns
returns c = λ line.
    (λ yes. is_the_sign line c.args.token c.args.kind c.requires (c.is_of_kind.ensures.0 yes), λ is. c.is_of_kind.ensures.1 (has_the_kind line c.args.token c.args.kind is))
