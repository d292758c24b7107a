use Rattle.std.proofs.Common.{sym, ◌∙◌, subst}
use Rattle.pc_token.specs.declared.token.Kind.TheVariants.{Equal}
use Rattle.pc_cert.specs.Claims.{IsWholePair}
use Rattle.pc_cert.proofs.Words.{tails}
use Rattle.pc_cert.proofs.spelled.word_pair.Goals as goal

pub returns-clause-none : goal.returns-clause-none
returns-clause-none c = λ e x is.
    let rest = tails _ _ is.rest c.take_name.new.self (sym is.are ∙ c.in-Some.ensures.0) in
    c.whole_pair.ensures.none e x (subst (λ ws. IsWholePair Equal ws x) rest is.pair)
