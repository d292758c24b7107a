use Rattle.std.proofs.Common.{◌∷◌, codes, sym, ◌∙◌, subst}
use Rattle.pc_token.specs.declared.token.Kind.TheVariants.{Equal}
use Rattle.pc_formula.specs.Word.{name}
use Rattle.pc_cert.specs.Claims.{IsWholePair}
use Rattle.pc_cert.proofs.Words.{tails}
use Rattle.pc_cert.proofs.spelled.denial_words.Goals as goal

pub returns-clause-none : goal.returns-clause-none
returns-clause-none c = λ e x is.
    let behind = tails _ _ (name (codes "not") ∷ is.rest) c.take_name.new.self (sym is.are ∙ c.in-Some.ensures.0) in
    let rest = tails _ _ is.rest c.take_name-2.new.self (behind ∙ c.in-Some-take_name.ensures.0) in
    c.whole_pair.ensures.none e x (subst (λ ws. IsWholePair Equal ws x) rest is.pair)
