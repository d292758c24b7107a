use Rattle.std.proofs.Common.{◌≡◌, Err, ap}
use Rattle.std.proofs.lemmas.Result.{err_from_is_err_and}
use Rattle.pc_formula.specs.declared.refusal.Refusal.TheVariants.{Syntax}
use Rattle.pc_token.specs.declared.token.Kind.TheVariants.{Equal}
use Rattle.pc_cert.specs.Claims.{IsWordPair}
use Rattle.pc_cert.specs.Trees.{pair_of}
use Rattle.pc_cert.proofs.Spelling.{spells_this, spells_nothing}
use Rattle.pc_cert.proofs.spelled.read_word_pair.Goals as goal

pub returns-in_err-spelled-clause-none : goal.returns-in_err-spelled-clause-none
returns-in_err-spelled-clause-none c = λ e x s.
    let p = err_from_is_err_and c.from_residual.result c.from_residual.ensures.1 in
    let is : c.in_err-spelled.field-0.0 ≡ Syntax = cc (e, p.1, p.2) in
    c.in_err-spelled.ensures.none (ap Err is) s.words s.spells

pub returns-clause-told : goal.returns-clause-told
returns-clause-told c = spells_this (IsWordPair c.args.word.now Equal) c.args.text.now c.in_ok-spelled.spelled c.words-words.result c.in_ok-spelled.ensures.told c.words-words.ensures pair_of c.word_pair.result c.word_pair.ensures.told

pub returns-clause-none : goal.returns-clause-none
returns-clause-none c = λ e. spells_nothing (IsWordPair c.args.word.now Equal) c.args.text.now c.in_ok-spelled.spelled c.words-words.result c.in_ok-spelled.ensures.told c.words-words.ensures (c.word_pair.ensures.none e)
