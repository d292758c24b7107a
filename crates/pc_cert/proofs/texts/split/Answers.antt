use Rattle.std.proofs.Common.{refl, sym, subst}
use Rattle.pc_token.specs.Token.{split, Splits}
use Rattle.pc_formula.specs.Word.{words_of, HasWords, HasShortNames}
use Rattle.pc_cert.proofs.Spelling.{one_words}
use Rattle.pc_cert.proofs.Words.{differs}
use Rattle.pc_cert.proofs.texts.split.Goals as goal

pub returns-in-Err-BadCharacter-clause-none : goal.returns-in-Err-BadCharacter-clause-none
returns-in-Err-BadCharacter-clause-none c = λ e ws has short.
    let told = rw c.in-Err-BadCharacter.field-0-is at c.in-Err-BadCharacter.ensures.only in
    let clash = told (split has.tokens) has.splits in
    cc

pub returns-in-Err-NumberTooLong-clause-none : goal.returns-in-Err-NumberTooLong-clause-none
returns-in-Err-NumberTooLong-clause-none c = λ e ws has short.
    let told = rw c.in-Err-NumberTooLong.field-0-is at c.in-Err-NumberTooLong.ensures.only in
    let clash = told (split has.tokens) has.splits in
    cc

pub returns-then-not-has_short_names-clause-none : goal.returns-then-not-has_short_names-clause-none
returns-then-not-has_short_names-clause-none c = λ e ws has short.
    let here : HasWords c.args.text.now (words_of c.args.text.now c.as_slice.result.now) =
    record { tokens = c.as_slice.result.now; splits = subst (Splits c.args.text.now) (sym c.as_slice.ensures.value) c.in-Ok.ensures.split; words = refl } in
    let same = one_words c.args.text.now ws (words_of c.args.text.now c.as_slice.result.now) has here in
    differs c.has_short_names.result (HasShortNames (words_of c.args.text.now c.as_slice.result.now)) c.has_short_names.ensures c.if-not-has_short_names.true (subst HasShortNames same short)
