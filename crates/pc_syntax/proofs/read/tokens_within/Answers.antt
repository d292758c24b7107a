use Rattle.pc_token.specs.Token.{split}
use Rattle.pc_formula.proofs.TokenWords.{short_tokens}
use Rattle.pc_syntax.proofs.read.tokens_within.Goals as goal

pub returns-in-Err-BadCharacter-clause-told : goal.returns-in-Err-BadCharacter-clause-told
returns-in-Err-BadCharacter-clause-told c = λ ws has.
    let told = rw c.in-Err-BadCharacter.field-0-is at c.in-Err-BadCharacter.ensures.only in
    let clash = told (split has.tokens) has.splits in
    cc

pub returns-in-Err-NumberTooLong-clause-told : goal.returns-in-Err-NumberTooLong-clause-told
returns-in-Err-NumberTooLong-clause-told c = λ ws has.
    let told = rw c.in-Err-NumberTooLong.field-0-is at c.in-Err-NumberTooLong.ensures.only in
    let clash = told (split has.tokens) has.splits in
    cc

pub new-requires-clause-short : goal.new-requires-clause-short
new-requires-clause-short c = short_tokens c.args.line.now _ c.requires

pub returns-clause-short : goal.returns-clause-short
returns-clause-short c = short_tokens c.args.line.now _ c.requires
