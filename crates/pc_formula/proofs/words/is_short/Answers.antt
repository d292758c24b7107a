use Rattle.std.proofs.Common.{◌≡◌, rules, arith}
use Rattle.std.proofs.lemmas.Bool.Decides.{nat_tests}
use Rattle.pc_token.specs.declared.token.Kind.TheVariants.{Name}
use Rattle.pc_formula.proofs.TokenWords.{is_short_sign, short_text, text_short}
use Rattle.pc_formula.proofs.words.is_short.Goals as goal

pub returns-then-ne : goal.returns-then-ne
returns-then-ne c = (λ yes. is_short_sign c.args.line.now c.args.token (search rules), λ short. search rules)

pub returns : goal.returns
returns c =
    let kind : c.args.token.kind ≡ Name = search rules in
    let slice = c.range.ensures.value in
    (λ yes. short_text c.args.line.now c.args.token _ slice kind (grind (arith, nat_tests)), λ short. let few = text_short c.args.line.now c.args.token _ slice kind short in grind (arith, nat_tests))
