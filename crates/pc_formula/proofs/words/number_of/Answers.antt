use Rattle.std.proofs.Common.{◌≡◌, rules}
use Rattle.pc_token.specs.declared.token.Kind.TheVariants.{Number}
use Rattle.pc_formula.proofs.TokenWords.{number_is, is_numeral, digits_within}
use Rattle.pc_formula.proofs.words.number_of.Goals as goal

pub returns : goal.returns
returns c =
    let kind : c.args.token.kind ≡ Number = search rules in (
      number_is c.args.line.now c.args.token _ c.range.ensures.value kind,
      is_numeral c.args.line.now c.args.token _ c.requires c.range.ensures.value kind,
      digits_within c.args.line.now c.args.token _ c.requires c.range.ensures.value kind,
    )
