use Rattle.std.proofs.Common.{◌≡◌, rules, sym, ◌∙◌, ap}
use Rattle.pc_name.specs.Names.{is_reserved}
use Rattle.pc_token.specs.declared.token.Kind.TheVariants.{Name}
use Rattle.pc_formula.proofs.TokenWords.{reserved_name, name_is, text_is_name}
use Rattle.pc_formula.proofs.words.name_of.Goals as goal

pub returns-then-is_reserved : goal.returns-then-is_reserved
returns-then-is_reserved c = λ text is.
    let slice = c.range-text.ensures.value in
    reserved_name c.args.line.now c.args.token (ap is_reserved (sym slice) ∙ sym c.is_reserved.ensures ∙ c.if-is_reserved.true) text is

pub returns : goal.returns
returns c =
    let kind : c.args.token.kind ≡ Name = search rules in
    let free = sym c.is_reserved.ensures ∙ c.if-is_reserved.false in
    (name_is c.args.line.now c.args.token _ c.range-text.ensures.value kind free, text_is_name c.args.line.now c.args.token _ c.requires.token c.requires.short c.range-text.ensures.value kind free)
