use Rattle.std.proofs.Common.{◌∙◌, ap, arith, sym}
use Rattle.std.specs.Option.{option_copied}
use Rattle.pc_display.proofs.Spelled.{short_name}
use Rattle.pc_display.proofs.columns.value_columns.Goals as goal

pub returns-in-Some-value_name-clause-few : goal.returns-in-Some-value_name-clause-few
returns-in-Some-value_name-clause-few c =
    let name = c.in-Some-value_name.name.now in
    omega (
      arith,
      short_name c.args.book.now.universe c.requires.formed.universe c.args.sort c.args.value name c.requires.value (sym c.value_name.ensures.name ∙ ap option_copied c.in-Some-value_name.is),
      c.width.ensures.bound,
    )
