use Rattle.std.proofs.Common.{◌≡◌, ap, ◌∙◌, arith, rules}
use Rattle.std.proofs.lemmas.Int.{ints}
use mir.Syntax.{w64}
use mir.Val.{SFits, to_z, of_z}
use Rattle.pc_formula.specs.Tree.{value_of, name_value, integer_value}
use Rattle.pc_elaborate.proofs.Unique.{names_are_unique}
use Rattle.pc_elaborate.proofs.CellWalk.{value_told, value_within}
use Rattle.pc_elaborate.proofs.cells.find_sort_value.Goals as goal

pub returns-in-Name-clause-exact : goal.returns-in-Name-clause-exact
returns-in-Name-clause-exact c =
    let u = c.args.book.now.universe in
    value_told u (names_are_unique u c.well_formed-2.ensures.universe.different) c.args.sort (value_of c.args.value.now) (name_value c.in-Name.name) c.find_listed.result (ap value_of c.in-Name.is) c.find_listed.ensures

pub returns-in-Name-clause-within : goal.returns-in-Name-clause-within
returns-in-Name-clause-within c = value_within c.args.book.now.universe c.args.sort (name_value c.in-Name.name) c.find_listed.result c.find_listed.ensures

pub returns-in-Number-clause-exact : goal.returns-in-Number-clause-exact
returns-in-Number-clause-exact c =
    let u = c.args.book.now.universe in
    let fits : SFits w64 c.in-Number.n = search rules in
    let same : c.in-Number.n ≡ to_z w64 (of_z w64 c.in-Number.n) = omega (arith, ints, fits) in
    value_told u (names_are_unique u c.well_formed-2.ensures.universe.different) c.args.sort (value_of c.args.value.now) (integer_value (to_z w64 (of_z w64 c.in-Number.n))) c.find_integer.result (ap value_of c.in-Number.is ∙ ap integer_value same) c.find_integer.ensures

pub returns-in-Number-clause-within : goal.returns-in-Number-clause-within
returns-in-Number-clause-within c = value_within c.args.book.now.universe c.args.sort (integer_value (to_z w64 (of_z w64 c.in-Number.n))) c.find_integer.result c.find_integer.ensures
