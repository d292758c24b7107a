use Rattle.std.proofs.Common.{◌≡◌, arith}
use Rattle.std.proofs.lemmas.Bool.Decides.{nat_tests}
use Rattle.pc_elaborate.proofs.CellWalk.{other_value}
use Rattle.pc_elaborate.proofs.cells.find_listed.Goals as goal

pub returns-then-ne : goal.returns-then-ne
returns-then-ne c =
    let differs : c.in-Some.found.0 ≡ c.args.sort.0 → ⊥ = grind (arith, nat_tests) in
    other_value c.args.book.now.universe c.args.sort c.in-Some.found c.args.name.now c.in-Some.value c.value_named.result c.value_named.ensures c.in-Some.is differs
