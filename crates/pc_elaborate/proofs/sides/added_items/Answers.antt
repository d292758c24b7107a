use Rattle.std.proofs.Common.{◌≤◌, length, arith}
use Rattle.pc_elaborate.specs.Told.{variables_of}
use Rattle.pc_elaborate.proofs.SideTold.{every_added}
use Rattle.pc_elaborate.proofs.sides.added_items.Goals as goal

pub returns : goal.returns
returns c =
    let l : length c.args.rest.now ≤ c.loop-sign.sign-index = omega arith in
    every_added c.args.book.now.universe (variables_of c.args.variables.now) c.args.rest.now c.loop-sign.sign-index c.loop-sign.items l c.loop-sign.invariant
