use Rattle.std.proofs.Common.{◌≡◌, true, map, rules}
use Rattle.pc_formula.specs.Tree.{item_of, items_of}
use Rattle.pc_elaborate.specs.Told.{variables_of, MayStand}
use Rattle.pc_elaborate.proofs.Unique.{names_are_unique}
use Rattle.pc_elaborate.proofs.SideTold.{named_told, named_listed}
use Rattle.pc_elaborate.proofs.sides.named_side_item.Goals as goal

pub returns-then-not-may_stand : goal.returns-then-not-may_stand
returns-then-not-may_stand c =
    let u = c.args.book.now.universe in
    let lacks : ¬ MayStand c.args.several c.kind_of-kind.result = λ h. let e = c.may_stand.ensures.1 h in let f = c.if-not-may_stand.true in cc in
    named_listed u (variables_of c.args.variables.now) c.args.several c.args.name.now (items_of (map item_of c.args.args.now)) (names_are_unique u c.well_formed-2.ensures.universe.different) c.requires
    c.in_ok-term.term c.in_ok-term.sort c.kind_of-kind.result c.in_ok-term.ensures c.kind_of-kind.ensures lacks

pub returns : goal.returns
returns c =
    let e : c.may_stand.result ≡ true = let f = c.if-not-may_stand.false in search rules in
    named_told c.args.book.now.universe (variables_of c.args.variables.now) c.args.several c.args.name.now (items_of (map item_of c.args.args.now)) c.in_ok-term.term c.in_ok-term.sort c.kind_of-kind.result c.in_ok-term.ensures c.kind_of-kind.ensures (c.may_stand.ensures.0 e)
