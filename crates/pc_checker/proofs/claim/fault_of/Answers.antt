use Rattle.pc_checker.proofs.ClaimVerdict.{none_from, entered, entered_requires, values_are, held, not_entered, not_held, rule_broken, stands}
use Rattle.pc_checker.proofs.claim.fault_of.Goals as goal

pub first_not_entered-requires : goal.first_not_entered-requires
first_not_entered-requires c = entered_requires c.args.book.now c.args.left_out c.args.shown.uses.now c.args.shown.values.now c.args.shown.after c.args.entered.now c.args.shown.assigned.now c.requires
    c.well_formed-2.ensures.universe

pub returns-in-Some : goal.returns-in-Some
returns-in-Some c =
    not_entered c.args.book.now c.args.left_out c.args.shown.uses.now c.args.shown.values.now c.args.shown.after c.args.entered.now c.args.shown.assigned.now c.requires
    c.first_not_entered.result c.in-Some.line c.in-Some.is (c.first_not_entered.ensures c.args.book.now.entries c.requires.entered.by_pair)

pub returns-in-Some-first_not_held : goal.returns-in-Some-first_not_held
returns-in-Some-first_not_held c =
    let s = c.args.book.now in
    let out = c.args.left_out in
    let u = c.args.shown.uses.now in
    let v = c.args.shown.values.now in
    let n = c.args.shown.after in
    let by = c.args.entered.now in
    let a = c.args.shown.assigned.now in
    let before = entered s out u v n by a c.requires c.first_not_entered.result (none_from c.first_not_entered.result c.in_default.not-Some) (c.first_not_entered.ensures s.entries c.requires.entered.by_pair) in
    let right = values_are s out u v n by a c.requires c.cells.result c.fault_of_values.result (none_from c.fault_of_values.result c.in_default-fault_of_values.not-Some) c.cells.ensures.exact c.fault_of_values.ensures in
    not_held s out u v n by a c.requires c.values.result.now c.first_not_held.result c.in-Some-first_not_held.line c.values.ensures c.in-Some-first_not_held.is before right c.first_not_held.ensures

pub returns-in-Some-first_broken : goal.returns-in-Some-first_broken
returns-in-Some-first_broken c =
    let s = c.args.book.now in
    let out = c.args.left_out in
    let u = c.args.shown.uses.now in
    let v = c.args.shown.values.now in
    let n = c.args.shown.after in
    let by = c.args.entered.now in
    let a = c.args.shown.assigned.now in
    let before = entered s out u v n by a c.requires c.first_not_entered.result (none_from c.first_not_entered.result c.in_default.not-Some) (c.first_not_entered.ensures s.entries c.requires.entered.by_pair) in
    let right = values_are s out u v n by a c.requires c.cells.result c.fault_of_values.result (none_from c.fault_of_values.result c.in_default-fault_of_values.not-Some) c.cells.ensures.exact c.fault_of_values.ensures in
    let has = held s out u v n by a c.requires c.values.result.now c.first_not_held.result c.values.ensures (none_from c.first_not_held.result c.in_default-first_not_held.not-Some) c.first_not_held.ensures in
    rule_broken s out u v n by a c.requires c.first_broken.result c.in-Some-first_broken.rule c.in-Some-first_broken.is before right has c.first_broken.ensures

pub returns : goal.returns
returns c =
    let s = c.args.book.now in
    let out = c.args.left_out in
    let u = c.args.shown.uses.now in
    let v = c.args.shown.values.now in
    let n = c.args.shown.after in
    let by = c.args.entered.now in
    let a = c.args.shown.assigned.now in
    let before = entered s out u v n by a c.requires c.first_not_entered.result (none_from c.first_not_entered.result c.in_default.not-Some) (c.first_not_entered.ensures s.entries c.requires.entered.by_pair) in
    let right = values_are s out u v n by a c.requires c.cells.result c.fault_of_values.result (none_from c.fault_of_values.result c.in_default-fault_of_values.not-Some) c.cells.ensures.exact c.fault_of_values.ensures in
    let has = held s out u v n by a c.requires c.values.result.now c.first_not_held.result c.values.ensures (none_from c.first_not_held.result c.in_default-first_not_held.not-Some) c.first_not_held.ensures in
    stands s out u v n by a c.requires c.first_broken.result (none_from c.first_broken.result c.in_default-first_broken.not-Some) before right has c.first_broken.ensures
