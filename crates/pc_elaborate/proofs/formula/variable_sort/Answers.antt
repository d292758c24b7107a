use Rattle.std.proofs.Common.{◌<◌, length, Contains, subst, rules, arith, inl, inr}
use Rattle.pc_sheet.specs.WellSorted.{declared_names}
use Rattle.std.proofs.lemmas.List.{length-map}
use Rattle.pc_elaborate.specs.Told.{variable_of, variables_of}
use Rattle.pc_books.proofs.NamesLemmas.{name_is_declared}
use Rattle.pc_elaborate.proofs.ItemLaws.{bound_at}
use Rattle.pc_elaborate.proofs.ItemTold.{stands_for}
use Rattle.pc_elaborate.proofs.FormulaTold.{taken_fails, sort_told}
use Rattle.pc_elaborate.proofs.formula.variable_sort.Goals as goal

pub returns-in-Some : goal.returns-in-Some
returns-in-Some c =
    let u = c.args.book.now.universe in
    let vs = variables_of c.args.variables.now in
    let room : length vs < 16 = let n = length-map c.args.variables.now variable_of in omega (arith, n, c.requires.depth, c.if-variables-eq-MOST_DEPTH.false) in
    let is = stands_for u c.args.name.now c.as_str.result.now c.as_str.ensures.text c.look_up.result c.look_up.ensures.exact c.in-Some._declared c.in-Some.is in
    taken_fails u vs c.args.name.now c.args.sort.now room (inl (name_is_declared u c.args.name.now c.in-Some._declared is))

pub returns-in-Some-variable_named : goal.returns-in-Some-variable_named
returns-in-Some-variable_named c =
    let u = c.args.book.now.universe in
    let vs = variables_of c.args.variables.now in
    let room : length vs < 16 = let n = length-map c.args.variables.now variable_of in omega (arith, n, c.requires.depth, c.if-variables-eq-MOST_DEPTH.false) in
    taken_fails u vs c.args.name.now c.args.sort.now room (inr (bound_at vs c.in-Some-variable_named.field-0.0 c.args.name.now c.in-Some-variable_named.field-0.1 c.in-Some-variable_named.ensures.some))

pub returns-in-None-variable_named : goal.returns-in-None-variable_named
returns-in-None-variable_named c =
    let u = c.args.book.now.universe in
    let vs = variables_of c.args.variables.now in
    let room : length vs < 16 = let n = length-map c.args.variables.now variable_of in omega (arith, n, c.requires.depth, c.if-variables-eq-MOST_DEPTH.false) in
    let undeclared : ¬ Contains (declared_names u) c.as_str.result.now = c.look_up.ensures.undeclared.0 (search rules) in
    sort_told u vs c.args.name.now c.args.sort.now c.as_str.ensures.name room (subst (λ n. ¬ Contains (declared_names u) n) c.as_str.ensures.text undeclared) c.in-None-variable_named.ensures.none c.find_sort.result c.find_sort.ensures.told
