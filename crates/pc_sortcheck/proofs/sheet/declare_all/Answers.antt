use Rattle.std.proofs.Common.{◌<◌, ◌∙◌, length, get_or, ap, arith}
use Rattle.pc_syntax.specs.Tree.{sheet_of}
use Rattle.pc_sortcheck.proofs.Lines.{line_of, line_at, line_below, this_written, this_first, this_fault, goes_on}
use Rattle.pc_sortcheck.proofs.Outcomes.{told_ok}
use Rattle.pc_sortcheck.proofs.sheet.declare_all.Goals as goal

pub declare-requires-clause-first : goal.declare-requires-clause-first
declare-requires-clause-first c =
    let ps = c.args.tree.now.declarations.items in
    let is = line_at ps c.loop-line.line-index c.line-item.result (c.line-item.is ∙ ap (λ xs. get_or xs c.loop-line.line-index c.line-item.result) c.deref-line-items.ensures.value) in
    let below : c.loop-line.line-index < length c.args.tree.now.declarations.items = omega (arith, c.loop-line-test.true, ap length c.deref-line-items.ensures.value) in
    this_first (sheet_of c.args.tree.now) c.loop-line.line-index (line_of c.line-item.result) c.loop-line.book c.loop-line.invariant is (line_below ps c.loop-line.line-index below)

pub declare-requires-clause-written : goal.declare-requires-clause-written
declare-requires-clause-written c =
    let ps = c.args.tree.now.declarations.items in
    let is = line_at ps c.loop-line.line-index c.line-item.result (c.line-item.is ∙ ap (λ xs. get_or xs c.loop-line.line-index c.line-item.result) c.deref-line-items.ensures.value) in
    let below : c.loop-line.line-index < length c.args.tree.now.declarations.items = omega (arith, c.loop-line-test.true, ap length c.deref-line-items.ensures.value) in
    this_written (sheet_of c.args.tree.now) c.loop-line.line-index (line_of c.line-item.result) c.loop-line.book c.loop-line.invariant is (line_below ps c.loop-line.line-index below)

pub returns-in-Err : goal.returns-in-Err
returns-in-Err c =
    let ps = c.args.tree.now.declarations.items in
    let is = line_at ps c.loop-line.line-index c.line-item.result (c.line-item.is ∙ ap (λ xs. get_or xs c.loop-line.line-index c.line-item.result) c.deref-line-items.ensures.value) in
    let below : c.loop-line.line-index < length c.args.tree.now.declarations.items = omega (arith, c.loop-line-test.true, ap length c.deref-line-items.ensures.value) in
    this_fault (sheet_of c.args.tree.now) c.loop-line.line-index (line_of c.line-item.result) c.loop-line.book c.loop-line.invariant is (line_below ps c.loop-line.line-index below) c.in-Err.fault c.in-Err.ensures

pub loop-line-preserved : goal.loop-line-preserved
loop-line-preserved c =
    let ps = c.args.tree.now.declarations.items in
    let is = line_at ps c.loop-line.line-index c.line-item.result (c.line-item.is ∙ ap (λ xs. get_or xs c.loop-line.line-index c.line-item.result) c.deref-line-items.ensures.value) in
    let below : c.loop-line.line-index < length c.args.tree.now.declarations.items = omega (arith, c.loop-line-test.true, ap length c.deref-line-items.ensures.value) in
    let made = told_ok c.declare.result _ c.declare.ensures c.in_default-declare.not-Err in
    goes_on (sheet_of c.args.tree.now) c.loop-line.line-index (line_of c.line-item.result) c.loop-line.book c.loop-line.invariant is (line_below ps c.loop-line.line-index below) c.declare.new.book made
