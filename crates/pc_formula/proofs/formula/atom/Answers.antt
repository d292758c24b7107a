use Rattle.std.proofs.Common.{refl, sym, subst}
use Rattle.std.proofs.lemmas.Result.{IfOk-weaker, err_from_is_err_and}
use Rattle.pc_formula.specs.declared.tree.FormulaTree.{FormulaTree}
use Rattle.pc_formula.specs.Tree.{formula_of, side_of}
use Rattle.pc_formula.specs.Front.{Reads}
use Rattle.pc_formula.specs.Grammar.{unary, IsTableAtom, Derives}
use Rattle.pc_formula.proofs.Stops.{stops_unary}
use Rattle.pc_formula.proofs.Unaries.{atom_none_left, table_reads, table_none, comparison_none, comparison_reads, comparison_goes_on}
use Rattle.pc_formula.proofs.Views.{formula_of-Compare}
use Rattle.pc_formula.proofs.Numerals.{false_not}
use Rattle.pc_formula.proofs.formula.atom.Goals as goal

pub returns-in_err-left-clause-err : goal.returns-in_err-left-clause-err
returns-in_err-left-clause-err c = λ refused.
    let p = err_from_is_err_and c.from_residual.result c.from_residual.ensures.1 in
    atom_none_left _ c.requires.0 c.requires.1 (c.in_err-left.ensures.err (cc))

pub returns-in_default-clause-ok : goal.returns-in_default-clause-ok
returns-in_default-clause-ok c =
    let kept = c.in_default.ensures in
    let left = c.in_ok-left.ensures.ok in
    IfOk-weaker c.table_atom.result (λ (t : FormulaTree). IsTableAtom (side_of c.in_ok-left.left) (formula_of t)) (λ (t : FormulaTree). Reads (Derives unary) 3 c.args.words.now (formula_of t) c.take_op.new.self)
    (λ t is. subst (λ ws. Reads (Derives unary) 3 c.args.words.now (formula_of t) ws) (sym kept.0) (table_reads _ c.requires.0 c.requires.1 _ _ left kept.1 (formula_of t) is (stops_unary _ left.stops kept.1))) c.table_atom.ensures.ok

pub returns-in_default-clause-err : goal.returns-in_default-clause-err
returns-in_default-clause-err c = λ refused. table_none _ c.requires.0 c.requires.1 _ _ c.in_ok-left.ensures.ok c.in_default.ensures.1 (c.table_atom.ensures.err refused)

pub returns-in_err-right-clause-err : goal.returns-in_err-right-clause-err
returns-in_err-right-clause-err c = λ refused.
    let p = err_from_is_err_and c.from_residual-in_err-right.result c.from_residual-in_err-right.ensures.1 in
    comparison_none _ c.requires.0 c.requires.1 _ _ c.in_ok-left.ensures.ok c.in-Some.op _ c.in-Some.ensures (c.in_err-right.ensures.err (cc))

pub returns-then-not-stops_at-clause-err : goal.returns-then-not-stops_at-clause-err
returns-then-not-stops_at-clause-err c = λ refused.
    comparison_goes_on _ c.requires.0 c.requires.1 _ _ c.in_ok-left.ensures.ok c.in-Some.op _ c.in-Some.ensures _ _ c.in_ok-right.ensures.ok (false_not _ c.stops_at.ensures.1 c.if-not-stops_at.true)

pub returns-clause-ok : goal.returns-clause-ok
returns-clause-ok c =
    let seen = formula_of-Compare c.in_ok-left.left c.in_ok-right.right c.in-Some.op _ _ refl refl in
    let read = comparison_reads _ c.requires.0 c.requires.1 _ _ c.in_ok-left.ensures.ok c.in-Some.op _ c.in-Some.ensures _ _ c.in_ok-right.ensures.ok (c.stops_at.ensures.0 c.if-not-stops_at.false) in
    subst (λ f. Reads (Derives unary) 3 c.args.words.now f c.side-2.new.words) (sym seen) read
