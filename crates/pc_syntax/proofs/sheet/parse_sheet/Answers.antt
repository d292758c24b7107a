use Rattle.std.proofs.Common.{◌≡◌, Ok, Err, sym, ap, subst, arith}
use Rattle.std.proofs.lemmas.Result.{err_from_is_err_and}
use Rattle.std.specs.Str.Lines.{lines}
use Rattle.pc_syntax.specs.declared.tree.SheetFault.TheVariants.{NoBegin}
use Rattle.pc_syntax.specs.Part.{declared, IsAtFaultIn}
use Rattle.pc_syntax.specs.Told.{Blames}
use Rattle.pc_syntax.proofs.Limits.{sized_sheet, nested_sheet}
use Rattle.pc_syntax.proofs.Ordered.{ordered_sheet}
use Rattle.pc_syntax.proofs.ReadLine.{differs}
use Rattle.pc_syntax.proofs.Progress.{starts, goes_on, blamed, finished, unfinished, tells}
use Rattle.pc_syntax.proofs.sheet.parse_sheet.Goals as goal

pub lines-init : goal.lines-init
lines-init c = record { progress = starts _ _ (ap declared c.new-declarations.ensures.items); first = omega arith; within = omega arith }

pub take_line-requires : goal.take_line-requires
take_line-requires c = omega (arith, c.in-Some.ensures.short, c.lines.invariant.first, c.lines.invariant.within, c.requires)

pub lines-preserved : goal.lines-preserved
lines-preserved c = record {
  progress = goes_on _ _ _ _ _ c.lines.invariant.progress _ _ c.in-Some.ensures.first _ _ c.in_ok-part.ensures;
  first = omega arith;
  within = omega (arith, c.in-Some.ensures.shorter, c.lines.invariant.within);
}

pub returns-in_err-part-clause-told : goal.returns-in_err-part-clause-told
returns-in_err-part-clause-told c =
    let p = err_from_is_err_and c.from_residual.result c.from_residual.ensures.1 in
    let same : p.0 ≡ c.in_err-part.field-0.0 = cc p.2 in
    let faults = subst (λ f. Blames f c.lines.number (λ e. IsAtFaultIn c.lines.part c.in-Some.line.now e)) (sym same) c.in_err-part.ensures in
    blamed c.args.bytes.now c.lines.part c.lines.number (lines c.lines.rest.now) (declared c.lines.declarations.items) c.lines.invariant.progress c.in-Some.line.now (lines c.in-Some.after.now) c.in-Some.ensures.first p.0 faults c.from_residual.result p.1

pub returns-in_err-part-clause-only : goal.returns-in_err-part-clause-only
returns-in_err-part-clause-only c =
    let p = err_from_is_err_and c.from_residual.result c.from_residual.ensures.1 in
    let same : p.0 ≡ c.in_err-part.field-0.0 = cc p.2 in
    let faults = subst (λ f. Blames f c.lines.number (λ e. IsAtFaultIn c.lines.part c.in-Some.line.now e)) (sym same) c.in_err-part.ensures in
    tells c.args.bytes.now c.from_residual.result (blamed c.args.bytes.now c.lines.part c.lines.number (lines c.lines.rest.now) (declared c.lines.declarations.items) c.lines.invariant.progress c.in-Some.line.now (lines c.in-Some.after.now) c.in-Some.ensures.first p.0 faults c.from_residual.result p.1)

pub returns-then-not-is_end-clause-told : goal.returns-then-not-is_end-clause-told
returns-then-not-is_end-clause-told c = unfinished _ _ _ _ _ c.lines.invariant.progress c.in_default.ensures.first (differs _ _ c.is_end.ensures c.if-not-is_end.true)

pub returns-then-not-is_end-clause-only : goal.returns-then-not-is_end-clause-only
returns-then-not-is_end-clause-only c = tells c.args.bytes.now (Err NoBegin) (unfinished _ _ _ _ _ c.lines.invariant.progress c.in_default.ensures.first (differs _ _ c.is_end.ensures c.if-not-is_end.true))

pub returns-clause-told : goal.returns-clause-told
returns-clause-told c = finished _ _ _ _ _ c.lines.invariant.progress c.in_default.ensures.first (c.is_end.ensures.0 c.if-not-is_end.false)

pub returns-clause-only : goal.returns-clause-only
returns-clause-only c = tells c.args.bytes.now (Ok (record { declarations = c.lines.declarations })) (finished _ _ _ _ _ c.lines.invariant.progress c.in_default.ensures.first (c.is_end.ensures.0 c.if-not-is_end.false))

pub returns-clause-ordered : goal.returns-clause-ordered
returns-clause-ordered c = ordered_sheet c.args.bytes.now _ (finished _ _ _ _ _ c.lines.invariant.progress c.in_default.ensures.first (c.is_end.ensures.0 c.if-not-is_end.false))

pub returns-clause-sized : goal.returns-clause-sized
returns-clause-sized c = sized_sheet c.args.bytes.now _ c.requires (finished _ _ _ _ _ c.lines.invariant.progress c.in_default.ensures.first (c.is_end.ensures.0 c.if-not-is_end.false))

pub returns-clause-nested : goal.returns-clause-nested
returns-clause-nested c = nested_sheet c.args.bytes.now _ c.requires (finished _ _ _ _ _ c.lines.invariant.progress c.in_default.ensures.first (c.is_end.ensures.0 c.if-not-is_end.false))
