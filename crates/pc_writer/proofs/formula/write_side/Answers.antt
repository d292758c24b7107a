use Rattle.std.proofs.Common.{ap, map}
use Rattle.std.specs.List.{flat_map}
use Rattle.pc_sheet.specs.Views.{added_of}
use Rattle.pc_writer.specs.FormulaText.{added_text}
use Rattle.pc_writer.specs.inside.Scope.{variables_of}
use Rattle.pc_writer.proofs.InTurn.{Writes-then, Writes-cut, Writes-same}
use Rattle.pc_writer.proofs.formula.write_side.Goals as goal

pub returns-in_err-write_term : goal.returns-in_err-write_term
returns-in_err-write_term g c =
    Writes-cut c.from_residual.result _ c.from_residual.ensures.0 c.in_err-write_term.ensures

pub returns : goal.returns
returns g c =
    Writes-then c.in_ok-write_term.ensures (Writes-same (ap (λ xs. flat_map (added_text c.args.book.now.universe (variables_of c.args.variables.now)) (map added_of xs)) c.deref.ensures.value) c.write_rest.ensures)
