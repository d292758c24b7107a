use Rattle.std.proofs.Common.{◌++◌, codes}
use Rattle.std.specs.List.{flat_map}
use Rattle.pc_writer.proofs.InTurn.{Writes-then, Writes-cut}
use Rattle.pc_cert_text.specs.inside.Steps.{hint_text, spaced_literal_text}
use Rattle.pc_cert_text.proofs.line.write_step_line.Goals as goal

pub returns-in_err-write_text : goal.returns-in_err-write_text
returns-in_err-write_text g c = Writes-cut c.from_residual.result ((flat_map (spaced_literal_text c.args.book.now c.args.names.now) c.args.clause.now) ++ ((codes " :") ++ (flat_map (hint_text c.args.lines) c.args.hints.now))) c.from_residual.ensures.0 c.in_err-write_text.ensures

pub returns-in_err-write_literals : goal.returns-in_err-write_literals
returns-in_err-write_literals g c = Writes-then c.in_ok-write_text.ensures (Writes-cut c.from_residual-in_err-write_literals.result ((codes " :") ++ (flat_map (hint_text c.args.lines) c.args.hints.now)) c.from_residual-in_err-write_literals.ensures.0 c.in_err-write_literals.ensures)

pub returns-in_err-write_text-2 : goal.returns-in_err-write_text-2
returns-in_err-write_text-2 g c = Writes-then c.in_ok-write_text.ensures (Writes-then c.in_ok-write_literals.ensures (Writes-cut c.from_residual-in_err-write_text-2.result (flat_map (hint_text c.args.lines) c.args.hints.now) c.from_residual-in_err-write_text-2.ensures.0 c.in_err-write_text-2.ensures))

pub returns : goal.returns
returns g c = Writes-then c.in_ok-write_text.ensures (Writes-then c.in_ok-write_literals.ensures (Writes-then c.in_ok-write_text-2.ensures (c.write_hints.ensures)))
