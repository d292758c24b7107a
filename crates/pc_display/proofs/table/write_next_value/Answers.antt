use Rattle.pc_writer.specs.Spelling.{value_text}
use Rattle.pc_writer.proofs.InTurn.{Writes-then, Writes-cut}
use Rattle.pc_display.proofs.table.write_next_value.Goals as goal

pub returns-in_err-write_comma : goal.returns-in_err-write_comma
returns-in_err-write_comma g c = Writes-cut c.from_residual.result (value_text c.args.book.now.universe c.args.sort c.args.value) c.from_residual.ensures.0 c.in_err-write_comma.ensures

pub returns : goal.returns
returns g c = Writes-then c.in_ok-write_comma.ensures c.write_value.ensures
