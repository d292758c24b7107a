use Rattle.pc_writer.proofs.InTurn.{Writes-then, Writes-cut}
use Rattle.pc_writer.proofs.formula.write_in_table.Goals as goal

pub returns-in_err-write_table_name : goal.returns-in_err-write_table_name
returns-in_err-write_table_name g c =
    Writes-cut c.from_residual.result _ c.from_residual.ensures.0 c.in_err-write_table_name.ensures

pub returns : goal.returns
returns g c =
    Writes-then c.in_ok-write_table_name.ensures c.write_arguments.ensures
