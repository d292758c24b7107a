use Rattle.std.proofs.Common.{sym}
use Rattle.pc_writer.proofs.Sheets.{universe_parts}
use Rattle.pc_writer.proofs.InTurn.{Writes-then, Writes-cut, Writes-same}
use Rattle.pc_writer.proofs.sheet.write_universe.Goals as goal

pub returns-in_err-write_sorts : goal.returns-in_err-write_sorts
returns-in_err-write_sorts g c =
    Writes-same (sym (universe_parts c.args.book.now.universe)) (Writes-cut c.from_residual.result _ c.from_residual.ensures.0 c.in_err-write_sorts.ensures)

pub returns-in_err-write_tables : goal.returns-in_err-write_tables
returns-in_err-write_tables g c =
    Writes-same (sym (universe_parts c.args.book.now.universe)) (Writes-then c.in_ok-write_sorts.ensures (Writes-cut c.from_residual-in_err-write_tables.result _ c.from_residual-in_err-write_tables.ensures.0 c.in_err-write_tables.ensures))

pub returns-in_err-write_rows : goal.returns-in_err-write_rows
returns-in_err-write_rows g c =
    Writes-same (sym (universe_parts c.args.book.now.universe)) (Writes-then c.in_ok-write_sorts.ensures (Writes-then c.in_ok-write_tables.ensures (Writes-cut c.from_residual-in_err-write_rows.result _ c.from_residual-in_err-write_rows.ensures.0 c.in_err-write_rows.ensures)))

pub returns : goal.returns
returns g c =
    Writes-same (sym (universe_parts c.args.book.now.universe)) (Writes-then c.in_ok-write_sorts.ensures (Writes-then c.in_ok-write_tables.ensures (Writes-then c.in_ok-write_rows.ensures c.write_families.ensures)))
