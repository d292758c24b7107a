use Rattle.std.proofs.Common.{codes, sym, ap}
use Rattle.pc_writer.proofs.InTurn.{Writes-then, Writes-cut, Writes-same}
use Rattle.pc_display.specs.Show.{value_told}
use Rattle.pc_display.proofs.lines.write_told.Goals as goal

pub returns-in_err-write_value : goal.returns-in_err-write_value
returns-in_err-write_value g c =
    let told = ap (λ b. value_told c.args.book.now.universe c.args.sort b c.args.value) (sym c.if-several.true) in
    Writes-same told (Writes-cut c.from_residual.result (codes " ") c.from_residual.ensures.0 c.in_err-write_value.ensures)

pub returns-in_ok-write_value : goal.returns-in_ok-write_value
returns-in_ok-write_value g c =
    let told = ap (λ b. value_told c.args.book.now.universe c.args.sort b c.args.value) (sym c.if-several.true) in
    Writes-same told (Writes-then c.in_ok-write_value.ensures c.write_text.ensures)
