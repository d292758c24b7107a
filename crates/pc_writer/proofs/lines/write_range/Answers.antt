use Rattle.std.proofs.Common.{ap, w32}
use Rattle.std.specs.Fmt.{signed_decimal}
use Rattle.std.proofs.lemmas.Int.{to_z-of_z}
use Rattle.pc_writer.proofs.InTurn.{Writes-then, Writes-cut, Writes-same}
use Rattle.pc_writer.proofs.lines.write_range.Goals as goal

pub returns-in_err-write_text : goal.returns-in_err-write_text
returns-in_err-write_text g c =
    Writes-cut c.from_residual.result _ c.from_residual.ensures.0 c.in_err-write_text.ensures

pub returns-in_err-write_number : goal.returns-in_err-write_number
returns-in_err-write_number g c =
    Writes-then c.in_ok-write_text.ensures (Writes-cut c.from_residual-in_err-write_number.result _ c.from_residual-in_err-write_number.ensures.0 (Writes-same (ap signed_decimal (to_z-of_z w32 c.args.low c.ranges.low)) c.in_err-write_number.ensures))

pub returns-in_err-write_text-2 : goal.returns-in_err-write_text-2
returns-in_err-write_text-2 g c =
    Writes-then c.in_ok-write_text.ensures (Writes-then (Writes-same (ap signed_decimal (to_z-of_z w32 c.args.low c.ranges.low)) c.in_ok-write_number.ensures) (Writes-cut c.from_residual-in_err-write_text-2.result _ c.from_residual-in_err-write_text-2.ensures.0 c.in_err-write_text-2.ensures))

pub returns : goal.returns
returns g c =
    Writes-then c.in_ok-write_text.ensures (Writes-then (Writes-same (ap signed_decimal (to_z-of_z w32 c.args.low c.ranges.low)) c.in_ok-write_number.ensures) (Writes-then c.in_ok-write_text-2.ensures (Writes-same (ap signed_decimal (to_z-of_z w32 c.args.high c.ranges.high)) c.write_number-2.ensures)))
