use Rattle.std.proofs.Common.{decimal, ap, sym, ◌∙◌, rules, w64, SFits}
use Rattle.std.proofs.lemmas.Int.{to_z-of_z}
use Rattle.std.specs.Fmt.{signed_decimal}
use Rattle.pc_refusals.specs.Refusals.{refused_line_text}
use Rattle.pc_writer.proofs.InTurn.{Writes-then, Writes-cut, Writes-same}
use Rattle.pc_refusals.proofs.refusal.write_line.Goals as goal

pub returns-in_err-write_text : goal.returns-in_err-write_text
returns-in_err-write_text g c = Writes-same (ap refused_line_text (sym c.in-Some.is)) (Writes-cut c.from_residual.result (decimal c.in-Some.number) c.from_residual.ensures.0 c.in_err-write_text.ensures)

pub returns : goal.returns
returns g c =
    let fits : SFits w64 c.from.result = search rules in
    let same = ap signed_decimal (to_z-of_z w64 c.from.result fits ∙ c.from.ensures) in
    Writes-same (ap refused_line_text (sym c.in-Some.is)) (Writes-then c.in_ok-write_text.ensures (Writes-same same c.write_integer.ensures))
