use Rattle.std.proofs.Common.{codes, ◌++◌}
use Rattle.pc_refusals.specs.Refusals.{words_of, refused_line_text, further_text}
use Rattle.pc_writer.proofs.InTurn.{Writes-then, Writes-cut, Writes-same}
use Rattle.pc_refusals.proofs.refusal.write_refusal.Goals as goal

pub returns-in_err-write_text : goal.returns-in_err-write_text
returns-in_err-write_text g c =
    Writes-cut c.from_residual.result (words_of c.args.refusal ++ (refused_line_text c.args.line ++ (further_text c.args.refusal ++ codes "\n"))) c.from_residual.ensures.0 c.in_err-write_text.ensures

pub returns-in_err-write_text-2 : goal.returns-in_err-write_text-2
returns-in_err-write_text-2 g c =
    Writes-then c.in_ok-write_text.ensures
    (Writes-cut c.from_residual-in_err-write_text-2.result (refused_line_text c.args.line ++ (further_text c.args.refusal ++ codes "\n")) c.from_residual-in_err-write_text-2.ensures.0 (Writes-same c.words.ensures c.in_err-write_text-2.ensures))

pub returns-in_err-write_line : goal.returns-in_err-write_line
returns-in_err-write_line g c =
    Writes-then c.in_ok-write_text.ensures
    (Writes-then (Writes-same c.words.ensures c.in_ok-write_text-2.ensures)
    (Writes-cut c.from_residual-in_err-write_line.result (further_text c.args.refusal ++ codes "\n") c.from_residual-in_err-write_line.ensures.0 c.in_err-write_line.ensures))

pub returns-in_err-write_further : goal.returns-in_err-write_further
returns-in_err-write_further g c =
    Writes-then c.in_ok-write_text.ensures
    (Writes-then (Writes-same c.words.ensures c.in_ok-write_text-2.ensures)
    (Writes-then c.in_ok-write_line.ensures (Writes-cut c.from_residual-in_err-write_further.result (codes "\n") c.from_residual-in_err-write_further.ensures.0 c.in_err-write_further.ensures)))

pub returns : goal.returns
returns g c =
    Writes-then c.in_ok-write_text.ensures
    (Writes-then (Writes-same c.words.ensures c.in_ok-write_text-2.ensures) (Writes-then c.in_ok-write_line.ensures (Writes-then c.in_ok-write_further.ensures c.write_text-3.ensures)))
