use Rattle.pc_refusals.specs.Refusals.{limit_word_of}
use Rattle.pc_writer.proofs.InTurn.{Writes-then, Writes-cut, Writes-same}
use Rattle.pc_refusals.proofs.refusal.write_limit.Goals as goal

pub returns-in_err-write_text : goal.returns-in_err-write_text
returns-in_err-write_text g c = Writes-cut c.from_residual.result (limit_word_of c.args.limited) c.from_residual.ensures.0 c.in_err-write_text.ensures

pub returns : goal.returns
returns g c = Writes-then c.in_ok-write_text.ensures (Writes-same c.limit_word.ensures c.write_text-2.ensures)
