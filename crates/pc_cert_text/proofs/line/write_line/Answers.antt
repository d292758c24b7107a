use Rattle.std.proofs.Common.{◌∙◌, ap, sym}
use Rattle.pc_log.specs.Shown.{shown_line}
use Rattle.pc_writer.proofs.InTurn.{Writes-same}
use Rattle.pc_cert_text.specs.inside.Steps.{logged_text}
use Rattle.pc_cert_text.proofs.StepLemmas.{step_texts_agree}
use Rattle.pc_cert_text.proofs.line.write_line.Goals as goal

pub returns-in-Step : goal.returns-in-Step
returns-in-Step g c =
    Writes-same (step_texts_agree c.args.book.now c.args.names.now c.args.lines c.in-Step.clause.now c.in-Step.hints.now c.in-Step.learned ∙ ap (λ l. logged_text c.args.book.now c.args.names.now c.args.lines (shown_line l)) (sym c.in-Step.is)) c.write_step_line.ensures
