use Rattle.std.proofs.Common.{arith}
use Rattle.pc_cert_text.proofs.LineLemmas.{count_of_lines}
use Rattle.pc_cert_text.proofs.PickedLines.{count_of_picked}
use Rattle.pc_cert_text.proofs.lines.Lines.len.Goals as goal

pub returns-in-Logged : goal.returns-in-Logged
returns-in-Logged c = rw c.in-Logged.is (omega (arith, count_of_lines _ c.in-Logged.span (rw c.in-Logged.is at c.requires)))

pub returns-in-Shared : goal.returns-in-Shared
returns-in-Shared c = rw c.in-Shared.is (omega (arith, count_of_picked c.in-Shared.derivation (rw c.in-Shared.is at c.requires), c.len.ensures))
