use Rattle.pc_log.specs.Shown.{shown_line}
use Rattle.pc_cert_text.proofs.LineLemmas.{hints_behind, line_at}
use Rattle.pc_cert_text.proofs.PickedLines.{next_behind, picked_at}
use Rattle.pc_cert_text.proofs.lines.Lines.next.Goals as goal

pub returns-in-Logged-clause-line : goal.returns-in-Logged-clause-line
returns-in-Logged-clause-line c =
    let kept = rw c.in-Logged.is at c.requires.kept in
    let low = rw c.in-Logged.is at c.requires.within in
    let line = shown_line c.line.result in
    rw c.in-Logged.is (record { stands = line_at _ c.in-Logged.span kept c.args.index line low c.line.ensures.line; hints = hints_behind _ c.in-Logged.span kept c.args.index line low c.line.ensures.line })

pub returns-in-Shared-clause-line : goal.returns-in-Shared-clause-line
returns-in-Shared-clause-line c =
    let kept = rw c.in-Shared.is at c.requires.kept in
    let low = rw c.in-Shared.is at c.requires.within in
    rw c.in-Shared.is (picked_at c.in-Shared.derivation kept c.args.index c.next-place.result (shown_line c.line-in-Shared.result) low c.line-in-Shared.ensures c.next-place.ensures.value)

pub returns-in-Shared-clause-next : goal.returns-in-Shared-clause-next
returns-in-Shared-clause-next c =
    let kept = rw c.in-Shared.is at c.requires.kept in
    let low = rw c.in-Shared.is at c.requires.within in
    rw c.in-Shared.is (next_behind c.in-Shared.derivation kept c.args.index c.next-place.result low c.next-place.ensures.value)
