use Rattle.std.proofs.Common.{length, ◌∙◌, ap, subst, arith}
use Rattle.pc_token.specs.Line.{IsBlankRun}
use Rattle.pc_token.proofs.Reading.{run_ends}
use Rattle.pc_token.proofs.Once.{none_in_blanks, none_at_fault, none_before_more}
use Rattle.pc_token.proofs.line.one_token.Goals as goal

pub returns-then-start-bytes : goal.returns-then-start-bytes
returns-then-start-bytes c =
    let same = c.as_bytes-bytes.ensures.value in
    none_in_blanks _ _ (subst (λ bs. IsBlankRun bs 0 c.blanks_end-start.result) same c.blanks_end-start.ensures.run) (c.if-start-bytes.true ∙ ap length same)

pub piece_at-requires-clause-boundary : goal.piece_at-requires-clause-boundary
piece_at-requires-clause-boundary c =
    let run = subst (λ bs. IsBlankRun bs 0 c.blanks_end-start.result) c.as_bytes-bytes.ensures.value c.blanks_end-start.ensures.run in
    run_ends _ _ c.utf8.line run.blanks

pub returns-in_default : goal.returns-in_default
returns-in_default c =
    let run = subst (λ bs. IsBlankRun bs 0 c.blanks_end-start.result) c.as_bytes-bytes.ensures.value c.blanks_end-start.ensures.run in
    none_at_fault _ _ run c.piece_at.result c.piece_at.ensures c.in_default.not-Token

pub returns-then-blanks_end-bytes : goal.returns-then-blanks_end-bytes
returns-then-blanks_end-bytes c =
    let same = c.as_bytes-bytes.ensures.value in
    let run = subst (λ bs. IsBlankRun bs 0 c.blanks_end-start.result) same c.blanks_end-start.ensures.run in
    let rest = subst (λ bs. IsBlankRun bs c.in-Token.token.end c.blanks_end.result) same c.blanks_end.ensures.run in
    none_before_more _ _ run c.in-Token.token c.in-Token.ensures.0 c.in-Token.ensures.1 _ rest (omega (arith, c.if-blanks_end-bytes.true, ap length same))
