use Rattle.std.proofs.Common.{Err, ◌∙◌, ap}
use Rattle.pc_cert.specs.Trees.{seen}
use Rattle.pc_cert.proofs.Words.{differs}
use Rattle.pc_cert.proofs.Forms.{only_these_claims}
use Rattle.pc_cert.proofs.claim.read_claim_line.Goals as goal

pub returns-in-Err-Syntax-clause-none : goal.returns-in-Err-Syntax-clause-none
returns-in-Err-Syntax-clause-none c = λ e.
    only_these_claims c.args.line.now (seen c.args.rest.now)
    (λ q. absurd (differs c.is_one_word.result _ c.is_one_word.ensures c.if-is_one_word.false q))
    (λ q. absurd (differs c.is_one_word-2.result _ c.is_one_word-2.ensures c.if-is_one_word-2.false q))
    (c.read_claim.ensures.none (c.in-Err-Syntax.is ∙ ap Err c.in-Err-Syntax.field-0-is)) (c.denial_or_against.ensures.denial e) (c.denial_or_against.ensures.against e)
