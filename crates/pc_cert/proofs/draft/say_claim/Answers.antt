use Rattle.std.proofs.Common.{◌+◌, refl}
use Rattle.pc_cert.specs.Trees.{claim_of}
use Rattle.pc_cert.proofs.Gathered.{claim_adds, is_none, is_some}
use Rattle.pc_cert.proofs.draft.say_claim.Goals as goal

pub returns-then-is_empty : goal.returns-then-is_empty
returns-then-is_empty c = λ ls g at.
    claim_adds c.args.book.now (claim_of c.args.claim.now) ls c.args.draft.now c.args.number g at c.in-Some.claim c.in-Some.ensures c.or-draft.result c.or-draft.ensures (c.args.number + 1)
    (λ none. refl) (λ some. absurd (some (is_none c.args.draft.now.sets c.is_empty.result c.is_empty.ensures c.if-is_empty.true)))

pub returns-else-is_empty : goal.returns-else-is_empty
returns-else-is_empty c = λ ls g at.
    claim_adds c.args.book.now (claim_of c.args.claim.now) ls c.args.draft.now c.args.number g at c.in-Some.claim c.in-Some.ensures c.or-draft.result c.or-draft.ensures c.args.draft.now.after
    (λ none. absurd (is_some c.args.draft.now.sets c.is_empty.result c.is_empty.ensures c.if-is_empty.false none)) (λ some. refl)
