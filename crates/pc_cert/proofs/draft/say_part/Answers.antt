use Rattle.std.proofs.Common.{subst, map}
use Rattle.pc_cert.specs.Meaning.{IsPartNamed}
use Rattle.pc_cert.specs.Order.{kind_of, sets_in}
use Rattle.pc_cert.specs.Trees.{part_of}
use Rattle.pc_cert.specs.Written.{CertificatePart}
use Rattle.pc_cert.proofs.Gathered.{part_adds, no_part, gathered_sets}
use Rattle.pc_cert.proofs.Numbered.{of_some, of_none}
use Rattle.pc_cert.proofs.draft.say_part.Goals as goal

pub returns-in_default : goal.returns-in_default
returns-in_default c = λ ls g at.
    let w = part_of c.args.part.now in
    let none = of_none _ _ c.in_ok-part.field-0 c.in_default.is c.in_ok-part.ensures.told in
    no_part c.args.book.now (sets_in (map kind_of ls)) w c.args.place
    (subst (λ n. (p : CertificatePart) → IsPartNamed c.args.book.now n w p → ⊥) (gathered_sets ls c.args.draft.now c.len-sets.result g c.len-sets.ensures) none)

pub returns : goal.returns
returns c = λ ls g at.
    part_adds c.args.book.now (part_of c.args.part.now) c.args.place ls c.args.draft.now c.args.number c.named_part.new.table c.in-Some.part c.push.new.self g at c.in_ok-part.ensures.kept
    c.len-sets.result c.len-sets.ensures (of_some _ _ c.in_ok-part.field-0 c.in-Some.part c.in-Some.is c.in_ok-part.ensures.told) c.in_ok-push.ensures.items
