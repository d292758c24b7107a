use Rattle.std.proofs.Common.{ap, sym, subst}
use Rattle.pc_cert.specs.Gathered.{AddsLine}
use Rattle.pc_cert.specs.Trees.{line_of}
use Rattle.pc_cert.proofs.Gathered.{adds_nothing, adds_heading, adds_ends}
use Rattle.pc_cert.proofs.draft.say.Goals as goal

pub returns-in-Nothing : goal.returns-in-Nothing
returns-in-Nothing c = λ ls g at. subst (λ f. AddsLine c.args.book.now f ls c.args.draft.now) (sym (ap line_of c.in-Nothing.is)) (adds_nothing c.args.book.now ls c.args.draft.now c.args.number g at)

pub returns-in-Heading : goal.returns-in-Heading
returns-in-Heading c = λ ls g at. subst (λ f. AddsLine c.args.book.now f ls c.args.draft.now) (sym (ap line_of c.in-Heading.is)) (adds_heading c.args.book.now ls c.args.draft.now c.args.number g at)

pub returns-in-Ends : goal.returns-in-Ends
returns-in-Ends c = λ ls g at. subst (λ f. AddsLine c.args.book.now f ls c.args.draft.now) (sym (ap line_of c.in-Ends.is)) (adds_ends c.args.book.now ls c.args.draft.now c.args.number g at)
