use Rattle.std.proofs.Common.{sym, ◌∙◌, ap, ap₂, map}
use Rattle.pc_cert.specs.Trees.{literal_of, part_of}
use Rattle.pc_cert.specs.Written.{written_step}
use Rattle.pc_cert.proofs.Clauses.{told_step, told_block}
use Rattle.pc_cert.proofs.derived.named_step.Goals as goal

pub returns-in-Step-clause-told : goal.returns-in-Step-clause-told
returns-in-Step-clause-told c =
    let same = ap part_of c.in-Step.is ∙ ap₂ (λ xs hs. written_step (map literal_of xs) hs) (sym c.as_slice.ensures.value) (sym c.as_slice-in-Step.ensures.value) in
    told_step c.args.book.now c.args.sets (part_of c.args.part.now) (map literal_of c.as_slice.result.now) c.as_slice-in-Step.result.now same c.hinted_clause.result _ _ (c.hinted_clause.ensures.told c.args.sets)

pub returns-in-Block-clause-told : goal.returns-in-Block-clause-told
returns-in-Block-clause-told c = told_block c.args.book.now c.args.sets _ _ (ap part_of c.in-Block.is) c.set_clause.result _ c.set_clause.ensures
