use Rattle.std.proofs.Common.{refl, arith, [], ◌∷◌}
use Rattle.pc_spreadsheet.specs.inside.Repairs.{by_proof, for_want}
use Rattle.pc_spreadsheet.proofs.Proving.{search_is_spent, is_spent_whole, doubt_noted, few_learned_before, few_calls_before}
use Rattle.pc_spreadsheet.proofs.repairs.prove_lacking.Goals as goal

pub refute-requires-clause-few_learned : goal.refute-requires-clause-few_learned
refute-requires-clause-few_learned c = few_learned_before _ _ c.args.sets _ c.args.tally c.requires.all c.requires.spent c.recall_limit.ensures

pub refute-requires-clause-few_calls : goal.refute-requires-clause-few_calls
refute-requires-clause-few_calls c = few_calls_before _ _ c.args.sets _ c.args.tally c.requires.all c.requires.spent

pub note_whole-requires : goal.note_whole-requires
note_whole-requires c =
    let spent = search_is_spent c.args.searched.book.now c.args.searched.budget _ 1 (c.args.first ∷ []) c.refute.new.log _ c.args.tally c.refute.new.tally (omega arith) c.requires.spent c.in-Err-Spent.ensures.search in
    is_spent_whole _ _ _ _ _ spent (rw c.in-Err-Spent.field-0-is at c.in-Err-Spent.ensures.stop)

pub returns-in-Err-Spent : goal.returns-in-Err-Spent
returns-in-Err-Spent c =
    let spent = search_is_spent c.args.searched.book.now c.args.searched.budget _ 1 (c.args.first ∷ []) c.refute.new.log _ c.args.tally c.refute.new.tally (omega arith) c.requires.spent c.in-Err-Spent.ensures.search in
    doubt_noted _ _ _ _ _ c.args.sets c.args.target _ _ c.note_whole.result c.requires.all (omega arith) spent (rw c.in-Err-Spent.field-0-is at c.in-Err-Spent.ensures.stop) c.requires.unimplied c.note_whole.ensures

pub returns-in-Err-Memory : goal.returns-in-Err-Memory
returns-in-Err-Memory c = for_want refl

pub returns-in-Ok-prove : goal.returns-in-Ok-prove
returns-in-Ok-prove c =
    by_proof c.in-Ok-prove.proof c.requires.unimplied
    (c.in-Ok-prove.ensures.claim, c.in-Ok-prove.ensures.certified, rw c.in-Ok-prove.ensures.sets c.requires.all.exact.sets, rw c.in-Ok-prove.ensures.sets c.requires.all.order) refl

pub returns : goal.returns
returns c = for_want refl
