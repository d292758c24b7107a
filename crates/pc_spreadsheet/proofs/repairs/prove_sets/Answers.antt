use Rattle.std.proofs.Common.{refl, arith, []}
use Rattle.pc_spreadsheet.specs.inside.Repairs.{by_certificate, for_room}
use Rattle.pc_spreadsheet.proofs.Proving.{search_is_spent, is_spent_whole, proof_noted}
use Rattle.pc_spreadsheet.proofs.repairs.prove_sets.Goals as goal

pub note_whole-requires : goal.note_whole-requires
note_whole-requires c =
    let spent = search_is_spent c.args.searched.book.now c.args.searched.budget 0 1 [] c.refute.new.log _ c.tally-tally.result c.refute.new.tally (omega arith) c.tally-tally.ensures c.in-Err-Spent.ensures.search in
    is_spent_whole _ _ _ _ _ spent (rw c.in-Err-Spent.field-0-is at c.in-Err-Spent.ensures.stop)

pub returns-in-Err-Spent : goal.returns-in-Err-Spent
returns-in-Err-Spent c =
    let spent = search_is_spent c.args.searched.book.now c.args.searched.budget 0 1 [] c.refute.new.log _ c.tally-tally.result c.refute.new.tally (omega arith) c.tally-tally.ensures c.in-Err-Spent.ensures.search in
    proof_noted _ _ _ _ _ c.args.sets _ _ c.note_whole.result c.requires.all (omega arith) spent (rw c.in-Err-Spent.field-0-is at c.in-Err-Spent.ensures.stop) c.note_whole.ensures

pub returns-in-Err-Memory : goal.returns-in-Err-Memory
returns-in-Err-Memory c = for_room refl

pub returns-in-Ok-prove : goal.returns-in-Ok-prove
returns-in-Ok-prove c =
    by_certificate c.in-Ok-prove.proof
    (c.in-Ok-prove.ensures.claim, c.in-Ok-prove.ensures.certified, rw c.in-Ok-prove.ensures.sets c.requires.all.exact.sets, rw c.in-Ok-prove.ensures.sets c.requires.all.order) refl

pub returns : goal.returns
returns c = for_room refl
