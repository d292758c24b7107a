use Rattle.std.proofs.Common.{refl, arith, []}
use Rattle.pc_spreadsheet.specs.inside.Repairs.{by_reason, for_want}
use Rattle.pc_spreadsheet.proofs.Proving.{search_is_spent, is_spent_whole, doubt_noted, all_lacking, as_many_lacking, with_fewer}
use Rattle.pc_spreadsheet.proofs.repairs.find_lacking.Goals as goal

pub prove_lacking-requires-clause-all : goal.prove_lacking-requires-clause-all
prove_lacking-requires-clause-all c = rw c.in-Ok-Some.field-0-is (all_lacking c.args.searched.book.now c.args.sets.now c.in-Ok-Some.found c.args.target c.requires.all (rw c.in-Ok-Some.field-0-is at c.in-Ok-Some.ensures.says))

pub prove_lacking-requires-clause-spent : goal.prove_lacking-requires-clause-spent
prove_lacking-requires-clause-spent c =
    let spent = search_is_spent c.args.searched.book.now c.args.searched.budget 0 _ [] c.lacking.new.log _ c.tally-tally.result c.lacking.new.tally (omega arith) c.tally-tally.ensures c.in-Ok-Some.ensures.search in
    let same = as_many_lacking c.args.searched.book.now c.args.sets.now c.in-Ok-Some.found c.args.target (rw c.in-Ok-Some.field-0-is at c.in-Ok-Some.ensures.says) in
    rw c.in-Ok-Some.field-0-is (with_fewer _ _ _ _ _ _ spent (omega (arith, same)))

pub returns-in-Ok-None : goal.returns-in-Ok-None
returns-in-Ok-None c = by_reason (rw c.in-Ok-None.field-0-is at c.in-Ok-None.ensures.says).0 refl

pub note_whole-requires : goal.note_whole-requires
note_whole-requires c =
    let spent = search_is_spent c.args.searched.book.now c.args.searched.budget 0 _ [] c.lacking.new.log _ c.tally-tally.result c.lacking.new.tally (omega arith) c.tally-tally.ensures c.in-Err-Spent.ensures.search in
    is_spent_whole _ _ _ _ _ spent (rw c.in-Err-Spent.field-0-is at c.in-Err-Spent.ensures.stop)

pub returns-in-Err-Spent : goal.returns-in-Err-Spent
returns-in-Err-Spent c =
    let spent = search_is_spent c.args.searched.book.now c.args.searched.budget 0 _ [] c.lacking.new.log _ c.tally-tally.result c.lacking.new.tally (omega arith) c.tally-tally.ensures c.in-Err-Spent.ensures.search in
    doubt_noted _ _ _ _ _ c.args.sets.now c.args.target _ _ c.note_whole.result c.requires.all (omega arith) spent (rw c.in-Err-Spent.field-0-is at c.in-Err-Spent.ensures.stop) c.requires.unimplied c.note_whole.ensures

pub returns-in-Err-Memory : goal.returns-in-Err-Memory
returns-in-Err-Memory c = for_want refl
