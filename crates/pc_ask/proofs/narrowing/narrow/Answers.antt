use Rattle.std.proofs.Common.{◌*◌, ◌^◌, ◌∙◌, List, [], length, arith, refl, subst, sym}
use Rattle.pc_sheet.specs.declared.ids.Entry.{Entry}
use Rattle.pc_solver.proofs.SpendingLemmas.{goes_further, once_more}
use Rattle.pc_ask.specs.inside.Choices.{ways_of, SomeSays, tried_of}
use Rattle.pc_ask.specs.inside.Narrowing.{IsNarrowed}
use Rattle.pc_ask.proofs.Searched.{still_asked}
use Rattle.pc_ask.proofs.Narrowed.{none_decided}
use Rattle.pc_ask.proofs.Spent.{goes_within, once_at_least, room_left, tried_few}
use Rattle.pc_ask.proofs.narrowing.narrow.Goals as goal

pub returns-in_err-find_witness-clause-goes_on : goal.returns-in_err-find_witness-clause-goes_on
returns-in_err-find_witness-clause-goes_on c =
    goes_within (tried_of c.args.choosing) _ c.args.solver.now c.find_witness.new.solver c.args.tally.now c.find_witness.new.tally c.args.log.now c.find_witness.new.log (once_at_least (tried_of c.args.choosing) (length c.args.choosing.entries.now)) c.find_witness.ensures.goes_on

pub returns-in-None-clause-goes_on : goal.returns-in-None-clause-goes_on
returns-in-None-clause-goes_on c =
    goes_within (tried_of c.args.choosing) _ c.args.solver.now c.find_witness.new.solver c.args.tally.now c.find_witness.new.tally c.args.log.now c.find_witness.new.log (once_at_least (tried_of c.args.choosing) (length c.args.choosing.entries.now)) c.find_witness.ensures.goes_on

pub returns-in-None-clause-none : goal.returns-in-None-clause-none
returns-in-None-clause-none c =
    subst (SomeSays c.args.choosing (length c.args.choosing.entries.now) [] c.find_witness.new.log) c.in-None.is
    (subst (λ (set : List Entry). SomeSays c.args.choosing (length c.args.choosing.entries.now) set c.find_witness.new.log c.in_ok-find_witness.field-0) (c.deref.ensures.value ∙ c.new-kept.ensures.items) c.in_ok-find_witness.ensures.says)

pub decide_all-requires-clause-narrowed : goal.decide_all-requires-clause-narrowed
decide_all-requires-clause-narrowed c =
    subst (λ (set : List Entry). IsNarrowed c.args.choosing.task.book.now c.args.choosing.entries.now (ways_of c.args.choosing) (length c.args.choosing.entries.now) set c.find_witness.new.log c.in-Some.witness) (sym c.new-kept.ensures.items)
    (none_decided c.args.choosing.task.book.now c.args.choosing.entries.now (ways_of c.args.choosing) c.find_witness.new.log c.in-Some.witness
    (subst (SomeSays c.args.choosing (length c.args.choosing.entries.now) [] c.find_witness.new.log) c.in-Some.is
    (subst (λ (set : List Entry). SomeSays c.args.choosing (length c.args.choosing.entries.now) set c.find_witness.new.log c.in_ok-find_witness.field-0) (c.deref.ensures.value ∙ c.new-kept.ensures.items) c.in_ok-find_witness.ensures.says)))

pub decide_all-requires-clause-asked : goal.decide_all-requires-clause-asked
decide_all-requires-clause-asked c =
    still_asked c.args.choosing.task.book.now c.args.choosing.task.variables.now c.args.solver.now c.args.log.now c.requires.asked (tried_of c.args.choosing) c.find_witness.new.solver c.args.tally.now c.find_witness.new.tally c.find_witness.new.log c.find_witness.ensures.goes_on

pub decide_all-requires-clause-counts : goal.decide_all-requires-clause-counts
decide_all-requires-clause-counts c =
    room_left (tried_of c.args.choosing) (2 ^ 123) (2 ^ 124) c.args.solver.now c.find_witness.new.solver c.args.tally.now c.find_witness.new.tally c.args.log.now c.find_witness.new.log c.find_witness.ensures.goes_on c.recall_limit.ensures
    (omega (arith, (tried_few (ways_of c.args.choosing)))) (omega arith) c.requires.counts

pub returns-in_err-decide_all-in-Some-clause-goes_on : goal.returns-in_err-decide_all-in-Some-clause-goes_on
returns-in_err-decide_all-in-Some-clause-goes_on c =
    goes_further (tried_of c.args.choosing) (tried_of c.args.choosing * length c.args.choosing.entries.now) _ c.args.solver.now c.find_witness.new.solver c.decide_all.new.solver c.args.tally.now c.find_witness.new.tally c.decide_all.new.tally c.args.log.now c.find_witness.new.log c.decide_all.new.log
    (once_more (tried_of c.args.choosing) (length c.args.choosing.entries.now) _ _ refl refl) c.find_witness.ensures.goes_on c.decide_all.ensures.goes_on

pub returns-in_ok-decide_all-in-Some-clause-goes_on : goal.returns-in_ok-decide_all-in-Some-clause-goes_on
returns-in_ok-decide_all-in-Some-clause-goes_on c =
    goes_further (tried_of c.args.choosing) (tried_of c.args.choosing * length c.args.choosing.entries.now) _ c.args.solver.now c.find_witness.new.solver c.decide_all.new.solver c.args.tally.now c.find_witness.new.tally c.decide_all.new.tally c.args.log.now c.find_witness.new.log c.decide_all.new.log
    (once_more (tried_of c.args.choosing) (length c.args.choosing.entries.now) _ _ refl refl) c.find_witness.ensures.goes_on c.decide_all.ensures.goes_on
