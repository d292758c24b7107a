use Rattle.std.proofs.Common.{◌+◌, List, get_or, subst, sym}
use Rattle.std.proofs.lemmas.Option.{slice_get-get_or}
use Rattle.pc_sheet.specs.declared.ids.Entry.{Entry}
use Rattle.pc_ask.specs.inside.Choices.{ways_of, AreAmong, SomeSays}
use Rattle.pc_ask.specs.inside.Narrowing.{IsNarrowed}
use Rattle.pc_ask.proofs.Narrowed.{kept_too, left_out}
use Rattle.pc_ask.proofs.Witnesses.{among}
use Rattle.pc_ask.proofs.narrowing.decide.Goals as goal

pub find_witness-requires-clause-kept : goal.find_witness-requires-clause-kept
find_witness-requires-clause-kept c =
    let before = c.args.narrowed.now in
    subst (AreAmong c.args.choosing) (sym c.deref.ensures.value)
    (among c.args.choosing.task.book.now c.args.choosing.entries.now (ways_of c.args.choosing) (c.args.place + 1) before.kept.items c.args.log.now before.witness c.requires.narrowed)

pub returns-in-Some-clause-narrowed : goal.returns-in-Some-clause-narrowed
returns-in-Some-clause-narrowed c =
    let before = c.args.narrowed.now in
    left_out c.args.choosing.task.book.now c.args.choosing.entries.now (ways_of c.args.choosing) c.args.place before.kept.items c.args.log.now c.find_witness.new.log before.witness c.requires.narrowed c.in-Some.witness
    (subst (SomeSays c.args.choosing c.args.place before.kept.items c.find_witness.new.log) c.in-Some.is
    (subst (λ (set : List Entry). SomeSays c.args.choosing c.args.place set c.find_witness.new.log c.in_ok-witness.field-0) c.deref.ensures.value c.in_ok-witness.ensures.says))

pub returns-in_ok-push-in-None-clause-narrowed : goal.returns-in_ok-push-in-None-clause-narrowed
returns-in_ok-push-in-None-clause-narrowed c =
    let before = c.args.narrowed.now in
    let grows = c.find_witness.ensures.goes_on.spends.grows in
    let blank : Entry = record { cell = record { 0 = 0 }; value = record { 0 = 0 } } in
    subst (λ (set : List Entry). IsNarrowed c.args.choosing.task.book.now c.args.choosing.entries.now (ways_of c.args.choosing) c.args.place set c.find_witness.new.log before.witness) (sym c.in_ok-push-in-None.ensures.items)
    (kept_too c.args.choosing.task.book.now c.args.choosing.entries.now (ways_of c.args.choosing) c.args.place before.kept.items c.args.log.now c.find_witness.new.log before.witness c.requires.narrowed
    (get_or c.args.choosing.entries.now c.args.place blank) (slice_get-get_or c.args.choosing.entries.now c.args.place blank c.requires.place)
    (subst (SomeSays c.args.choosing c.args.place before.kept.items c.find_witness.new.log) c.in-None.is
    (subst (λ (set : List Entry). SomeSays c.args.choosing c.args.place set c.find_witness.new.log c.in_ok-witness.field-0) c.deref.ensures.value c.in_ok-witness.ensures.says))
    grows.lines grows.added)
