use Rattle.std.proofs.Common.{◌<◌, ◌^◌, List, [], ap, length, refl, sym, subst}
use Rattle.std.proofs.lemmas.Result.{err_from_is_err_and}
use Rattle.pc_ground.specs.Ground.{clauses}
use Rattle.pc_ground.specs.GroundView.{Grounded}
use Rattle.pc_log.specs.Lines.{LogLine}
use Rattle.pc_sheet.specs.WellFormed.{IsWellFormed}
use Rattle.pc_repairs.specs.inside.Joining.{joined_by}
use Rattle.pc_ask.specs.inside.Choices.{IsChoosing}
use Rattle.pc_ask.specs.inside.Parts.{AreAxiomsOver, IsAsked}
use Rattle.pc_ask.specs.declared.narrowing.Choosing.{Choosing}
use Rattle.pc_ask.proofs.Answered.{all_asked, choosing_is, found_says, nothing_asked}
use Rattle.pc_ask.proofs.asking.search_book.Goals as goal

pub returns-in_err-part-clause-search : goal.returns-in_err-part-clause-search
returns-in_err-part-clause-search g c = nothing_asked (g.C.Choices.sheet c.args.view.now) c.args.question.book.now c.args.tally.now c.args.log.now c.requires.new_log

pub returns-in_err-axioms-clause-search : goal.returns-in_err-axioms-clause-search
returns-in_err-axioms-clause-search g c = nothing_asked (g.C.Choices.sheet c.args.view.now) c.args.question.book.now c.args.tally.now c.args.log.now c.requires.new_log

pub returns-in_err-solver-clause-search : goal.returns-in_err-solver-clause-search
returns-in_err-solver-clause-search g c = nothing_asked (g.C.Choices.sheet c.args.view.now) c.args.question.book.now c.args.tally.now c.args.log.now c.requires.new_log

pub asked_part-requires-clause-asked : goal.asked_part-requires-clause-asked
asked_part-requires-clause-asked g c = (g.C.Choices.sheet c.args.view.now, c.requires.asked.0, c.requires.asked.1, subst IsWellFormed c.book-own.ensures c.well_formed-2.ensures, c.requires.components)

pub part_solver-requires-clause-axioms : goal.part_solver-requires-clause-axioms
part_solver-requires-clause-axioms g c = subst (AreAxiomsOver (clauses c.args.question.book.now) c.in_ok-part.part.variables.items) (sym c.deref.ensures.value) c.in_ok-axioms.ensures

pub returns-in_err-found-clause-stop : goal.returns-in_err-found-clause-stop
returns-in_err-found-clause-stop g c =
    let p = err_from_is_err_and c.from_residual-in_err-found.result c.from_residual-in_err-found.ensures.1 in
    rw (p.1, p.2) c.in_err-found.ensures.stop

pub find-requires-clause-choosing : goal.find-requires-clause-choosing
find-requires-clause-choosing g c =
    let choosing : Choosing = record { task = record { alloc = c.args.alloc; book = c.args.question.book; ground = c.args.ground; variables = c.deref-2.result }; entries = c.deref-3.result; fitting = c.args.chosen.now.fitting; parts = c.deref-4.result } in
    let formed : IsWellFormed (g.C.Choices.sheet c.args.view.now) = subst IsWellFormed c.book-own.ensures c.well_formed-2.ensures in
    choosing_is (g.C.Choices.sheet c.args.view.now) c.args.question.book.now c.well_formed-3.ensures c.args.chosen.now.entries.items c.args.chosen.now.fitting.now c.args.chosen.now.parts.items c.requires.chosen formed c.requires.asked.0 c.requires.asked.1
    choosing refl c.requires.ground (subst (λ (x : Grounded). length x.clauses < 2 ^ 32) c.requires.ground c.few_axioms.ensures) c.deref-3.ensures.value refl c.deref-4.ensures.value c.few_entries.ensures

pub find-requires-clause-asked : goal.find-requires-clause-asked
find-requires-clause-asked g c =
    subst (λ (log : List LogLine). IsAsked c.args.question.book.now c.deref-2.result.now c.in_ok-solver.solver log) (sym c.requires.new_log)
    (subst (λ own. IsAsked c.args.question.book.now own c.in_ok-solver.solver []) (sym c.deref-2.ensures.value) c.in_ok-solver.ensures)

pub returns-in_err-found-clause-search : goal.returns-in_err-found-clause-search
returns-in_err-found-clause-search g c =
    let choosing : Choosing = record { task = record { alloc = c.args.alloc; book = c.args.question.book; ground = c.args.ground; variables = c.deref-2.result }; entries = c.deref-3.result; fitting = c.args.chosen.now.fitting; parts = c.deref-4.result } in
    let formed : IsWellFormed (g.C.Choices.sheet c.args.view.now) = subst IsWellFormed c.book-own.ensures c.well_formed-2.ensures in
    let is_choosing : IsChoosing choosing =
    choosing_is (g.C.Choices.sheet c.args.view.now) c.args.question.book.now c.well_formed-3.ensures c.args.chosen.now.entries.items c.args.chosen.now.fitting.now c.args.chosen.now.parts.items c.requires.chosen formed c.requires.asked.0 c.requires.asked.1
    choosing refl c.requires.ground (subst (λ (x : Grounded). length x.clauses < 2 ^ 32) c.requires.ground c.few_axioms.ensures) c.deref-3.ensures.value refl c.deref-4.ensures.value c.few_entries.ensures in
    all_asked c.parts_are_searched.ensures (g.C.Choices.sheet c.args.view.now) formed c.args.question.book.now c.well_formed-3.ensures c.args.chosen.now.entries.items c.args.chosen.now.fitting.now c.args.chosen.now.parts.items c.requires.chosen
    choosing is_choosing.task refl c.deref-3.ensures.value (ap (joined_by c.args.chosen.now.fitting.now) c.deref-4.ensures.value) c.in_ok-solver.solver c.find.new.solver c.args.tally.now c.find.new.tally c.args.log.now c.find.new.log c.requires.new_log
    (subst (λ own. IsAsked c.args.question.book.now own c.in_ok-solver.solver []) (sym c.deref-2.ensures.value) c.in_ok-solver.ensures) c.find.ensures.goes_on

pub returns-clause-search : goal.returns-clause-search
returns-clause-search g c =
    let choosing : Choosing = record { task = record { alloc = c.args.alloc; book = c.args.question.book; ground = c.args.ground; variables = c.deref-2.result }; entries = c.deref-3.result; fitting = c.args.chosen.now.fitting; parts = c.deref-4.result } in
    let formed : IsWellFormed (g.C.Choices.sheet c.args.view.now) = subst IsWellFormed c.book-own.ensures c.well_formed-2.ensures in
    let is_choosing : IsChoosing choosing =
    choosing_is (g.C.Choices.sheet c.args.view.now) c.args.question.book.now c.well_formed-3.ensures c.args.chosen.now.entries.items c.args.chosen.now.fitting.now c.args.chosen.now.parts.items c.requires.chosen formed c.requires.asked.0 c.requires.asked.1
    choosing refl c.requires.ground (subst (λ (x : Grounded). length x.clauses < 2 ^ 32) c.requires.ground c.few_axioms.ensures) c.deref-3.ensures.value refl c.deref-4.ensures.value c.few_entries.ensures in
    all_asked c.parts_are_searched.ensures (g.C.Choices.sheet c.args.view.now) formed c.args.question.book.now c.well_formed-3.ensures c.args.chosen.now.entries.items c.args.chosen.now.fitting.now c.args.chosen.now.parts.items c.requires.chosen
    choosing is_choosing.task refl c.deref-3.ensures.value (ap (joined_by c.args.chosen.now.fitting.now) c.deref-4.ensures.value) c.in_ok-solver.solver c.find.new.solver c.args.tally.now c.find.new.tally c.args.log.now c.find.new.log c.requires.new_log
    (subst (λ own. IsAsked c.args.question.book.now own c.in_ok-solver.solver []) (sym c.deref-2.ensures.value) c.in_ok-solver.ensures) c.find.ensures.goes_on

pub returns-clause-says : goal.returns-clause-says
returns-clause-says g c f is =
    let choosing : Choosing = record { task = record { alloc = c.args.alloc; book = c.args.question.book; ground = c.args.ground; variables = c.deref-2.result }; entries = c.deref-3.result; fitting = c.args.chosen.now.fitting; parts = c.deref-4.result } in
    let formed : IsWellFormed (g.C.Choices.sheet c.args.view.now) = subst IsWellFormed c.book-own.ensures c.well_formed-2.ensures in
    found_says (g.C.Choices.sheet c.args.view.now) formed f c.args.question.book.now is c.well_formed-3.ensures c.args.chosen.now.entries.items c.args.chosen.now.fitting.now c.args.chosen.now.parts.items c.requires.chosen
    choosing refl c.deref-3.ensures.value (ap (joined_by c.args.chosen.now.fitting.now) c.deref-4.ensures.value) c.different_sublists_are_ordered.ensures c.find.new.log c.in_ok-found.found c.in_ok-found.ensures.says
