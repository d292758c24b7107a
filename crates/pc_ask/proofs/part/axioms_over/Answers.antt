use Rattle.std.proofs.Common.{◌<◌, ◌^◌, ◌∙◌, List, ap, length, subst, sym}
use Rattle.pc_ground.specs.Ground.{clauses}
use Rattle.pc_ground.specs.GroundView.{Grounded}
use Rattle.pc_lits.specs.declared.literal.Lit.{Lit}
use Rattle.pc_ask.specs.inside.Parts.{AreAxiomsOver, IsAskedOver}
use Rattle.pc_ask.proofs.Over.{all_over, room_of}
use Rattle.pc_ask.proofs.Searched.{own_here}
use Rattle.pc_ask.proofs.part.axioms_over.Goals as goal

pub marks_of-requires : goal.marks_of-requires
marks_of-requires c =
    let cells = c.args.part.now.cells.items in
    let over = subst (IsAskedOver c.args.book.now cells) (sym c.deref.ensures.value) c.requires.part in
    own_here c.parts_are_searched.ensures c.args.book.now c.well_formed-2.ensures c.args.ground.now c.requires.ground c.few_axioms.ensures cells c.deref.result.now over c.variables.result c.variables.ensures

pub marked_clauses-requires-clause-few : goal.marked_clauses-requires-clause-few
marked_clauses-requires-clause-few c = subst (λ (ls : List (List Lit)). length ls < 2 ^ 32) (sym c.store.ensures) c.few_axioms.ensures

pub marked_clauses-requires-clause-room : goal.marked_clauses-requires-clause-room
marked_clauses-requires-clause-room c =
    room_of c.store.result.now c.args.ground.now.clauses c.store.ensures c.in_ok-marks.marks c.args.ground.now.variables (c.in_ok-marks.ensures.room ∙ c.variables.ensures) c.requires.literals

pub returns : goal.returns
returns c =
    let used = c.in_ok-used.used.items in
    subst (λ own. AreAxiomsOver (clauses c.args.book.now) own used) c.deref.ensures.value
    (subst (λ (ls : List (List Lit)). AreAxiomsOver ls c.deref.result.now used) (c.store.ensures ∙ ap (λ (x : Grounded). x.clauses) c.requires.ground)
    (all_over c.store.result.now c.in_ok-marks.marks c.deref.result.now used
    (room_of c.store.result.now c.args.ground.now.clauses c.store.ensures c.in_ok-marks.marks c.args.ground.now.variables (c.in_ok-marks.ensures.room ∙ c.variables.ensures) c.requires.literals)
    c.in_ok-marks.ensures.marked c.in_ok-used.ensures))
