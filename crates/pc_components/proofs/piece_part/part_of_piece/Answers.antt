use Rattle.std.proofs.Common.{◌<◌, ◌∷◌, [], ap, arith, length, subst, ◌∙◌}
use Rattle.pc_ground.specs.Ground.{clauses}
use Rattle.pc_ground.specs.GroundView.{Grounded}
use Rattle.pc_components.specs.inside.ClauseVariables.{variables_in}
use Rattle.pc_components.specs.inside.Turned.{places_from, turned}
use Rattle.pc_components.proofs.PieceRight.{cells_below, piece_part, variables_below}
use Rattle.pc_components.proofs.piece_part.part_of_piece.Goals as goal

pub cells_of-requires-2 : goal.cells_of-requires-2
cells_of-requires-2 c =
    let numbers = c.args.numbers.now in
    cells_below c.args.book.now numbers.parts numbers.cells.items numbers.pieces.items c.requires.numbers (let l = c.few_cells.ensures in omega (arith, l)) c.index-number.result.now c.deref-2.result.now
    (c.deref-2.ensures.value ∙ c.in_ok-cells.ensures)

pub variables_of-requires : goal.variables_of-requires
variables_of-requires c = variables_below c.variables-count.result 0 (variables_in c.store.result.now c.deref.result.now ∷ []) c.deref-3.result.now (c.deref-3.ensures.value ∙ c.in_ok-variables.ensures) (omega arith)

pub returns : goal.returns
returns c =
    let sheet = c.args.book.now in
    let numbers = c.args.numbers.now in
    let n = c.variables-count.result in
    let store = c.store.ensures ∙ ap (λ (g : Grounded). g.clauses) c.requires.ground in
    piece_part sheet c.well_formed-2.ensures numbers.parts numbers.cells.items numbers.pieces.items c.requires.numbers c.args.piece c.index-number.result.now
    (subst (λ (g : Grounded). c.args.piece < length g.reads) c.requires.ground c.requires.piece) c.index-number.ensures n c.in_ok-cells.cells.items c.in_ok-axioms.axioms.items
    c.in_ok-variables.variables.items c.in_ok-cells_of.field-0.items c.in_ok-variables_of.field-0.items (c.variables-count.ensures ∙ ap (λ (g : Grounded). g.variables) c.requires.ground) c.in_ok-cells.ensures c.in_ok-axioms.ensures
    (c.in_ok-variables.ensures ∙ ap (λ cs. places_from 0 (turned n (variables_in cs c.deref.result.now ∷ [])) 0) store ∙ ap (λ axioms. places_from 0 (turned n (variables_in (clauses sheet) axioms ∷ [])) 0) c.deref.ensures.value)
    (c.in_ok-cells_of.ensures ∙ c.deref-2.ensures.value) (c.in_ok-variables_of.ensures ∙ c.deref-3.ensures.value)
