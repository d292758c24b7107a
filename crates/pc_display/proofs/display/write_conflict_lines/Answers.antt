use Rattle.std.proofs.Common.{ℕ, Bool, List, ap}
use Rattle.std.specs.List.{flat_map}
use Rattle.std.proofs.lemmas.Option.{slice_get-get_or}
use Rattle.pc_sheet.specs.declared.ids.Entry.{Entry}
use Rattle.pc_writer.proofs.InTurn.{Writes-nil, Writes-same}
use Rattle.pc_writer.proofs.InPieces.{all_pieces, cut_in_piece, one_more_piece}
use Rattle.pc_display.specs.Show.{conflict_line, conflict_of}
use Rattle.pc_display.proofs.LineLemmas.{no_entry}
use Rattle.pc_display.proofs.display.write_conflict_lines.Goals as goal

pub loop-entry-init : goal.loop-entry-init
loop-entry-init g c = λ reason is. Writes-nil g.O.Sink.given g.O.Sink.faults c.args.out.now tt

pub loop-entry-preserved : goal.loop-entry-preserved
loop-entry-preserved g c = λ reason is.
    let u = (g.V.Supports.sheet c.args.view.now).universe in
    let line : Entry → List ℕ = λ e. conflict_line u c.args.sort c.are_several-several.result e.value (conflict_of reason e) in
    one_more_piece line c.args.entries.now c.loop-entry.entry-index _ (slice_get-get_or c.args.entries.now c.loop-entry.entry-index no_entry c.loop-entry-test.true) (c.loop-entry.invariant reason is) (c.in_ok-write_if_clashing.ensures reason is)

pub returns-in_err-write_if_clashing : goal.returns-in_err-write_if_clashing
returns-in_err-write_if_clashing g c = λ reason is.
    let u = (g.V.Supports.sheet c.args.view.now).universe in
    let line : Bool → Entry → List ℕ = λ several e. conflict_line u c.args.sort several e.value (conflict_of reason e) in
    Writes-same (ap (λ several. flat_map (line several) c.args.entries.now) c.are_several-several.ensures)
    (cut_in_piece (line c.are_several-several.result) c.args.entries.now c.loop-entry.entry-index _ (slice_get-get_or c.args.entries.now c.loop-entry.entry-index no_entry c.loop-entry-test.true) (c.loop-entry.invariant reason is)
    c.from_residual.result c.from_residual.ensures.0 (c.in_err-write_if_clashing.ensures reason is))

pub returns : goal.returns
returns g c = λ reason is.
    let u = (g.V.Supports.sheet c.args.view.now).universe in
    let line : Bool → Entry → List ℕ = λ several e. conflict_line u c.args.sort several e.value (conflict_of reason e) in
    Writes-same (ap (λ several. flat_map (line several) c.args.entries.now) c.are_several-several.ensures)
    (all_pieces (line c.are_several-several.result) c.args.entries.now c.loop-entry.entry-index c.loop-entry-test.false (c.loop-entry.invariant reason is))
