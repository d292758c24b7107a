use Rattle.std.proofs.Common.{sym, ◌∙◌}
use Rattle.pc_components.proofs.TiedRight.{all_tied, tied_more, none_tied}
use Rattle.pc_components.proofs.tied.tie_all.Goals as goal

pub loop-place-preserved : goal.loop-place-preserved
loop-place-preserved c = tied_more c.args.cells.now c.loop-place.place 0 0 c.loop-place.labels.items c.tie.new.labels.items _ c.loop-place-test.true c.loop-place.invariant c.tie.ensures

pub returns : goal.returns
returns c = sym (none_tied c.args.cells.now c.loop-place.place c.loop-place.labels.items c.loop-place-test.false) ∙ c.loop-place.invariant ∙ all_tied c.args.cells.now c.args.labels.now.items
