use Rattle.std.proofs.Common.{List, ℕ, ap, subst}
use Rattle.std.proofs.lemmas.List.{take_all}
use Rattle.pc_ask.specs.inside.Reading.{AreMarksOf, has_mark}
use Rattle.pc_ask.proofs.ReadMarks.{read_more}
use Rattle.pc_ask.proofs.candidates.read_marks.Goals as goal

pub loop-cell-init : goal.loop-cell-init
loop-cell-init c n = ap (λ ms. has_mark ms n) c.new-marks.ensures.items

pub loop-cell-preserved : goal.loop-cell-preserved
loop-cell-preserved c = read_more c.args.reads.now c.loop-cell.cell-index c.loop-cell.marks.items c.mark.new.marks.items c.loop-cell-test.true c.loop-cell.invariant c.in_ok-mark.ensures

pub returns : goal.returns
returns c = subst (λ (ns : List ℕ). AreMarksOf ns c.loop-cell.marks.items) (take_all c.loop-cell.cell-index c.args.reads.now c.loop-cell-test.false) c.loop-cell.invariant
