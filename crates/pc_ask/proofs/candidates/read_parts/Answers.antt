use Rattle.std.proofs.Common.{◌≡◌, List, IfOk, sym, subst}
use Rattle.pc_repairs.specs.declared.part_sets.PartSets.{PartSets}
use Rattle.pc_ask.specs.inside.Reading.{AreMarksOf}
use Rattle.pc_ask.proofs.ReadMarks.{same_parts}
use Rattle.pc_ask.proofs.candidates.read_parts.Goals as goal

pub returns : goal.returns
returns c =
    subst (λ (ps : List PartSets). IfOk c.marked_parts.result (λ parts. parts.items ≡ ps))
    (same_parts c.args.reads.now c.deref.result.now (subst (AreMarksOf c.args.reads.now) (sym c.deref.ensures.value) c.in_ok-marks.ensures) c.args.all.now) c.marked_parts.ensures
