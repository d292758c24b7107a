use Rattle.std.proofs.Common.{◌+◌, List, take, sym, subst}
use Rattle.std.specs.List.{AllZip}
use Rattle.pc_world_list.specs.Chosen.{chosen_parts}
use Rattle.pc_repairs.specs.inside.Joining.{IsPartSets}
use Rattle.pc_repairs.specs.declared.part_sets.PartSets.{PartSets}
use Rattle.pc_repairs.proofs.PartSetsMade.{lent_part}
use Rattle.pc_repairs.proofs.Written.{zip_more}
use Rattle.pc_repairs.proofs.part_sets.sets_by_part.Goals as goal

pub loop-part-preserved : goal.loop-part-preserved
loop-part-preserved g c =
    let sheet = g.C.Choices.sheet c.args.view.now in
    let q : PartSets = record { cells = c.cells.result; sets = c.sets.result } in
    let lent = lent_part sheet c.loop-part.part q c.cells.ensures c.sets.ensures in
    subst (λ (items : List PartSets). AllZip (IsPartSets sheet) (take (c.loop-part.part + 1) (chosen_parts sheet)) items) (sym c.in_ok-push.ensures.items)
    (zip_more (IsPartSets sheet) (chosen_parts sheet) c.loop-part.parts.items c.loop-part.part lent.0 q lent.1 c.loop-part.invariant lent.2)
