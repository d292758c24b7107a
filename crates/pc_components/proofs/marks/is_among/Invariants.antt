use Rattle.std.proofs.Common.{◌≡◌, drop}
use Rattle.pc_parts.specs.PartSheets.{is_among}
use Rattle.pc_components.proofs.marks.is_among.Given as goal

abbrev pub invariant-loop-other : goal.invariant-loop-other
invariant-loop-other l = is_among l.row l.number ≡ is_among (drop l.other-index l.row) l.number
