use Rattle.std.proofs.Common.{◌≡◌, false, take}
use Rattle.std.specs.List.{list_any}
use Rattle.pc_writer.proofs.CountedLemmas.{counts}
use Rattle.pc_writer.proofs.counted.+counted.Given as goal

abbrev pub invariant-have_count-loop-part : goal.invariant-have_count-loop-part
invariant-have_count-loop-part l = list_any counts (take l.part-index l.parts) ≡ false
