use Rattle.std.proofs.Common.{◌≡◌, ◌++◌, take}
use Rattle.pc_ground.proofs.push.append_spans.Given as goal

abbrev pub invariant-loop-span : goal.invariant-loop-span
invariant-loop-span l = l.spans.items ≡ l.fn.spans.items ++ take l.span-index l.more
