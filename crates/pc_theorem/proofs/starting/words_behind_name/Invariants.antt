use Rattle.std.proofs.Common.{◌≡◌, ◌++◌, map, string_bytes}
use Rattle.std.specs.Vec.Iter.{into_iter_items, into_iter_len}
use Rattle.pc_theorem.specs.Starting.{behind_name}
use Rattle.pc_theorem.proofs.starting.words_behind_name.Given as goal

abbrev pub invariant-loop-word : goal.invariant-loop-word
invariant-loop-word l = map string_bytes l.words.items ++ map string_bytes (into_iter_items l.args) ≡ behind_name (map string_bytes (into_iter_items l.fn.args))

abbrev pub decreases-loop-word : goal.decreases-loop-word
decreases-loop-word l = into_iter_len l.args
