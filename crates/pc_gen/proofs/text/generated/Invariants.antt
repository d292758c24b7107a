use Rattle.std.proofs.Common.{◌≡◌, ◌++◌, string_bytes}
use Rattle.std.specs.List.{flat_map}
use Rattle.pc_gen.specs.Text.{ended, head_lines}
use Rattle.pc_gen.proofs.Pieces.{blocks_text}
use Rattle.pc_gen.proofs.text.generated.Given as goal

abbrev pub invariant-loop-done : goal.invariant-loop-done
invariant-loop-done l = string_bytes l.text ≡ flat_map ended (head_lines l.n) ++ blocks_text l.done
