use Rattle.std.proofs.Common.{◌≡◌, [], length, All}
use Rattle.pc_cache.proofs.blocks.empty_blocks.Given as goal

abbrev pub invariant-loop-block : goal.invariant-loop-block
invariant-loop-block l = record {
  size : length l.blocks.items ≡ l._block;
  empty : All (λ b. b ≡ []) l.blocks.items;
}
